-- SPDX-License-Identifier: Apache-2.0 OR BSD-3-Clause
-- Lemmas on a port's bits, states and places.
pub mod Coherence
pub mod FirstRefused
pub mod Step
use Rattle.std.proofs.Common.{◌≡◌, ◌%◌, lit<, ℕ, zero, suc, ◌<◌, true, false, ◌==◌, refl, ap, ◌∙◌, arith, ◌+◌, ◌-◌, ◌≤◌, List, [], ◌∷◌, ◌++◌, length, take, drop, set, get_or, sym, subst, inl, inr, length-append, length-take, length-drop, append-nil, slice_get, Some, bit_or}
use Rattle.std.proofs.Math.Nat.{mod-lt}
use Rattle.std.proofs.lemmas.Nat.{and_assoc, mod_below}
use Rattle.std.specs.Int.Bits.{and_mask, or_mod}
use Rattle.std.proofs.lemmas.List.{drop-set-lt, drop-set-add, take-set-le, set-append_left, set-append_right, take-append-le, take_more_set, drop_all, append_assoc, take-take, drop-take, drop-drop, drop-append-le}
use Rattle.std.proofs.lemmas.Bool.{cases_lt}
use Rattle.std.proofs.Math.Seq.{take-set-lt, drop-cons, take-suc, take-append-add}
use Rattle.superio_core.specs.Bits.{has_bits, only_bits, with_bits, without_bits}
use Rattle.superio_core.proofs.Lemmas.{and-without}
use Rattle.superio_core.specs.Serial.{Coherent, ring_contents, ArrayFifo, fresh_state}
use Rattle.superio_core.specs.Serial.RegisterMap.{ier_bits}
use Rattle.superio_core.specs.Serial.Operations.{events_of_read, buffer_read, in_buffer_empty}

-- ---- data ready, the lowest bit

pub data_ready_set : (byte : ℕ) → has_bits (with_bits byte 0x01) 0x01 ≡ true
unfolding has_bits with_bits
data_ready_set byte =
    ap (λ n. n == 0x01) (and_mask (with_bits byte 0x01) 1 ∙ or_mod byte 0x01 1)
    ∙ elim (byte % 2) as
    (λ r. r < 2
    → (bit_or r 1 == 1) ≡ true) [ zero ↦ λ h. refl | suc zero ↦ λ h. refl | suc (suc r) ↦ λ h. absurd (omega arith) ]
    (mod-lt byte (lit< tt))

pub data_ready_cleared : (byte : ℕ) → has_bits (without_bits byte 0x01) 0x01 ≡ false
unfolding has_bits
data_ready_cleared byte = ap (λ n. n == 0x01) (and-without byte 0x01)

-- ---- IER

pub enables_rda : (value : ℕ) → has_bits (only_bits value ier_bits) 0x01 ≡ has_bits value 0x01
unfolding has_bits only_bits
enables_rda value = ap (λ n. n == 0x01) (and_assoc 0x01 value ier_bits)

pub enables_thre : (value : ℕ) → has_bits (only_bits value ier_bits) 0x02 ≡ has_bits value 0x02
unfolding has_bits only_bits
enables_thre value = ap (λ n. n == 0x02) (and_assoc 0x02 value ier_bits)

-- ---- a fresh port is coherent

pub fresh_coherent : Coherent fresh_state
unfolding has_bits
fresh_coherent = record {
  thre = false;
  rda = false;
  identification = refl;
  received = λ impossible. impossible;
  data_ready = refl;
  at_most_64 = omega arith;
}

-- ---- sixty-four places in a ring, as a list from the oldest byte's place on

abbrev from : (start : ℕ) (places : List ℕ) → List ℕ
from start places = drop start places ++ take start places

pub length-from : (p : ℕ) (xs : List ℕ) → p ≤ length xs → length (from p xs) ≡ length xs
length-from p xs le = omega (arith, length-append (drop p xs) (take p xs), length-drop p xs, length-take p xs)

-- a place at a distance from the start, which lies before the end of the places or after it
pub data Lies (p d j : ℕ) : Type 0 where
  before : j ≡ p + d → Lies p d j
  after : j + 64 ≡ p + d → Lies p d j

-- a byte that is written at a distance from the start
from-set :
    (p d j : ℕ) (xs : List ℕ) (b : ℕ) → length xs ≡ 64 → p < 64 → d < 64 → j < 64
    → Lies p d j → from p (set xs j b) ≡ set (from p xs) d b
from-set p d j xs b long pn dn jn (before at) =
    let here : set xs j b ≡ set xs (p + d) b = ap (λ k. set xs k b) at in
    let dropped : drop p (set xs (p + d) b) ≡ set (drop p xs) d b = drop-set-add p xs d b in
    let taken : take p (set xs (p + d) b) ≡ take p xs = take-set-le p xs (p + d) b (omega arith) in
    let inside : d < length (drop p xs) = omega (arith, length-drop p xs) in
    ap (λ l. from p l) here
    ∙ ap (λ l. l ++ take p (set xs (p + d) b)) dropped
    ∙ ap (λ l. set (drop p xs) d b ++ l) taken
    ∙ sym (set-append_left (drop p xs) (take p xs) d b inside)
from-set p d j xs b long pn dn jn (after at) =
    let dropped : drop p (set xs j b) ≡ drop p xs = drop-set-lt p xs j b (omega arith) in
    let taken : take p (set xs j b) ≡ set (take p xs) j b = take-set-lt p xs j b (omega arith) in
    let back : j ≡ d - (64 - p) = omega arith in
    let far : length (drop p xs) ≡ 64 - p = omega (arith, length-drop p xs) in
    ap (λ l. l ++ take p (set xs j b)) dropped
    ∙ ap (λ l. drop p xs ++ l) taken
    ∙ ap (λ k. drop p xs ++ set (take p xs) k b) back
    ∙ sym (set-append_right (drop p xs) (take p xs) (64 - p) d b far (omega arith))

-- one more byte after those that are held
take-from-set :
    (p d j : ℕ) (xs : List ℕ) (b : ℕ) → length xs ≡ 64 → p < 64 → d < 64 → j < 64
    → Lies p d j → take (d + 1) (from p (set xs j b)) ≡ take d (from p xs) ++ b ∷ []
take-from-set p d j xs b long pn dn jn at =
    let inside : d < length (from p xs) = omega (arith, length-from p xs (omega arith)) in
    ap (take (d + 1)) (from-set p d j xs b long pn dn jn at) ∙ take_more_set (from p xs) d b inside

-- bytes that are copied to a distance from the start, into places up to the last one: `copied` are the places after it
take-from-copy :
    (p d q : ℕ) (places copied bytes : List ℕ) → length places ≡ 64 → p < 64 → d + length bytes ≤ 64
    → q + length bytes ≤ 64 → take (q + length bytes) copied ≡ take q places ++ bytes
    → drop (q + length bytes) copied ≡ drop (q + length bytes) places
    → Lies p d q → take (d + length bytes) (from p copied) ≡ take d (from p places) ++ bytes
take-from-copy p d q places copied bytes long pn dn qn written rest (before at) =
    let n = length bytes in
    let same : length copied ≡ 64 =
    omega (arith, ap length written, ap length rest, length-take (q + n) copied, length-drop (q + n) copied, length-append (take q places) bytes, length-take q places, length-drop (q + n) places) in
    let end : q + n ≡ p + (d + n) = omega arith in
    let inside : d + n ≤ length (drop p copied) = omega (arith, length-drop p copied) in
    let held : d ≤ length (drop p places) = omega (arith, length-drop p places) in
    let begin : p ≤ length (take q places) = omega (arith, length-take q places) in
    take-append-le (d + n) (drop p copied) (take p copied) inside
    ∙ sym (drop-take p (d + n) copied)
    ∙ ap (λ k. drop p (take k copied)) (sym end)
    ∙ ap (drop p) written
    ∙ drop-append-le p (take q places) bytes begin
    ∙ ap (λ k. drop p (take k places) ++ bytes) at
    ∙ ap (λ l. l ++ bytes) (drop-take p d places)
    ∙ sym (ap (λ l. l ++ bytes) (take-append-le d (drop p places) (take p places) held))
take-from-copy p d q places copied bytes long pn dn qn written rest (after at) =
    let n = length bytes in
    let last = drop p places in
    let size : length last ≡ 64 - p = omega (arith, length-drop p places) in
    let more : p ≡ q + n + (p - (q + n)) = omega arith in
    let kept : drop p copied ≡ last =
    ap (λ k. drop k copied) more
    ∙ sym (drop-drop (p - (q + n)) (q + n) copied)
    ∙ ap (drop (p - (q + n))) rest
    ∙ drop-drop (p - (q + n)) (q + n) places
    ∙ sym (ap (λ k. drop k places) more) in
    let far : d + n ≡ length last + (q + n) = omega arith in
    let near : d ≡ length last + q = omega arith in
    ap (λ l. take (d + n) (l ++ take p copied)) kept
    ∙ ap (λ k. take k (last ++ take p copied)) far
    ∙ take-append-add last (take p copied) (q + n)
    ∙ ap (λ l. last ++ l) (take-take (q + n) p copied (omega arith) ∙ written)
    ∙ sym (append_assoc last (take q places) bytes)
    ∙ sym (ap (λ k. take k (last ++ take p places) ++ bytes) near
    ∙ ap (λ l. l ++ bytes) (take-append-add last (take p places) q)
    ∙ ap (λ l. (last ++ l) ++ bytes) (take-take q p places (omega arith)))

lies : (f d : ℕ) → d ≤ 64 → Lies (f % 64) d ((f + d) % 64)
lies f d dn =
    let pn : f % 64 < 64 = mod_below f 64 (omega arith) in
    let jn : (f + d) % 64 < 64 = mod_below (f + d) 64 (omega arith) in
    elim (cases_lt (f % 64 + d) 64) [
      | inl near ↦ before (omega arith)
      | inr far ↦ after (omega arith)
    ]

-- a byte in the first place past the ring's first d bytes
pub take-ring-set :
    (f d : ℕ) (xs : List ℕ) (b : ℕ) → length xs ≡ 64 → d < 64
    → take (d + 1) (from (f % 64) (set xs ((f + d) % 64) b)) ≡ take d (from (f % 64) xs) ++ b ∷ []
take-ring-set f d xs b long dn =
    take-from-set (f % 64) d ((f + d) % 64) xs b long (mod_below f 64 (omega arith)) dn
    (mod_below (f + d) 64 (omega arith)) (lies f d (omega arith))

-- bytes in the places past the ring's first d bytes
pub take-ring-copy :
    (f d q : ℕ) (places copied bytes : List ℕ) → q ≡ (f + d) % 64 → length places ≡ 64
    → d + length bytes ≤ 64 → q + length bytes ≤ 64
    → take (q + length bytes) copied ≡ take q places ++ bytes
    → drop (q + length bytes) copied ≡ drop (q + length bytes) places
    → take (d + length bytes) (from (f % 64) copied) ≡ take d (from (f % 64) places) ++ bytes
take-ring-copy f d q places copied bytes here long dn qn written rest =
    take-from-copy (f % 64) d q places copied bytes long (mod_below f 64 (omega arith)) dn qn written rest
    (subst (λ place. Lies (f % 64) d place) (sym here) (lies f d (omega arith)))

-- the ring without its oldest byte
ring-rest :
    (p q n : ℕ) (xs : List ℕ) → length xs ≡ 64 → p < 64 → n < 64 → Lies p 1 q
    → take n (from q xs) ≡ drop 1 (take (suc n) (from p xs))
ring-rest p q n xs long pn le (before at) =
    let r = drop (suc p) xs ++ take p xs in
    let head : drop p xs ≡ get_or xs p 0 ∷ drop (suc p) xs = drop-cons xs p 0 (omega arith) in
    let last : take (suc p) xs ≡ take p xs ++ get_or xs p 0 ∷ [] = take-suc xs p 0 (omega arith) in
    let fits : n ≤ length r =
    omega (arith, length-append (drop (suc p) xs) (take p xs), length-drop (suc p) xs, length-take p xs) in
    let next : q ≡ suc p = omega arith in
    ap (λ k. take n (from k xs)) next
    ∙ ap (λ l. take n (drop (suc p) xs ++ l)) last
    ∙ ap (take n) (sym (append_assoc (drop (suc p) xs) (take p xs) (get_or xs p 0 ∷ [])))
    ∙ take-append-le n r (get_or xs p 0 ∷ []) fits
    ∙ sym (ap (λ l. drop 1 (take (suc n) (l ++ take p xs))) head)
ring-rest p q n xs long pn le (after at) =
    let head : drop p xs ≡ get_or xs p 0 ∷ drop (suc p) xs = drop-cons xs p 0 (omega arith) in
    let none : drop (suc p) xs ≡ [] = drop_all (suc p) xs (omega arith) in
    let begin : q ≡ 0 = omega arith in
    ap (λ k. take n (from k xs)) begin
    ∙ ap (take n) (append-nil xs)
    ∙ sym (take-take n p xs (omega arith))
    ∙ sym (ap (λ l. drop 1 (take (suc n) (l ++ take p xs))) head ∙ ap (λ l. take n (l ++ take p xs)) none)

pub take-ring-rest :
    (f g n : ℕ) (xs : List ℕ) → length xs ≡ 64 → n < 64 → g % 64 ≡ (f + 1) % 64
    → take n (from (g % 64) xs) ≡ drop 1 (take (suc n) (from (f % 64) xs))
take-ring-rest f g n xs long le next =
    ap (λ k. take n (from k xs)) next
    ∙ ring-rest (f % 64) ((f + 1) % 64) n xs long (mod_below f 64 (omega arith)) le (lies f 1 (omega arith))

-- the oldest byte
pub ring-first :
    (f n : ℕ) (xs : List ℕ) → length xs ≡ 64
    → slice_get (take (suc n) (from (f % 64) xs)) 0 ≡ Some (get_or xs (f % 64) 0)
ring-first f n xs long =
    let pn : f % 64 < 64 = mod_below f 64 (omega arith) in
    ap (λ l. slice_get (take (suc n) (l ++ take (f % 64) xs)) 0) (drop-cons xs (f % 64) 0 (omega arith))

-- ---- worked examples of a port: which bytes its places hold, and which events a read reports

-- ---- bytes; four places stand for the sixty-four

abbrev fifo : (first held : ℕ) → ArrayFifo
fifo first held = record { head = first; len = held; bytes = 0x61 ∷ 0x62 ∷ 0x63 ∷ 0x64 ∷ [] }

oldest_first : ring_contents (fifo 1 2) ≡ 0x62 ∷ 0x63 ∷ []
oldest_first = refl

round_the_end : ring_contents (fifo 3 3) ≡ 0x64 ∷ 0x61 ∷ 0x62 ∷ []
round_the_end = refl

first_counts_modulo_64 : ring_contents (fifo 195 3) ≡ ring_contents (fifo 3 3)
first_counts_modulo_64 = refl

none_held : ring_contents (fifo 2 0) ≡ []
none_held = refl

more_than_all_are_all : ring_contents (fifo 2 255) ≡ 0x63 ∷ 0x64 ∷ 0x61 ∷ 0x62 ∷ []
more_than_all_are_all = refl

-- ---- events

empty_comes_first :
    events_of_read record { byte = 0; buffer_read = true; in_buffer_empty = true }
    ≡ in_buffer_empty ∷ buffer_read ∷ []
empty_comes_first = refl
