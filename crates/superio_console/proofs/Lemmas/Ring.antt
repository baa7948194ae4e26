-- SPDX-License-Identifier: Apache-2.0 OR BSD-3-Clause
-- The 4,096 places of a ring, as a list from the oldest byte's place on.
use Rattle.std.proofs.Common.{◌≡◌, ◌%◌, ℕ, ◌<◌, ap, ◌∙◌, arith, ◌+◌, ◌-◌, ◌≤◌, min, List, [], ◌∷◌, ◌++◌, length, take, drop, set, sym, append-nil, take_all, inl, inr, length-append, length-take, length-drop}
use Rattle.std.proofs.lemmas.Nat.{mod_below}
use Rattle.std.proofs.lemmas.List.{drop-set-lt, drop-set-add, take-set-le, set-append_left, set-append_right, take-append-le, take_more_set, append_assoc, take-take, drop-take, drop-drop, drop-append-le, take-append-drop, drop_at, take_at}
use Rattle.std.proofs.lemmas.Bool.{cases_lt}
use Rattle.std.proofs.Math.Seq.{take-append-add, take-set-lt}

abbrev from : (start : ℕ) (places : List ℕ) → List ℕ
from start places = drop start places ++ take start places

pub length-from : (p : ℕ) (xs : List ℕ) → p ≤ length xs → length (from p xs) ≡ length xs
length-from p xs le = omega (arith, length-append (drop p xs) (take p xs), length-drop p xs, length-take p xs)

-- a place at a distance from the start, which lies before the end of the places or after it
data Lies (p d j : ℕ) : Type 0 where
  before : j ≡ p + d → Lies p d j
  after : j + 4096 ≡ p + d → Lies p d j

-- a byte that is written at a distance from the start
from-set :
    (p d j : ℕ) (xs : List ℕ) (b : ℕ) → length xs ≡ 4096 → p < 4096 → d < 4096 → j < 4096
    → Lies p d j → from p (set xs j b) ≡ set (from p xs) d b
from-set p d j xs b long pn dn jn (before at) =
    let here : set xs j b ≡ set xs (p + d) b = ap (λ k. set xs k b) at in
    let dropped : drop p (set xs (p + d) b) ≡ set (drop p xs) d b = drop-set-add p xs d b in
    let taken : take p (set xs (p + d) b) ≡ take p xs = take-set-le p xs (p + d) b (omega arith) in
    let inside : d < length (drop p xs) = omega (arith, length-drop p xs) in
    ap (λ l. from p l) here
    ∙ ap (λ l. l ++ take p (set xs (p + d) b)) dropped
    ∙ ap (λ l. set (drop p xs) d b ++ l) taken
    ∙ sym (set-append_left (drop p xs) (take p xs) d b inside)
from-set p d j xs b long pn dn jn (after at) =
    let dropped : drop p (set xs j b) ≡ drop p xs = drop-set-lt p xs j b (omega arith) in
    let taken : take p (set xs j b) ≡ set (take p xs) j b = take-set-lt p xs j b (omega arith) in
    let back : j ≡ d - (4096 - p) = omega arith in
    let far : length (drop p xs) ≡ 4096 - p = omega (arith, length-drop p xs) in
    ap (λ l. l ++ take p (set xs j b)) dropped
    ∙ ap (λ l. drop p xs ++ l) taken
    ∙ ap (λ k. drop p xs ++ set (take p xs) k b) back
    ∙ sym (set-append_right (drop p xs) (take p xs) (4096 - p) d b far (omega arith))

lies : (f d : ℕ) → d ≤ 4096 → Lies (f % 4096) d ((f + d) % 4096)
lies f d dn =
    let pn : f % 4096 < 4096 = mod_below f 4096 (omega arith) in
    let jn : (f + d) % 4096 < 4096 = mod_below (f + d) 4096 (omega arith) in
    elim (cases_lt (f % 4096 + d) 4096) [
      | inl near ↦ before (omega arith)
      | inr far ↦ after (omega arith)
    ]

-- a byte in the first place past the ring's first d bytes
pub take-ring-set :
    (f d : ℕ) (xs : List ℕ) (b : ℕ) → length xs ≡ 4096 → d < 4096
    → take (d + 1) (from (f % 4096) (set xs ((f + d) % 4096) b)) ≡ take d (from (f % 4096) xs) ++ b ∷ []
take-ring-set f d xs b long dn =
    let p = f % 4096 in
    let pn : p < 4096 = mod_below f 4096 (omega arith) in
    let inside : d < length (from p xs) = omega (arith, length-from p xs (omega arith)) in
    ap (take (d + 1)) (from-set p d ((f + d) % 4096) xs b long pn dn (mod_below (f + d) 4096 (omega arith)) (lies f d (omega arith)))
    ∙ take_more_set (from p xs) d b inside

-- the first bytes of two parts of a list
split-at : (p k : ℕ) (xs : List ℕ) → take (p + k) xs ≡ take p xs ++ drop p (take (p + k) xs)
split-at p k xs =
    sym (ap (λ l. l ++ drop p (take (p + k) xs)) (sym (take-take p (p + k) xs (omega arith))) ∙ take-append-drop p (take (p + k) xs))

-- the ring without its oldest k bytes
ring-rest :
    (p k q n : ℕ) (xs : List ℕ) → length xs ≡ 4096 → p < 4096 → q < 4096 → k ≤ n → n ≤ 4096 → Lies p k q
    → take (n - k) (from q xs) ≡ drop k (take n (from p xs))
ring-rest p k q n xs long pn qn kn nn (before at) =
    let near : k ≤ length (drop p xs) = omega (arith, length-drop p xs) in
    let rest = drop (p + k) xs ++ take p xs in
    let fits : n - k ≤ length rest =
    omega (arith, length-append (drop (p + k) xs) (take p xs), length-drop (p + k) xs, length-take p xs) in
    let count : k + (n - k) ≡ n = omega arith in
    let apart : drop k (drop p xs) ≡ drop (p + k) xs =
    drop-drop k p xs ∙ ap (λ d. drop d xs) (omega arith) in
    let left : take (n - k) (from q xs) ≡ take (n - k) rest =
    ap (λ place. take (n - k) (from place xs)) at
    ∙ ap (λ l. take (n - k) (drop (p + k) xs ++ l)) (split-at p k xs)
    ∙ ap (take (n - k)) (sym (append_assoc (drop (p + k) xs) (take p xs) (drop p (take (p + k) xs))))
    ∙ take-append-le (n - k) rest (drop p (take (p + k) xs)) fits in
    left
    ∙ ap (λ l. take (n - k) (l ++ take p xs)) (sym apart)
    ∙ ap (take (n - k)) (sym (drop-append-le k (drop p xs) (take p xs) near))
    ∙ sym (drop-take k (n - k) (from p xs))
    ∙ ap (λ m. drop k (take m (from p xs))) count
ring-rest p k q n xs long pn qn kn nn (after at) =
    let last = drop p xs in
    let m = 4096 - p in
    let size : length last ≡ m = omega (arith, length-drop p xs) in
    let far : k ≡ m + q = omega arith in
    let back : q + (p - q) ≡ p = omega arith in
    let fits : n - k ≤ length (drop q xs) = omega (arith, length-drop q xs) in
    let few : n - k ≤ p - q = omega arith in
    let count : k + (n - k) ≡ n = omega arith in
    let gone : drop k (from p xs) ≡ drop q (take p xs) =
    ap (λ d. drop d (from p xs)) far
    ∙ sym (drop-drop q m (from p xs))
    ∙ ap (drop q) (drop_at last (take p xs) m size) in
    let kept : drop q (take p xs) ≡ take (p - q) (drop q xs) =
    ap (λ d. drop q (take d xs)) (sym back) ∙ drop-take q (p - q) xs in
    take-append-le (n - k) (drop q xs) (take q xs) fits
    ∙ sym (take-take (n - k) (p - q) (drop q xs) few)
    ∙ ap (take (n - k)) (sym (gone ∙ kept))
    ∙ sym (drop-take k (n - k) (from p xs))
    ∙ ap (λ m. drop k (take m (from p xs))) count

pub take-ring-rest :
    (f g k n : ℕ) (xs : List ℕ) → length xs ≡ 4096 → k ≤ n → n ≤ 4096 → g % 4096 ≡ (f + k) % 4096
    → take (n - k) (from (g % 4096) xs) ≡ drop k (take n (from (f % 4096) xs))
take-ring-rest f g k n xs long kn nn next =
    ap (λ q. take (n - k) (from q xs)) next
    ∙ ring-rest (f % 4096) k ((f + k) % 4096) n xs long (mod_below f 4096 (omega arith))
    (mod_below (f + k) 4096 (omega arith)) kn nn (lies f k (omega arith))

-- ---- the places in two slices

pub take-both : (count older : ℕ) (last first : List ℕ) → older ≡ min count (length last)
    → take older last ++ take (count - older) first ≡ take count (last ++ first)
take-both count older last first is =
    elim (cases_lt count (length last)) [
      | inl fewer ↦
          let all : older ≡ count = omega (arith, is, fewer) in
          let none : count - older ≡ 0 = omega (arith, is, fewer) in
          ap (λ n. take n last ++ take (count - older) first) all
          ∙ ap (λ n. take count last ++ take n first) none
          ∙ append-nil (take count last)
          ∙ sym (take-append-le count last first (omega (arith, fewer)))
      | inr more ↦
          let all : older ≡ length last = omega (arith, is, more) in
          let both : count ≡ length last + (count - older) = omega (arith, is, more) in
          ap (λ l. l ++ take (count - older) first) (take_all older last (omega (arith, all)))
          ∙ sym (ap (λ n. take n (last ++ first)) both ∙ take-append-add last first (count - older))
    ]

-- ---- bytes in the first places

pub from-start : (n : ℕ) (written rest bytes : List ℕ) → n ≤ 4096 → length bytes ≡ n → written ≡ bytes
    → take (min n 4096) (from 0 (written ++ rest)) ≡ bytes
from-start n written rest bytes few size are =
    let all : min n 4096 ≡ n = omega (arith, few) in
    ap (λ n. take n (from 0 (written ++ rest))) all
    ∙ ap (take n) (append-nil (written ++ rest))
    ∙ ap (λ l. take n (l ++ rest)) are
    ∙ take_at bytes rest n size
