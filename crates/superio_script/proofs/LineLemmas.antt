-- SPDX-License-Identifier: Apache-2.0 OR BSD-3-Clause
-- Lemmas on how bytes are split into lines and fields, on the lines of the clock, and on reads.
use Rattle.std.proofs.Common.{◌≡◌, ℕ, List, length, ◌≤◌, Option, Some, None, refl, ap, sym, ◌∙◌, ◌<◌, true, false, [], ◌∷◌, arith, ◌+◌, ◌++◌, take, subst, append_assoc, length-append, ◌≢◌, if◌then◌else◌, suc, zero, ◌==◌, ◌-◌, drop, get_or, add-one}
use Rattle.std.specs.Io.KnownBytes.{Consumes}
use Rattle.std.proofs.lemmas.List.{length-take-le, take-append-le, take_rest}
use Rattle.std.proofs.Math.Seq.{take-append-add}
use Rattle.superio_laws.specs.Rtc.{RtcState, Access, fresh_clock, clock_step, clock_response, clock_of_history, clock_history_response}
use Rattle.superio_laws.proofs.Lemmas.Rtc.{GoesOnByHistory-step, clock_is_history}
use Rattle.std.specs.List.{position, position_from}
use Rattle.std.proofs.lemmas.Iterator.Adapters.{position_from-zero}
use Rattle.std.proofs.lemmas.List.Quantifiers.{position-Some}
use Rattle.superio_script.specs.Fields.{prepend_to_first, pieces_of, lines_of}

-- ---- what an access of the clock does, after these accesses

pub clock_goes_on :
    (accesses : List Access) (old new : RtcState) (access : Access) → new ≡ clock_step old access → old ≡ clock_of_history fresh_clock accesses →
    new ≡ clock_of_history fresh_clock (access ∷ accesses)
clock_goes_on accesses old new access made at = GoesOnByHistory-step access made fresh_clock accesses at

pub clock_responds :
    (accesses : List Access) (old : RtcState) (access : Access) (response : Option ℕ) → response ≡ clock_response old access → old ≡ clock_of_history fresh_clock accesses →
    response ≡ clock_history_response fresh_clock accesses access
clock_responds accesses old access response made at = made ∙ clock_is_history.response_follows old access fresh_clock accesses at

-- ---- what several reads together have consumed

-- the front of a room, and after it a part that was filled
take-append-take :
    (filled count : ℕ) (room got rest : List ℕ) → filled ≤ length room → count ≤ length got →
    take (filled + count) (take filled room ++ (got ++ rest)) ≡ take filled room ++ take count got
take-append-take filled count room got rest h k =
    let P : ℕ → Type 0 = λ n. take (n + count) (take filled room ++ (got ++ rest)) ≡ take filled room ++ take count got in
    subst P (length-take-le filled room h)
    (take-append-add (take filled room) (got ++ rest) count ∙ ap (λ more. take filled room ++ more) (take-append-le count got rest k))

-- there is room for what was read
pub room_holds-filled :
    (filled count : ℕ) (room got rest : List ℕ) → filled ≤ length room → count ≤ length got →
    filled + count ≤ length (take filled room ++ (got ++ rest))
room_holds-filled filled count room got rest h k =
    omega (arith, length-take-le filled room h, length-append (take filled room) (got ++ rest), length-append got rest)

-- bytes that were read into the room after those that were read before
pub Consumes-append :
    (before middle after : Option (List ℕ)) (filled count : ℕ) (room got rest : List ℕ) → filled ≤ length room → count ≤ length got →
    Consumes before middle (take filled room) → Consumes middle after (take count got) →
    Consumes before after (take (filled + count) (take filled room ++ (got ++ rest)))
Consumes-append before middle after filled count room got rest h k first second = grind (arith, take-append-take, append_assoc)

pub ruleset reads = (room_holds-filled, Consumes-append)

-- ---- splitting: the first piece ends at the first separator. If there is none, it is all of the bytes

module _ (separator : ℕ) (end : List (List ℕ)) where
  -- at the first separator
  split : (xs : List ℕ) (at : ℕ) → at < length xs → (get_or xs at 0 == separator) ≡ true → ((k : ℕ) → k < at → (get_or xs k 0 == separator) ≡ false)
      → pieces_of separator end xs ≡ take at xs ∷ pieces_of separator end (drop (suc at) xs)
  split [] at inside is before = absurd (omega arith)
  split (x ∷ xs) zero inside is before = rw is refl
  split (x ∷ xs) (suc at) inside is before =
      rw (before 0 (omega arith), split xs at (omega arith) is (λ k earlier. before (suc k) (omega arith))) refl

  pub pieces_of-at_found :
      (xs : List ℕ) (at : ℕ) → position (λ b. b == separator) xs ≡ Some at →
      pieces_of separator end xs ≡ take at xs ∷ pieces_of separator end (take (length xs - (at + 1)) (drop (at + 1) xs))
  pieces_of-at_found xs at found =
      let (inside, is, before) = position-Some (λ b. b == separator) xs at 0 found in
      rw (take_rest, add-one) (split xs at inside is before)

  -- with no separator there is one piece, if there is a byte
  whole : ((b : ℕ) → prepend_to_first b end ≡ (b ∷ []) ∷ []) → (i x : ℕ) (xs : List ℕ) →
      position_from (λ b. b == separator) i (x ∷ xs) ≡ None → pieces_of separator end (x ∷ xs) ≡ (x ∷ xs) ∷ []
  whole one i x [] none = elim (x == separator) as (λ found. (if found then Some i else None) ≡ None → (if found then [] ∷ end else prepend_to_first x end) ≡ (x ∷ []) ∷ []) [
    | true ↦ λ none. absurd cc
    | false ↦ λ _. one x
  ] none
  whole one i x (y ∷ ys) none = elim (x == separator) as (λ found. (if found then Some i else position_from (λ b. b == separator) (i + 1) (y ∷ ys)) ≡ None
      → (if found then [] ∷ pieces_of separator end (y ∷ ys) else prepend_to_first x (pieces_of separator end (y ∷ ys))) ≡ (x ∷ y ∷ ys) ∷ []) [
        | true ↦ λ none. absurd cc
        | false ↦ λ later. rw (whole one (i + 1) y ys later) refl
      ] none

-- the last field
pub pieces_of-last_field :
    (separator : ℕ) (xs : List ℕ) → position (λ b. b == separator) xs ≡ None → pieces_of separator ([] ∷ []) xs ≡ xs ∷ []
pieces_of-last_field separator [] none = refl
pieces_of-last_field separator (x ∷ xs) none = whole separator ([] ∷ []) (λ b. refl) 0 x xs (sym (position_from-zero (λ b. b == separator) (x ∷ xs)) ∙ none)

-- the last line, if it lacks its LF
pub pieces_of-last_line :
    (separator : ℕ) (xs : List ℕ) → position (λ b. b == separator) xs ≡ None → xs ≢ [] → pieces_of separator [] xs ≡ xs ∷ []
pieces_of-last_line separator [] none some = absurd (some refl)
pieces_of-last_line separator (x ∷ xs) none some = whole separator [] (λ b. refl) 0 x xs (sym (position_from-zero (λ b. b == separator) (x ∷ xs)) ∙ none)

-- there are no more lines than bytes
pub length-lines_of-le : (xs : List ℕ) → length (lines_of xs) ≤ length xs
length-lines_of-le [] = omega arith
length-lines_of-le (x ∷ xs) = elim (x == 10) as (λ found. length (if found then [] ∷ lines_of xs else prepend_to_first x (lines_of xs)) ≤ length (x ∷ xs)) [
  | true ↦ omega (arith, length-lines_of-le xs)
  | false ↦ more (lines_of xs) (length-lines_of-le xs)
]
  where
    more : (lines : List (List ℕ)) → length lines ≤ length xs → length (prepend_to_first x lines) ≤ length (x ∷ xs)
    more [] few = omega arith
    more (line ∷ lines) few = omega arith

pub ruleset first_pieces = (pieces_of-at_found, pieces_of-last_field, pieces_of-last_line)
