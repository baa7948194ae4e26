-- SPDX-License-Identifier: Apache-2.0 OR BSD-3-Clause
-- What a console that echoes has sent, and then what waits, are the bytes that came, in order.
use Rattle.std.proofs.Common.{◌≡◌, ℕ, Option, List, [], ◌∷◌, ◌++◌, length, take, drop, sym, ap, ◌∙◌, append_assoc, append-nil, arith}
use Rattle.std.specs.Io.KnownBytes.{Appends, Keeps, append_known}
use Rattle.std.proofs.KnownBytes.{append_known-moved}
use Rattle.std.proofs.lemmas.List.{take-append-drop}

pub first_then_others : (sent held : List ℕ) → (sent ++ take 1 held) ++ drop 1 held ≡ sent ++ held
first_then_others sent held =
    append_assoc sent (take 1 held) (drop 1 held) ∙ ap (λ bytes. sent ++ bytes) (take-append-drop 1 held)

-- with nothing left, all is sent
pub all_sent : (sent rest all : List ℕ) → length rest ≡ 0 → sent ++ rest ≡ all → sent ≡ all
all_sent sent [] all none is = sym (append-nil sent) ∙ is
all_sent sent (byte ∷ rest) all none is = absurd (omega (arith, none))

-- a byte that a writer took was the first of those that were held
pub one_passed : (a b : Option (List ℕ)) (front rest all : List ℕ) → Appends a b front → all ≡ front ++ rest
    → Keeps (append_known a all) (append_known b rest)
one_passed a b front rest all took is = append_known-moved a b front rest all took is
