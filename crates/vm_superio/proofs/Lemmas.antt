-- SPDX-License-Identifier: Apache-2.0 OR BSD-3-Clause
-- Lemmas on what a writer took over several calls.
pub mod Examples
pub mod Serial
use Rattle.std.proofs.Common.{◌≡◌, ℕ, List, [], ◌∷◌, ◌++◌, Option, sym, subst, append_assoc, append-nil, arith}
use Rattle.std.proofs.lemmas.Bool.{false≢true}
use Rattle.std.specs.Io.KnownBytes.{Appends}
use Rattle.vm_superio.specs.Serial.{Sent}
use Rattle.vm_superio.specs.Links.{Contents}
use Rattle.vm_superio.specs.Links.Writer.{WriterLink, KnownOutputLaw}

-- a writer that took nothing
pub Appends-nothing : (known : Option (List ℕ)) → Appends known known []
Appends-nothing known = grind (arith, append-nil)

pub Appends-append : (before middle after : Option (List ℕ)) (xs ys : List ℕ) → Appends before middle xs → Appends middle after ys → Appends before after (xs ++ ys)
Appends-append before middle after xs ys first second = grind (arith, append_assoc)

module _ {W : Type 0} (contents : Contents W) where
  -- bytes sent, and then bytes sent
  pub WriterLink-append :
      (outcomes more_outcomes : List Sent) (bytes more : List ℕ) (old between new : W) →
      WriterLink contents outcomes bytes old between → WriterLink contents more_outcomes more between new →
      WriterLink contents (outcomes ++ more_outcomes) (bytes ++ more) old new
  WriterLink-append [] more_outcomes [] more old between new first second =
      subst (λ writer. WriterLink contents more_outcomes more writer new) (sym first) second
  WriterLink-append (Sent.Out ∷ outcomes) more_outcomes (byte ∷ bytes) more old between new first second =
      (first.0, first.1, WriterLink-append outcomes more_outcomes bytes more first.0 between new first.2 second)
  WriterLink-append (Sent.Lost ∷ outcomes) more_outcomes (byte ∷ bytes) more old between new first second =
      (first.0, WriterLink-append outcomes more_outcomes bytes more first.0 between new first.1 second)
  WriterLink-append _ more_outcomes _ more old between new first second = absurd first

  pub known_output_law : KnownOutputLaw contents
  known_output_law old new [] [] link kept =
      subst (λ writer. Appends (contents old) (contents writer) []) link (Appends-nothing (contents old))
  known_output_law old new (Sent.Out ∷ outcomes) (byte ∷ bytes) link kept =
      Appends-append (contents old) (contents link.0) (contents new) (byte ∷ []) bytes link.1
      (known_output_law link.0 new outcomes bytes link.2 kept)
  known_output_law old new (Sent.Lost ∷ outcomes) bytes link kept = absurd (false≢true kept)
  known_output_law old new _ _ link kept = absurd link
