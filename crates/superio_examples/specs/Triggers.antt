-- SPDX-License-Identifier: Apache-2.0 OR BSD-3-Clause
-- Interrupt lines: one that counts its calls, and one that keeps interrupts up to a limit.
use Rattle.std.specs.Prelude.{◌≡◌, ◌↔◌, ◌+◌, ◌-◌, ◌^◌, if◌then◌else◌, min, Result, List, [], ◌++◌, count_by}
use Rattle.std.specs.Result.{is_ok}
use Rattle.std.proofs.Common.{arith}
use Rattle.std.proofs.lemmas.List.Sums.{sum_by-append}
use Rattle.superio_examples.specs.declared.triggers.Counter.{Counter}
use Rattle.superio_examples.specs.declared.triggers.InterruptLine.{InterruptLine}

-- the line after one more call, whatever it answered. The count saturates at 2^64 - 1
abbrev pub after_call : {E : Type 0} → (line : Counter) (answer : Result (Unit {0}) E) → Counter
after_call line answer = record line { calls = min (line.calls + 1) (2 ^ 64 - 1) }

-- a link: one more interrupt waits for each call that was taken, and the limit stays
pub record TakesCalls
    {E : Type 0} (old : InterruptLine) (answers : List (Result (Unit {0}) E)) (new : InterruptLine) : Type 0 where
  pub waiting : new.waiting ≡ old.waiting + count_by is_ok answers
  pub limit : new.limit ≡ old.limit

-- the law `empty`: without a call nothing changes
pub TakesCalls-nil : {E : Type 0} (old new : InterruptLine) → TakesCalls {E = E} old [] new ↔ (old ≡ new)
TakesCalls-nil old new = (λ silent. grind arith, λ same. grind arith)

-- the law `append`: calls that follow each other are one list of calls
pub TakesCalls-append :
    {E : Type 0} (old between new : InterruptLine) (first second : List (Result (Unit {0}) E))
    → TakesCalls old first between → TakesCalls between second new → TakesCalls old (first ++ second) new
TakesCalls-append {E} old between new first second to_between to_new =
    let counted = sum_by-append (λ (answer : Result (Unit {0}) E). if is_ok answer then 1 else 0) first second in
    record {
      waiting = omega (arith, to_between.waiting, to_new.waiting, counted);
      limit = grind arith;
    }
