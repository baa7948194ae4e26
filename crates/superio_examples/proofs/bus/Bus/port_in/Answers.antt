-- SPDX-License-Identifier: Apache-2.0 OR BSD-3-Clause
use Rattle.std.proofs.Common.{Bool, ◌∷◌, [], take, refl, append_assoc, append-nil, arith}
use Rattle.std.specs.Bool.{OnTrue}
use Rattle.std.proofs.lemmas.List.{take_all, take_more_set}
use Rattle.superio_examples.proofs.bus.Bus.port_in.Goals as goal

pub loop-place-preserved : goal.loop-place-preserved
loop-place-preserved g c =
    let before = c.loop-place.invariant in
    record {
      coherent = λ is. c.read.ensures.coherent (before.coherent is);
      read = λ more new made.
          rw (take_more_set c.loop-place.bytes c.loop-place.place c.read.result (omega arith), append_assoc)
          (before.read (c.read.result ∷ more) new (c.read.new.self, c.read.ensures.step, made));
    }

on-true : {P : Type 0} (test : Bool) → P → OnTrue test P
on-true test holds = grind arith

pub returns-clause-bytes : goal.returns-clause-bytes
returns-clause-bytes g c =
    on-true _ (rw (append-nil (take c.loop-place.place c.loop-place.bytes), take_all c.loop-place.place c.loop-place.bytes (omega arith))
    at (c.loop-place.invariant.read [] c.loop-place.self refl))
