-- SPDX-License-Identifier: Apache-2.0 OR BSD-3-Clause
use Rattle.std.proofs.Common.{◌≡◌, ◌+◌, ◌<◌, Bool, Result, Ok, [], ◌∷◌, length, drop, get_or, refl, add-one, drop-cons, arith}
use Rattle.std.specs.Bool.{OnTrue}
use Rattle.std.proofs.Math.Seq.{drop-length}
use Rattle.std.specs.Result.{result_and}
use Rattle.superio_examples.proofs.bus.Bus.port_out.Goals as goal

and-then : {E : Type 0} (first second third : Result (Unit {0}) E)
    → result_and first (result_and second third) ≡ result_and (result_and first second) third
and-then first second third = grind arith

and-ok : {E : Type 0} (result : Result (Unit {0}) E) → result_and result (Ok tt) ≡ result
and-ok result = grind arith

on-true : {P : Type 0} (test : Bool) → P → OnTrue test P
on-true test holds = grind arith

pub loop-byte-preserved : goal.loop-byte-preserved
loop-byte-preserved g c =
    let before = c.loop-byte.invariant in
    let bytes = c.args.bytes.now in
    let place = c.loop-byte.byte-index in
    let h : c.loop-byte.byte-index < length c.args.bytes.now = c.loop-byte-test.true in
    let left : drop place bytes ≡ get_or bytes place 0 ∷ drop (place + 1) bytes = rw (add-one, drop-cons bytes place 0) in
    record {
      coherent = λ is. c.write.ensures.coherent (before.coherent is);
      written = λ rest new made.
          rw (c.and-result.ensures, ← and-then c.loop-byte.result c.write.result rest)
          (before.written (result_and c.write.result rest) new
          (rw left (c.write.result, rest, c.write.new.self, c.write.ensures.step, made, refl)));
    }

pub returns-after-loop-byte-clause-bytes : goal.returns-after-loop-byte-clause-bytes
returns-after-loop-byte-clause-bytes g c =
    let all : c.loop-byte.byte-index ≡ length c.args.bytes.now = omega arith in
    let none : drop c.loop-byte.byte-index c.args.bytes.now ≡ [] = rw all (drop-length c.args.bytes.now) in
    on-true _ (rw (and-ok c.loop-byte.result) at (c.loop-byte.invariant.written (Ok tt) c.loop-byte.self (rw none (refl, refl))))
