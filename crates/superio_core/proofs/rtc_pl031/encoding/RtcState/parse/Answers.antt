-- SPDX-License-Identifier: Apache-2.0 OR BSD-3-Clause
-- The bytes are the header, the numbers, the offset and the alarm. The search finds the numbers, so a further one of them
-- changes nothing here.
use Rattle.std.proofs.Common.{rules, arith, ◌≡◌, [], ◌∷◌, refl, FitsSigned}
use Rattle.std.specs.Int.{w64}
use Rattle.superio_core.proofs.Lemmas.Saved.{encoding-then, number-then, offset-then, one_byte}
use Rattle.superio_core.proofs.rtc_pl031.encoding.RtcState.parse.Goals as goal

pub returns-in-0-clause-encoding : goal.returns-in-0-clause-encoding
returns-in-0-clause-encoding c =
    let last : c.split_offset-offset.result.1.now ≡ 0 ∷ [] = grind (arith, one_byte) in
    let fits : FitsSigned w64 c.split_offset-offset.result.0 = search rules in
    let tail = offset-then _ _ _ _ fits c.split_offset-offset.ensures.split last in
    encoding-then _ _ _ _ _ _ c.in_ok-contents.ensures.encoding (search (number-then, tail) depth 12) refl refl

pub returns-in-1-clause-encoding : goal.returns-in-1-clause-encoding
returns-in-1-clause-encoding c =
    let last : c.split_offset-offset.result.1.now ≡ 1 ∷ [] = grind (arith, one_byte) in
    let fits : FitsSigned w64 c.split_offset-offset.result.0 = search rules in
    let tail = offset-then _ _ _ _ fits c.split_offset-offset.ensures.split last in
    encoding-then _ _ _ _ _ _ c.in_ok-contents.ensures.encoding (search (number-then, tail) depth 12) refl refl
