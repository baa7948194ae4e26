-- SPDX-License-Identifier: Apache-2.0 OR BSD-3-Clause
-- What a step of a port says about the trigger's calls.
pub mod Kept
pub mod Run
pub mod Step
use Rattle.std.proofs.Common.{◌≡◌, length, Option, ap, sym, ◌∙◌, arith, is_some}
use Rattle.vm_superio.specs.Serial.{SerialView, Asked, Sent, Op, Response, ends_in_refusal, answer_count, turned_on_count}
use Rattle.vm_superio.specs.Links.{answers_of}
use Rattle.vm_superio.specs.Links.Writer.{SerialLinks}
use Rattle.vm_superio.specs.Serial.Step.{IsSerialStep}
use Rattle.superio_laws.proofs.Lemmas.Serial.Laws.OneCall.{turned_bits_law}

-- a record stands for as many answers as it counts, if it has the refusal that it ends in
length-answers_of : {E : Type 0} (asked : Asked) (refusal : Option E) → is_some refusal ≡ ends_in_refusal asked → length (answers_of asked refusal) ≡ answer_count asked
length-answers_of asked refusal h = grind arith

-- a step calls the trigger once for each pending bit that it turns on
pub length-answers_of-step :
    {T E EV W : Type 0} {links : SerialLinks T E EV W} {op : Op} {asked : Asked} {sent : Sent} {answered : Response}
    {refusal : Option E} {old new : SerialView T EV W} → IsSerialStep links op asked sent answered refusal old new →
    length (answers_of asked refusal) ≡ turned_on_count old.state new.state
length-answers_of-step {op = op} {asked = asked} {sent = sent} {refusal = refusal} {old = old} made =
    length-answers_of asked refusal made.refused ∙ turned_bits_law old.state op asked sent made.fits
    ∙ ap (turned_on_count old.state) (sym made.state)
