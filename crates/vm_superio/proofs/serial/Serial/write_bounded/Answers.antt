-- SPDX-License-Identifier: Apache-2.0 OR BSD-3-Clause
-- The clauses follow from the step, and from what the writer says of its room.
use Rattle.vm_superio.proofs.Lemmas.Serial.{length-answers_of-step}
use Rattle.vm_superio.proofs.Lemmas.Serial.Step.{silent, taken, keeps_coherent, with_room, lost_is_err, refused_alone}
use Rattle.vm_superio.proofs.serial.Serial.write_bounded.Goals as goal

pub returns-clause-step : goal.returns-clause-step
returns-clause-step g c =
    let call = c.write_offered in
    record { asked = call.result.asked; sent = call.result.sent; step = call.ensures.step; calls = length-answers_of-step call.ensures.step }

pub returns-clause-room : goal.returns-clause-room
returns-clause-room g c = λ takes. taken c.write_offered.ensures.step (with_room _ _ _ c.write_offered.ensures.room takes)

pub returns-clause-only_refusals : goal.returns-clause-only_refusals
returns-clause-only_refusals g c = λ takes.
    refused_alone c.write_offered.result.reply c.write_offered.ensures.step (with_room _ _ _ c.write_offered.ensures.room takes)

pub returns-clause-full : goal.returns-clause-full
returns-clause-full g c = λ sent full.
    lost_is_err c.write_offered.result.reply c.write_offered.ensures.step sent full c.write_offered.ensures.room

pub returns-clause-silent : goal.returns-clause-silent
returns-clause-silent g c = silent c.write_offered.ensures.step

pub returns-clause-coherent : goal.returns-clause-coherent
returns-clause-coherent g c = keeps_coherent c.write_offered.ensures.step
