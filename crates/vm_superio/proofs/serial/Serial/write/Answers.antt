-- SPDX-License-Identifier: Apache-2.0 OR BSD-3-Clause
-- The clauses follow from the step.
use Rattle.vm_superio.specs.Serial.{is_dlab, Write}
use Rattle.vm_superio.proofs.Lemmas.Serial.{length-answers_of-step}
use Rattle.vm_superio.proofs.Lemmas.Serial.Kept.{elsewhere, transmitter-kept, pending-written}
use Rattle.vm_superio.proofs.Lemmas.Serial.Step.{quiet, silent, sends, keeps_coherent, write_fate}
use Rattle.vm_superio.proofs.serial.Serial.write.Goals as goal

pub returns-clause-step : goal.returns-clause-step
returns-clause-step g c =
    let call = c.write_for_run in
    record { asked = call.result.asked; sent = call.result.sent; step = call.ensures; calls = length-answers_of-step call.ensures }

pub returns-clause-quiet : goal.returns-clause-quiet
returns-clause-quiet g c = quiet c.write_for_run.ensures g.met.T.Trigger.empty

pub returns-clause-sends : goal.returns-clause-sends
returns-clause-sends g c = sends c.write_for_run.result.reply c.write_for_run.ensures

pub returns-clause-silent : goal.returns-clause-silent
returns-clause-silent g c = silent c.write_for_run.ensures

pub returns-clause-fate : goal.returns-clause-fate
returns-clause-fate g c = write_fate c.write_for_run.result.reply c.write_for_run.ensures

pub returns-clause-elsewhere : goal.returns-clause-elsewhere
returns-clause-elsewhere g c =
    let s = c.args.self.now.state in
    rw c.write_for_run.ensures.state (elsewhere (is_dlab s.line_control) c.args.offset c.args.value c.write_for_run.result.asked s)

pub returns-clause-transmitter : goal.returns-clause-transmitter
returns-clause-transmitter g c =
    rw c.write_for_run.ensures.state (transmitter-kept c.args.self.now.state (Write c.args.offset c.args.value) c.write_for_run.result.asked)

pub returns-clause-keeps_pending : goal.returns-clause-keeps_pending
returns-clause-keeps_pending g c =
    rw c.write_for_run.ensures.state (pending-written c.args.self.now.state c.args.offset c.args.value c.write_for_run.result.asked)

pub returns-clause-coherent : goal.returns-clause-coherent
returns-clause-coherent g c = keeps_coherent c.write_for_run.ensures
