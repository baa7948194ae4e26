-- SPDX-License-Identifier: Apache-2.0 OR BSD-3-Clause
-- The clauses follow from the step.
use Rattle.std.proofs.Common.{refl, sym, subst, ap, ◌∙◌}
use Rattle.vm_superio.specs.Serial.{State, RdaCoversHeldBytes, CharacterTimeout, timeout_response, refusal_in_result}
use Rattle.superio_core.proofs.Lemmas.Serial.Step.{shows_held_bytes}
use Rattle.vm_superio.specs.Serial.Step.{IsSerialStep}
use Rattle.vm_superio.specs.Links.Writer.{serial_links}
use Rattle.vm_superio.proofs.Lemmas.Serial.{length-answers_of-step}
use Rattle.vm_superio.proofs.Lemmas.Serial.Kept.{transmitter-kept, pending-kept}
use Rattle.vm_superio.proofs.Lemmas.Serial.Step.{quiet, silent, keeps_coherent, timeout_fate}
use Rattle.vm_superio.proofs.serial.Serial.character_timeout.Goals as goal

pub returns-clause-step : goal.returns-clause-step
returns-clause-step g c =
    let call = c.timeout_for_run in
    let links = serial_links g.T.Trigger.link g.EV.SerialEvents.link g.W.Write.contents in
    let made = subst (λ sent. IsSerialStep links CharacterTimeout call.result.asked sent (timeout_response call.result.reply)
    (refusal_in_result call.result.reply) c.args.self.now call.new.self) call.ensures.no_byte call.ensures.step in
    record { asked = call.result.asked; step = made; calls = length-answers_of-step made }

pub returns-clause-pending : goal.returns-clause-pending
returns-clause-pending g c =
    let call = c.timeout_for_run in
    subst RdaCoversHeldBytes (sym call.ensures.step.state) (shows_held_bytes c.args.self.now.state call.result.asked)

pub returns-clause-fate : goal.returns-clause-fate
returns-clause-fate g c = timeout_fate c.timeout_for_run.result.reply c.timeout_for_run.ensures.step

pub returns-clause-quiet : goal.returns-clause-quiet
returns-clause-quiet g c =
    let made = c.timeout_for_run.ensures.step in
    λ off. quiet made g.met.T.Trigger.empty (ap (λ (s : State). s.interrupt_enable) made.state ∙ off)

pub returns-clause-events : goal.returns-clause-events
returns-clause-events g c = sym ((g.met.EV.SerialEvents.empty _ _).0 c.timeout_for_run.ensures.step.events)

pub returns-clause-out : goal.returns-clause-out
returns-clause-out g c = silent c.timeout_for_run.ensures.step refl

pub returns-clause-transmitter : goal.returns-clause-transmitter
returns-clause-transmitter g c =
    let call = c.timeout_for_run in
    rw call.ensures.step.state (transmitter-kept c.args.self.now.state CharacterTimeout call.result.asked)

pub returns-clause-keeps_pending : goal.returns-clause-keeps_pending
returns-clause-keeps_pending g c =
    let call = c.timeout_for_run in
    rw call.ensures.step.state (pending-kept c.args.self.now.state CharacterTimeout call.result.asked refl)

pub returns-clause-coherent : goal.returns-clause-coherent
returns-clause-coherent g c = keeps_coherent c.timeout_for_run.ensures.step
