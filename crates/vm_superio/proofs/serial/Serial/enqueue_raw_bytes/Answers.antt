-- SPDX-License-Identifier: Apache-2.0 OR BSD-3-Clause
-- The clauses follow from the step.
use Rattle.std.proofs.Common.{ap, ◌∙◌}
use Rattle.vm_superio.specs.Serial.{State, Enqueue, enqueued_bytes}
use Rattle.vm_superio.proofs.Lemmas.Serial.{length-answers_of-step}
use Rattle.vm_superio.proofs.Lemmas.Serial.Kept.{transmitter-kept, pending-enqueued}
use Rattle.superio_laws.proofs.Lemmas.Serial.Laws.OneCall.{received_bytes}
use Rattle.vm_superio.proofs.Lemmas.Serial.Step.{quiet, settings_kept, keeps_coherent, enqueue_fate}
use Rattle.vm_superio.proofs.serial.Serial.enqueue_raw_bytes.Goals as goal

pub returns-clause-step : goal.returns-clause-step
returns-clause-step g c =
    let call = c.enqueue_for_run in
    record { asked = call.result.asked; sent = call.result.sent; step = call.ensures; calls = length-answers_of-step call.ensures }

pub returns-clause-held : goal.returns-clause-held
returns-clause-held g c =
    let old = c.args.self.now.state in
    ap (λ (s : State). s.in_buffer) c.enqueue_for_run.ensures.state ∙ received_bytes (enqueued_bytes old c.args.input.now) old

pub returns-clause-settings : goal.returns-clause-settings
returns-clause-settings g c =
    let old = c.args.self.now.state in
    rw c.enqueue_for_run.ensures.state (settings_kept (enqueued_bytes old c.args.input.now) old)

pub returns-clause-fate : goal.returns-clause-fate
returns-clause-fate g c = enqueue_fate c.enqueue_for_run.result.reply c.enqueue_for_run.ensures

pub returns-clause-quiet : goal.returns-clause-quiet
returns-clause-quiet g c =
    let old = c.args.self.now.state in
    let made = c.enqueue_for_run.ensures in
    let enable = ap (λ (s : State). s.interrupt_enable) (made.state ∙ settings_kept (enqueued_bytes old c.args.input.now) old) in
    λ off. quiet made g.met.T.Trigger.empty (enable ∙ off)

pub returns-clause-transmitter : goal.returns-clause-transmitter
returns-clause-transmitter g c =
    rw c.enqueue_for_run.ensures.state (transmitter-kept c.args.self.now.state (Enqueue c.args.input.now) c.enqueue_for_run.result.asked)

pub returns-clause-keeps_pending : goal.returns-clause-keeps_pending
returns-clause-keeps_pending g c =
    rw c.enqueue_for_run.ensures.state (pending-enqueued c.args.self.now.state c.args.input.now c.enqueue_for_run.result.asked)

pub returns-clause-coherent : goal.returns-clause-coherent
returns-clause-coherent g c = keeps_coherent c.enqueue_for_run.ensures
