-- SPDX-License-Identifier: Apache-2.0 OR BSD-3-Clause
-- A restore, whether its calls were accepted or one was refused. Without memory it has no reply.
use Rattle.std.proofs.Common.{◌≡◌, ap, sym, ◌∙◌, subst}
use Rattle.vm_superio.specs.Serial.{SerialView, State, conditions_due}
use Rattle.vm_superio.specs.declared.serial.errors.Error.TheVariants.{Memory}
use Rattle.vm_superio.specs.Saved.{state_of}
use Rattle.vm_superio.specs.Serial.Step.{RefusesRestore}
use Rattle.vm_superio.specs.Links.{all_ok}
use Rattle.board_objects.specs.Objects.{InterruptLineLink}
use Rattle.board_objects.specs.declared.Line.{Line}
use Rattle.board_objects.specs.declared.Counts.{Counts}
use Rattle.board_objects.specs.declared.Output.{Output}
use Rattle.superio_script.proofs.SerialScriptLemmas.{restore-accepts, restore-refuses}
use Rattle.superio_script.proofs.serial_lines.restore.Goals as goal

pub returns-in-Ok-from_state-clause-step : goal.returns-in-Ok-from_state-clause-step
returns-in-Ok-from_state-clause-step c =
    let old = c.args.serial.now in
    let made = c.in-Ok-from_state.ensures in
    let after = c.replace-old.ensures.after in
    let new = ap (λ (port : SerialView Line Counts Output). port.trigger) (sym after) in
    let link = subst (λ (state : State). InterruptLineLink old.trigger (all_ok (conditions_due state)) c.replace-old.new.dest.trigger) c.in-Ok.ensures.saved
    (subst (λ (new : Line). InterruptLineLink old.trigger (all_ok (conditions_due (state_of c.in-Ok.state))) new) new
    (subst (λ (l : Line). InterruptLineLink l (all_ok (conditions_due (state_of c.in-Ok.state))) c.in-Ok-from_state.restored.trigger) c.interrupt_evt-line.ensures made.called)) in
    rw c.reply_text.ensures (restore-accepts old _
    (ap (λ (port : SerialView Line Counts Output). port.state) after ∙ made.state ∙ c.in-Ok.ensures.saved)
    link
    (ap (λ (port : SerialView Line Counts Output). port.events) after ∙ made.events ∙ c.events-counts.ensures)
    (c.into_writer.ensures ∙ ap (λ (port : SerialView Line Counts Output). port.out) c.replace-old.ensures.value))

pub returns-clause-step : goal.returns-clause-step
returns-clause-step c =
    let old = c.args.serial.now in
    let state = state_of c.in-Ok.state in
    let refused = c.in-Err.refused in
    let refuses = subst (λ (l : Line). RefusesRestore InterruptLineLink state refused.error l refused.trigger) c.interrupt_evt-line.ensures c.in-Err.ensures.refused in
    let other = λ (is : refused.error ≡ Memory). c.in_default-into_error.not-Memory (c.into_error.ensures ∙ is) in
    rw (c.error_reply.ensures, c.into_error.ensures)
    (restore-refuses old state refused.trigger refused.error c.in-Ok.ensures.saved c.state.ensures.at_most_64 refuses other)
