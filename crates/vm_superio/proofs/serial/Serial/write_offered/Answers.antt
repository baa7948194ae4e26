-- SPDX-License-Identifier: Apache-2.0 OR BSD-3-Clause
-- The step of the registers, with THRE taken back if the first of two calls was refused.
use Rattle.std.proofs.Common.{rules, ap, ◌∙◌}
use Rattle.vm_superio.specs.Serial.{state_with, write_step}
use Rattle.superio_core.proofs.Lemmas.Serial.FirstRefused.{settled, write_step-settled}
use Rattle.vm_superio.proofs.serial.Serial.write_offered.Goals as goal

pub returns-clause-step : goal.returns-clause-step
returns-clause-step g c =
    let value = c.args.value in
    let asked = c.call_trigger-asked.result.0 in
    let effects = c.write-effects in
    let before = state_with c.self.inside.registers c.self.inside.in_buffer in
    rw (← c.self.view_is) (
    record {
      fits = search rules;
      response = search rules;
      refused = search rules;
      state =
          ap (λ registers. state_with registers effects.new.fifo) c.cancel_thre.ensures.registers
          ∙ ap (λ due. settled due asked (state_with effects.new.self effects.new.fifo)) effects.ensures.interrupts
          ∙ ap (settled _ asked) effects.ensures.state
          ∙ write_step-settled c.decode-register.result value asked before
          ∙ ap (λ register. write_step register value asked before) c.decode-register.ensures;
      trigger = search rules;
      events = search rules;
      out = c.offer_where_due-sent.ensures.out c.args.offset;
    })
