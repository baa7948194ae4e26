-- SPDX-License-Identifier: Apache-2.0 OR BSD-3-Clause
-- What a step keeps.
use Rattle.std.proofs.Common.{◌≡◌, ◌≤◌, ◌+◌, sym, ap, ◌∙◌, subst}
use Rattle.vm_superio.specs.Serial.{Read, Asked, Coherent, read_step, state_with}
use Rattle.superio_core.proofs.Lemmas.Serial.Coherence.{coherence_law}
use Rattle.vm_superio.proofs.Lemmas.Serial.Kept.{transmitter-kept, pending-read}
use Rattle.vm_superio.specs.Serial.{acknowledged_at}
use Rattle.vm_superio.specs.Serial.Step.{transmitter, pending_count}
use Rattle.vm_superio.proofs.serial.Serial.read.Goals as goal

pub returns-clause-coherent : goal.returns-clause-coherent
returns-clause-coherent g c =
    let old = state_with c.self.inside.registers c.self.inside.in_buffer in
    let made = c.read-effects.ensures.state ∙ ap (λ register. read_step register old) c.decode-register.ensures in
    rw (← c.self.view_is) (λ before. subst Coherent (sym made) (coherence_law old (Read c.args.offset) Asked.Nothing before))

pub returns-clause-transmitter : goal.returns-clause-transmitter
returns-clause-transmitter g c =
    let old = state_with c.self.inside.registers c.self.inside.in_buffer in
    let made = c.read-effects.ensures.state ∙ ap (λ register. read_step register old) c.decode-register.ensures in
    rw (← c.self.view_is) (subst (λ s. transmitter s ≡ transmitter old) (sym made) (transmitter-kept old (Read c.args.offset) Asked.Nothing))

pub returns-clause-keeps_pending : goal.returns-clause-keeps_pending
returns-clause-keeps_pending g c =
    let old = state_with c.self.inside.registers c.self.inside.in_buffer in
    let made = c.read-effects.ensures.state ∙ ap (λ register. read_step register old) c.decode-register.ensures in
    rw (← c.self.view_is) (subst (λ s. pending_count old ≤ pending_count s + acknowledged_at c.args.offset) (sym made)
    (pending-read old c.args.offset Asked.Nothing))
