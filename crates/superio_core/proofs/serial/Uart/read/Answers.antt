-- SPDX-License-Identifier: Apache-2.0 OR BSD-3-Clause
-- A step keeps a coherent state coherent.
use Rattle.std.proofs.Common.{sym, ap, ◌∙◌, subst}
use Rattle.superio_core.specs.Serial.Operations.{Asked, Read}
use Rattle.superio_core.specs.Serial.{Coherent, state_of_uart}
use Rattle.superio_core.specs.Serial.Step.{read_step}
use Rattle.superio_core.proofs.Lemmas.Serial.Coherence.{coherence_law}
use Rattle.superio_core.proofs.serial.Uart.read.Goals as goal

pub returns-clause-coherent : goal.returns-clause-coherent
returns-clause-coherent c = λ before.
    let old = state_of_uart c.args.self.now in
    let done = c.read.ensures.state ∙ ap (λ register. read_step register old) c.decode-register.ensures in
    (c.read.ensures.len_in_range before.0, subst Coherent (sym done) (coherence_law old (Read c.args.offset) Asked.Nothing before.1))
