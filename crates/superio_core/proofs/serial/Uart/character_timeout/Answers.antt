-- SPDX-License-Identifier: Apache-2.0 OR BSD-3-Clause
-- A step keeps a coherent state coherent.
use Rattle.std.proofs.Common.{sym, subst}
use Rattle.superio_core.specs.Serial.Operations.{Asked, CharacterTimeout}
use Rattle.superio_core.specs.Serial.{state_of_uart, Coherent, RdaCoversHeldBytes}
use Rattle.superio_core.proofs.Lemmas.Serial.Coherence.{coherence_law}
use Rattle.superio_core.proofs.Lemmas.Serial.Step.{shows_held_bytes}
use Rattle.superio_core.proofs.serial.Uart.character_timeout.Goals as goal

pub returns-clause-pending : goal.returns-clause-pending
returns-clause-pending c =
    subst RdaCoversHeldBytes (sym c.character_timeout.ensures.state)
    (shows_held_bytes (state_of_uart c.args.self.now) Asked.Nothing)

pub returns-clause-coherent : goal.returns-clause-coherent
returns-clause-coherent c = λ before.
    let old = state_of_uart c.args.self.now in
    (before.0, subst Coherent (sym c.character_timeout.ensures.state) (coherence_law old CharacterTimeout Asked.Nothing before.1))
