-- SPDX-License-Identifier: Apache-2.0 OR BSD-3-Clause
-- Input wakes only for a turn.
use Rattle.std.proofs.Common.{not, ◌&&◌, ap, sym, ◌∙◌}
use Rattle.superio_laws.specs.Serial.{irq_level}
use Rattle.superio_console.specs.Console.{ConsoleState, Receives, state_of, owes_turn, after}
use Rattle.superio_console.proofs.Lemmas.Wanted.{receive-wakes, work-is}
use Rattle.superio_console.proofs.Console.receive.Goals as goal

pub returns-then-not-owed_turn-clause-work : goal.returns-then-not-owed_turn-clause-work
returns-then-not-owed_turn-clause-work c =
    let old = state_of c.args.self.now in
    let input = c.args.input.now in
    let new = c.receive_port-accepted.ensures.state in
    work-is (Receives input) old c.receive_port-accepted.result.1 c.interrupt_line.result _ c.receive_port-accepted.ensures.interrupts
    (c.interrupt_line.ensures.line ∙ ap (λ (c : ConsoleState). irq_level c.port) new)
    (c.owes_turn.ensures ∙ ap owes_turn new
    ∙ ap (λ owed. not owed && owes_turn (after (Receives input) old)) (sym c.if-not-owed_turn.true ∙ c.owes_turn-owed_turn.ensures)
    ∙ sym (receive-wakes input old))

pub returns-else-not-owed_turn-clause-work : goal.returns-else-not-owed_turn-clause-work
returns-else-not-owed_turn-clause-work c =
    let old = state_of c.args.self.now in
    let input = c.args.input.now in
    let new = c.receive_port-accepted.ensures.state in
    work-is (Receives input) old c.receive_port-accepted.result.1 c.interrupt_line.result _ c.receive_port-accepted.ensures.interrupts
    (c.interrupt_line.ensures.line ∙ ap (λ (c : ConsoleState). irq_level c.port) new)
    (ap not c.if-not-owed_turn.false
    ∙ ap (λ owed. not owed && owes_turn (after (Receives input) old)) (sym c.if-not-owed_turn.false ∙ c.owes_turn-owed_turn.ensures)
    ∙ sym (receive-wakes input old))
