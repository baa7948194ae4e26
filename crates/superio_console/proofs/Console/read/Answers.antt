-- SPDX-License-Identifier: Apache-2.0 OR BSD-3-Clause
-- No other read wakes.
use Rattle.std.proofs.Common.{nat_lt, ◌&&◌, ap, sym, ◌∙◌}
use Rattle.superio_laws.specs.Serial.{irq_level}
use Rattle.superio_console.specs.Console.{ConsoleState, Reads, state_of, input_room, after}
use Rattle.superio_console.proofs.Lemmas.Wanted.{read-wakes, work-is}
use Rattle.superio_console.proofs.Console.read.Goals as goal

pub returns-clause-work : goal.returns-clause-work
returns-clause-work c =
    let old = state_of c.args.self.now in
    let offset = c.args.offset in
    work-is (Reads offset) old c.read_port-byte.result.1 c.interrupt_line.result _ c.read_port-byte.ensures.interrupts
    (c.interrupt_line.ensures.line ∙ ap (λ (c : ConsoleState). irq_level c.port) c.read_port-byte.ensures.state)
    (ap (λ may. may && nat_lt 0 (input_room (after (Reads offset) old))) (sym c.if-may_end_full.false ∙ c.may_end_full.ensures)
    ∙ sym (read-wakes offset old))
