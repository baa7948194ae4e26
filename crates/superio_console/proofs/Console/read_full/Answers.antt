-- SPDX-License-Identifier: Apache-2.0 OR BSD-3-Clause
-- A read that may end a full FIFO wakes if there is room then.
use Rattle.std.proofs.Common.{nat_lt, ◌&&◌, ap, sym, ◌∙◌}
use Rattle.superio_laws.specs.Serial.{irq_level}
use Rattle.superio_console.specs.Console.{ConsoleState, Reads, state_of, input_room, after}
use Rattle.superio_console.proofs.Lemmas.Wanted.{read-wakes, work-is}
use Rattle.superio_console.proofs.Console.read_full.Goals as goal

pub returns-clause-work : goal.returns-clause-work
returns-clause-work c =
    let old = state_of c.args.self.now in
    let offset = c.args.offset in
    let new = c.read_port-byte.ensures.state in
    work-is (Reads offset) old c.read_port-byte.result.1 c.interrupt_line.result _ c.read_port-byte.ensures.interrupts
    (c.interrupt_line.ensures.line ∙ ap (λ (c : ConsoleState). irq_level c.port) new)
    (ap (nat_lt 0) (c.input_room.ensures.value ∙ ap input_room new)
    ∙ ap (λ may. may && nat_lt 0 (input_room (after (Reads offset) old))) (sym c.requires.full)
    ∙ sym (read-wakes offset old))
