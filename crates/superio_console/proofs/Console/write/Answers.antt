-- SPDX-License-Identifier: Apache-2.0 OR BSD-3-Clause
-- A write at another offset than THR's, IER's and MCR's never wakes the event loop.
use Rattle.std.proofs.Common.{ap, sym, ◌∙◌}
use Rattle.superio_laws.specs.Serial.{irq_level}
use Rattle.superio_console.specs.Console.{ConsoleState, Writes, state_of}
use Rattle.superio_console.proofs.Lemmas.Wanted.{write-elsewhere, calls-elsewhere, work-is}
use Rattle.superio_console.proofs.Console.write.Goals as goal

pub returns-then-not-may_change_wants-clause-work : goal.returns-then-not-may_change_wants-clause-work
returns-then-not-may_change_wants-clause-work c =
    let old = state_of c.args.self.now in
    let offset = c.args.offset in
    let value = c.args.value in
    let other = sym c.may_change_wants.ensures ∙ c.if-not-may_change_wants.true in
    work-is (Writes offset value) old c.write_port-interrupts.result c.interrupt_line.result _
    (c.write_port-interrupts.ensures.interrupts ∙ calls-elsewhere offset value old other)
    (c.interrupt_line.ensures.line ∙ ap (λ (c : ConsoleState). irq_level c.port) c.write_port-interrupts.ensures.state)
    (sym (write-elsewhere offset value old other))
