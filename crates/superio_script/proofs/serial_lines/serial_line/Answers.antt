-- SPDX-License-Identifier: Apache-2.0 OR BSD-3-Clause
-- Each line that calls the port leads to the trace with the call's entry, or for a drain with those of its reads.
use Rattle.std.proofs.Common.{refl}
use Rattle.superio_script.specs.declared.serial_lines.SerialCommand.TheVariants.{Read, Write, Enqueue}
use Rattle.superio_script.proofs.SerialScriptLemmas.{call-step, drain-step}
use Rattle.superio_script.proofs.serial_lines.serial_line.Goals as goal

pub returns-in-Read-clause-step : goal.returns-in-Read-clause-step
returns-in-Read-clause-step c = rw (c.in-Read.is, c.reply_digits.ensures) (λ mask trace at.
    call-step c.read.ensures.step mask trace at refl
    (Read c.in-Read.offset) (λ outcome. refl) (λ outcome. refl))

pub returns-in-Write-clause-step : goal.returns-in-Write-clause-step
returns-in-Write-clause-step c = rw (c.in-Write.is, c.write_reply.ensures) (λ mask trace at.
    call-step c.write.ensures.step.step mask trace at refl
    (Write c.in-Write.offset c.in-Write.value) (λ outcome. refl) (λ outcome. refl))

pub returns-in-Enqueue-clause-step : goal.returns-in-Enqueue-clause-step
returns-in-Enqueue-clause-step c =
    let step = rw c.as_slice.ensures at c.enqueue_raw_bytes.ensures.step in
    rw (c.in-Enqueue.is, c.enqueue_reply.ensures) (λ mask trace at.
    call-step step.step mask trace at refl
    (Enqueue c.in-Enqueue.bytes) (λ outcome. refl) (λ outcome. refl))

pub returns-in-Drain-clause-step : goal.returns-in-Drain-clause-step
returns-in-Drain-clause-step c =
    let made = c.drain.ensures in
    rw (c.in-Drain.is, c.reply_digits-in-Drain.ensures, c.deref.ensures.0)
    (drain-step c.drain.result.items c.args.serial.now c.drain.new.serial made.reads made.dlab_reads_nothing made.all)
