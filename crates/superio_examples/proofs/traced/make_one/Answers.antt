-- SPDX-License-Identifier: Apache-2.0 OR BSD-3-Clause
-- The clause `step` of the call has the premises of the law.
use Rattle.std.proofs.Common.{ap, sym}
use Rattle.superio_laws.specs.Serial.{Asked, Sent, ByteRead, Read, Write, TraceEntry}
use Rattle.vm_superio.specs.Serial.{write_response}
use Rattle.superio_examples.specs.Traced.{op_of}
use Rattle.superio_examples.proofs.traced.make_one.Goals as goal

pub returns-in-Read-clause-entry : goal.returns-in-Read-clause-entry
returns-in-Read-clause-entry g c = λ start trace coherent is.
    let made = c.read.ensures.step in
    let entry : TraceEntry = record { op = Read c.in-Read.offset; asked = Asked.Nothing; sent = Sent.Nothing } in
    let agrees = c.calls_of_history.ensures start trace entry (ByteRead c.read.result) c.args.serial.now.state c.read.new.self.state coherent is made.fits made.response made.state in
    record { entry = entry; is_op = ap op_of (sym c.in-Read.is); fitting = agrees.fitting; state = agrees.state }

pub returns-in-Write-clause-entry : goal.returns-in-Write-clause-entry
returns-in-Write-clause-entry g c = λ start trace coherent is.
    let made = c.write.ensures.step in
    let entry : TraceEntry = record { op = Write c.in-Write.offset c.in-Write.value; asked = made.asked; sent = made.sent } in
    let agrees = c.calls_of_history.ensures start trace entry (write_response c.write.result) c.args.serial.now.state c.write.new.self.state coherent is made.step.fits made.step.response made.step.state in
    record { entry = entry; is_op = ap op_of (sym c.in-Write.is); fitting = agrees.fitting; state = agrees.state }
