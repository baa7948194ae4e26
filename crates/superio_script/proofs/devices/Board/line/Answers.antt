-- SPDX-License-Identifier: Apache-2.0 OR BSD-3-Clause
-- A line of the serial port leads from its trace to another, or fails and changes nothing.
use Rattle.superio_script.proofs.ScriptLemmas.{IsBetweenLines-after_serial_line}
use Rattle.superio_script.proofs.devices.Board.line.Goals as goal

pub invariant_of-self : goal.invariant_of-self
invariant_of-self c =
    IsBetweenLines-after_serial_line (λ reply. reply.items) c.in-Serial.line c.serial_line.result
    c.serial_line.ensures.step c.serial_line.ensures.unchanged c.self.invariant
