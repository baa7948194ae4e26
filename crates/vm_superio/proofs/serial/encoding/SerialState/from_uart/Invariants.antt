-- SPDX-License-Identifier: Apache-2.0 OR BSD-3-Clause
-- What was copied and what is still held are what the port holds.
use Rattle.std.proofs.Common.{◌≡◌, ◌+◌, ◌≤◌, ◌++◌, length, vec_len, vec_capacity}
use Rattle.superio_core.specs.Serial.{ring_contents}
use Rattle.vm_superio.proofs.serial.encoding.SerialState.from_uart.Given as goal

abbrev pub invariant-loop-byte : goal.invariant-loop-byte
invariant-loop-byte l = record {
  same : l.in_buffer.items ++ ring_contents l.held ≡ ring_contents l.fn.port.in_buffer;
  room : vec_len l.in_buffer + length (ring_contents l.held) ≤ vec_capacity l.in_buffer;
}

abbrev pub decreases-loop-byte : goal.decreases-loop-byte
decreases-loop-byte l = length (ring_contents l.held)
