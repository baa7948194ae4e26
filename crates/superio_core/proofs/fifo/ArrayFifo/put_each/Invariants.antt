-- SPDX-License-Identifier: Apache-2.0 OR BSD-3-Clause
-- The bytes so far follow those that were held.
use Rattle.std.proofs.Common.{◌≡◌, ◌+◌, ◌++◌, length, take}
use Rattle.superio_core.specs.Serial.{ring_from}
use Rattle.superio_core.proofs.fifo.ArrayFifo.put_each.Given as goal

abbrev pub invariant-loop-i : goal.invariant-loop-i
invariant-loop-i l = record {
  head : l.self.head ≡ l.fn.self.head;
  len : l.self.len ≡ l.fn.self.len;
  long : length l.self.bytes ≡ 64;
  bytes : take (l.held + l.i) (ring_from l.self.head l.self.bytes)
      ≡ take l.held (ring_from l.fn.self.head l.fn.self.bytes) ++ take l.i l.bytes;
}
