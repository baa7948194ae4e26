-- SPDX-License-Identifier: Apache-2.0 OR BSD-3-Clause
-- The interrupts that wait and the conditions that were pending at first are bounded by those at the start, those pending
-- now, and what the accesses so far acknowledge.
use Rattle.std.proofs.Common.{◌≡◌, ◌+◌, ◌≤◌, take}
use Rattle.vm_superio.specs.Claims.{pending_count, transmitter}
use Rattle.superio_examples.specs.ManyCalls.{acknowledged_in}
use Rattle.superio_examples.proofs.many_calls.make_all.Given as goal

abbrev pub invariant-loop-access : goal.invariant-loop-access
invariant-loop-access g l = record {
  interrupts :
      l.serial.trigger.waiting + pending_count l.fn.serial.state
      ≤ l.fn.serial.trigger.waiting + pending_count l.serial.state + acknowledged_in (take l.access-index l.accesses);
  transmitter : transmitter l.serial.state ≡ transmitter l.fn.serial.state;
}
