-- SPDX-License-Identifier: Apache-2.0 OR BSD-3-Clause
-- The accesses so far have a trace.
use Rattle.std.specs.Prelude.{map, take}
use Rattle.vm_superio.specs.Claims.{Coherent}
use Rattle.superio_examples.specs.Traced.{IsTraced, op_of}
use Rattle.superio_examples.proofs.traced.make_with_trace.Given as goal

abbrev pub invariant-loop-access : goal.invariant-loop-access
invariant-loop-access g l = record {
  traced : IsTraced (map op_of (take l.access-index l.accesses)) l.fn.serial.state l.serial.state;
  coherent : Coherent l.serial.state;
}
