-- SPDX-License-Identifier: Apache-2.0 OR BSD-3-Clause
-- So many runs were made, and the divisor stays hidden.
use Rattle.vm_superio.specs.Claims.{Coherent, dlab_clear}
use Rattle.superio_examples.proofs.TracedLemmas.{RunsSoFar}
use Rattle.superio_examples.proofs.traced.take_first.Given as goal

abbrev pub invariant-loop : goal.invariant-loop
invariant-loop g l = record {
  hidden : dlab_clear l.serial;
  coherent : Coherent l.serial.state;
  made : RunsSoFar l.fn.serial.state l.counter l.serial.state;
}
