-- SPDX-License-Identifier: Apache-2.0 OR BSD-3-Clause
-- What was read, followed by what is held, is what was held at first. One byte is held for each read to come.
use Rattle.std.specs.Prelude.{◌≡◌, ◌+◌, ◌++◌, length}
use Rattle.vm_superio.specs.Claims.{dlab_clear, held}
use Rattle.superio_examples.proofs.first_claims.read_all.Given as goal

abbrev pub invariant-loop : goal.invariant-loop
invariant-loop g l = record {
  data_shown : dlab_clear l.serial;
  in_order : l.read.items ++ held l.serial ≡ held l.fn.serial;
  to_come : l.counter + length (held l.serial) ≡ l.count;
}
