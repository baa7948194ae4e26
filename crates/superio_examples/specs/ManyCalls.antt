-- SPDX-License-Identifier: Apache-2.0 OR BSD-3-Clause
-- A guest's accesses, and the reads among them.
use Rattle.std.specs.Prelude.{ℕ, List, sum_by}
use Rattle.vm_superio.specs.Claims.{acknowledged_at}
use Rattle.superio_examples.specs.declared.many_calls.Access.{Access}

-- how many pending conditions an access acknowledges at most: a read of IIR two, and one of RBR one
abbrev pub acknowledged_by : (access : Access) → ℕ
acknowledged_by (Access.Read offset) = acknowledged_at offset
acknowledged_by _ = 0

abbrev pub acknowledged_in : (accesses : List Access) → ℕ
acknowledged_in accesses = sum_by acknowledged_by accesses
