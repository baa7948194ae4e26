-- SPDX-License-Identifier: Apache-2.0 OR BSD-3-Clause
-- An interrupt is due exactly while bytes are held. Each run takes one at least.
use Rattle.std.specs.Prelude.{◌≡◌, ◌++◌, length, if◌then◌else◌}
use Rattle.superio_core.specs.Serial.{CoherentUart, state_of_uart, not_empty}
use Rattle.superio_core.specs.Serial.Operations.{count_if}
use Rattle.superio_examples.specs.Echo.{IsOpen, held, pending}
use Rattle.superio_examples.proofs.echo.serve.Given as goal

abbrev pub invariant-loop-due : goal.invariant-loop-due
invariant-loop-due l = record {
  in_order : l.output.items ++ held l.port ≡ l.fn.output.items ++ held l.fn.port;
  due : l.due ≡ count_if (not_empty (held l.port));
  pending : pending l.port ≡ (if not_empty (held l.port) then 0x04 else 0x01);
  opened : IsOpen (state_of_uart l.port);
  coherent : CoherentUart l.port;
}

abbrev pub decreases-loop-due : goal.decreases-loop-due
decreases-loop-due l = length (held l.port)
