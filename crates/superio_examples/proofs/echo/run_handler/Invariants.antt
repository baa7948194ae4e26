-- SPDX-License-Identifier: Apache-2.0 OR BSD-3-Clause
-- Before its only turn nothing is done; after it a byte is taken, and nothing is pending.
use Rattle.std.specs.Prelude.{◌≡◌, ◌<◌, ◌++◌, length, ◌⊎◌}
use Rattle.superio_core.specs.Serial.{CoherentUart, state_of_uart}
use Rattle.superio_examples.specs.Echo.{IsOpen, held, pending}
use Rattle.superio_examples.proofs.echo.run_handler.Given as goal

abbrev pub invariant-loop-port : goal.invariant-loop-port
invariant-loop-port l = record {
  in_order : l.output.items ++ held l.port ≡ l.fn.output.items ++ held l.fn.port;
  turn :
      ((pending l.port ≡ 0x04) × (held l.port ≡ held l.fn.port))
      ⊎ ((pending l.port ≡ 0x01) × (length (held l.port) < length (held l.fn.port)));
  opened : IsOpen (state_of_uart l.port);
  coherent : CoherentUart l.port;
}

abbrev pub decreases-loop-port : goal.decreases-loop-port
decreases-loop-port l = pending l.port
