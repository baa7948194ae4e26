-- SPDX-License-Identifier: Apache-2.0 OR BSD-3-Clause
-- What was sent, followed by what is held, are the bytes that were there, in order. A byte was taken if the loop has
-- begun.
use Rattle.std.specs.Prelude.{◌≡◌, ◌<◌, ◌++◌, length}
use Rattle.superio_core.specs.Serial.{CoherentUart, state_of_uart}
use Rattle.superio_examples.specs.Echo.{IsOpen, held, pending}
use Rattle.superio_examples.proofs.echo.echo_up_to.Given as goal

abbrev pub invariant-loop : goal.invariant-loop
invariant-loop l = record {
  in_order : l.output.items ++ held l.port ≡ l.fn.output.items ++ held l.fn.port;
  none_yet : l.counter ≡ 0 → length (held l.port) ≡ length (held l.fn.port);
  fewer : 0 < l.counter → length (held l.port) < length (held l.fn.port);
  opened : IsOpen (state_of_uart l.port);
  idle : pending l.port ≡ 0x01;
  coherent : CoherentUart l.port;
}
