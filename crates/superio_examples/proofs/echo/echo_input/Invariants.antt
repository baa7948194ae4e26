-- SPDX-License-Identifier: Apache-2.0 OR BSD-3-Clause
-- What was sent, followed by what is to come, is what was sent at first, followed by the input. Between pieces nothing
-- is held.
use Rattle.std.specs.Prelude.{◌≡◌, ◌++◌, [], length}
use Rattle.superio_core.specs.Serial.{CoherentUart, state_of_uart}
use Rattle.superio_examples.specs.Echo.{IsOpen, held, pending}
use Rattle.superio_examples.proofs.echo.echo_input.Given as goal

abbrev pub invariant-loop-most : goal.invariant-loop-most
invariant-loop-most l = record {
  in_order : l.output.items ++ l.rest ≡ l.fn.output.items ++ l.fn.input;
  none_held : held l.port ≡ [];
  idle : pending l.port ≡ 0x01;
  opened : IsOpen (state_of_uart l.port);
  coherent : CoherentUart l.port;
}

abbrev pub invariant-loop-rest : goal.invariant-loop-rest
invariant-loop-rest l = record {
  in_order : l.output.items ++ l.rest ≡ l.fn.output.items ++ l.fn.input;
  none_held : held l.port ≡ [];
  idle : pending l.port ≡ 0x01;
  opened : IsOpen (state_of_uart l.port);
  coherent : CoherentUart l.port;
}

abbrev pub decreases-loop-rest : goal.decreases-loop-rest
decreases-loop-rest l = length l.rest
