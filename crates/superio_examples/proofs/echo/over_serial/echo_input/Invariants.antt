-- SPDX-License-Identifier: Apache-2.0 OR BSD-3-Clause
-- What the writer took, followed by what is to come, stays the same. Between pieces nothing is held, and the trigger
-- was not called.
use Rattle.std.specs.Prelude.{◌≡◌, [], length}
use Rattle.std.specs.Io.KnownBytes.{Keeps, append_known}
use Rattle.vm_superio.specs.Claims.{held, Coherent}
use Rattle.superio_examples.specs.Echo.{IsOpen}
use Rattle.superio_examples.proofs.echo.over_serial.echo_input.Given as goal

abbrev pub invariant-loop-most : goal.invariant-loop-most
invariant-loop-most g l = record {
  in_order :
      Keeps (append_known (g.W.Write.contents l.fn.serial.out) l.fn.input)
      (append_known (g.W.Write.contents l.serial.out) l.rest);
  none_held : held l.serial ≡ [];
  idle : l.serial.state.interrupt_identification ≡ 0x01;
  uncalled : l.serial.trigger.calls ≡ 0;
  opened : IsOpen l.serial.state;
  coherent : Coherent l.serial.state;
}

abbrev pub invariant-loop-rest : goal.invariant-loop-rest
invariant-loop-rest g l = record {
  in_order :
      Keeps (append_known (g.W.Write.contents l.fn.serial.out) l.fn.input)
      (append_known (g.W.Write.contents l.serial.out) l.rest);
  none_held : held l.serial ≡ [];
  idle : l.serial.state.interrupt_identification ≡ 0x01;
  uncalled : l.serial.trigger.calls ≡ 0;
  opened : IsOpen l.serial.state;
  coherent : Coherent l.serial.state;
}

abbrev pub decreases-loop-rest : goal.decreases-loop-rest
decreases-loop-rest g l = length l.rest
