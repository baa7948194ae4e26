-- SPDX-License-Identifier: Apache-2.0 OR BSD-3-Clause
-- What the writer took, followed by what is held, stays the same, in order. A byte was taken if the loop has begun.
use Rattle.std.specs.Prelude.{◌≡◌, ◌<◌, length}
use Rattle.std.specs.Io.KnownBytes.{Keeps, append_known}
use Rattle.vm_superio.specs.Claims.{held, Coherent}
use Rattle.superio_examples.specs.Echo.{IsOpen}
use Rattle.superio_examples.proofs.echo.over_serial.echo_up_to.Given as goal

abbrev pub invariant-loop : goal.invariant-loop
invariant-loop g l = record {
  in_order :
      Keeps (append_known (g.W.Write.contents l.fn.serial.out) (held l.fn.serial))
      (append_known (g.W.Write.contents l.serial.out) (held l.serial));
  none_yet : l.counter ≡ 0 → length (held l.serial) ≡ length (held l.fn.serial);
  fewer : 0 < l.counter → length (held l.serial) < length (held l.fn.serial);
  opened : IsOpen l.serial.state;
  idle : l.serial.state.interrupt_identification ≡ 0x01;
  coherent : Coherent l.serial.state;
  uncalled : l.serial.trigger ≡ l.fn.serial.trigger;
}
