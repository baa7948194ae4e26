-- SPDX-License-Identifier: Apache-2.0 OR BSD-3-Clause
-- Before its only turn nothing is done; after it a byte is taken, and nothing is pending.
use Rattle.std.specs.Prelude.{◌≡◌, ◌<◌, length, ◌⊎◌}
use Rattle.std.specs.Io.KnownBytes.{Keeps, append_known}
use Rattle.vm_superio.specs.Claims.{held, Coherent}
use Rattle.superio_examples.specs.Echo.{IsOpen}
use Rattle.superio_examples.proofs.echo.over_serial.run_handler.Given as goal

abbrev pub invariant-loop-serial : goal.invariant-loop-serial
invariant-loop-serial g l = record {
  in_order :
      Keeps (append_known (g.W.Write.contents l.fn.serial.out) (held l.fn.serial))
      (append_known (g.W.Write.contents l.serial.out) (held l.serial));
  turn :
      ((l.serial.state.interrupt_identification ≡ 0x04) × (held l.serial ≡ held l.fn.serial))
      ⊎ ((l.serial.state.interrupt_identification ≡ 0x01)
      × (length (held l.serial) < length (held l.fn.serial)));
  opened : IsOpen l.serial.state;
  coherent : Coherent l.serial.state;
  uncalled : l.serial.trigger.calls ≡ 0;
}

abbrev pub decreases-loop-serial : goal.decreases-loop-serial
decreases-loop-serial g l = l.serial.state.interrupt_identification
