-- SPDX-License-Identifier: Apache-2.0 OR BSD-3-Clause
-- The trigger was called exactly while bytes are held. Each run takes one at least.
use Rattle.std.specs.Prelude.{◌≡◌, length, if◌then◌else◌}
use Rattle.std.specs.Io.KnownBytes.{Keeps, append_known}
use Rattle.vm_superio.specs.Claims.{held, Coherent, not_empty}
use Rattle.vm_superio.specs.Serial.{count_if}
use Rattle.superio_examples.specs.Echo.{IsOpen}
use Rattle.superio_examples.proofs.echo.over_serial.serve.Given as goal

abbrev pub invariant-loop-serial : goal.invariant-loop-serial
invariant-loop-serial g l = record {
  in_order :
      Keeps (append_known (g.W.Write.contents l.fn.serial.out) (held l.fn.serial))
      (append_known (g.W.Write.contents l.serial.out) (held l.serial));
  called : l.serial.trigger.calls ≡ count_if (not_empty (held l.serial));
  pending : l.serial.state.interrupt_identification ≡ (if not_empty (held l.serial) then 0x04 else 0x01);
  opened : IsOpen l.serial.state;
  coherent : Coherent l.serial.state;
}

abbrev pub decreases-loop-serial : goal.decreases-loop-serial
decreases-loop-serial g l = length (held l.serial)
