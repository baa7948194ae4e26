-- SPDX-License-Identifier: Apache-2.0 OR BSD-3-Clause
-- The bytes written so far, and then the others, are written one after another.
use Rattle.std.proofs.Common.{drop}
use Rattle.std.specs.Result.{result_and}
use Rattle.superio_core.specs.Serial.{Coherent}
use Rattle.superio_examples.specs.Bus.{WritesBytes}
use Rattle.superio_examples.proofs.bus.Bus.port_out.Given as goal

abbrev pub invariant-loop-byte : goal.invariant-loop-byte
invariant-loop-byte g l = record {
  coherent : Coherent l.fn.self.serial.state → Coherent l.self.serial.state;
  written :
      (rest : _) (new : _) → WritesBytes g.T.Trigger.link g.EV.SerialEvents.link g.W.Write.contents g.R.Trigger.link l.at (drop l.byte-index l.bytes) rest l.self new
      → WritesBytes g.T.Trigger.link g.EV.SerialEvents.link g.W.Write.contents g.R.Trigger.link l.fn.port l.bytes (result_and l.result rest) l.fn.self new;
}
