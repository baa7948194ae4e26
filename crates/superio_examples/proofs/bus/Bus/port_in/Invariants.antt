-- SPDX-License-Identifier: Apache-2.0 OR BSD-3-Clause
-- The bytes read so far, and then any that are read from here on, are read one after another.
use Rattle.std.proofs.Common.{List, ℕ, ◌++◌, take}
use Rattle.superio_core.specs.Serial.{Coherent}
use Rattle.superio_examples.specs.Bus.{ReadsBytes}
use Rattle.superio_examples.proofs.bus.Bus.port_in.Given as goal

abbrev pub invariant-loop-place : goal.invariant-loop-place
invariant-loop-place g l = record {
  coherent : Coherent l.fn.self.serial.state → Coherent l.self.serial.state;
  read :
      (more : List ℕ) (new : _) → ReadsBytes g.T.Trigger.link g.EV.SerialEvents.link g.W.Write.contents g.R.Trigger.link l.at more l.self new
      → ReadsBytes g.T.Trigger.link g.EV.SerialEvents.link g.W.Write.contents g.R.Trigger.link l.fn.port (take l.place l.bytes ++ more) l.fn.self new;
}
