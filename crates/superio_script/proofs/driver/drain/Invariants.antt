-- SPDX-License-Identifier: Apache-2.0 OR BSD-3-Clause
-- What was read so far, and that the reads that are to come make it whole.
use Rattle.std.proofs.Common.{◌≡◌, ◌≤◌, ◌+◌, ◌++◌, length, false, List, ℕ}
use Rattle.vm_superio.specs.Serial.{SerialView, is_dlab}
use Rattle.superio_script.specs.Driver.{ReadsWhileReady}
use Rattle.superio_script.proofs.DriverLemmas.{reads_left}
use Rattle.superio_script.proofs.driver.drain.Given as goal

abbrev pub invariant-loop-bytes : goal.invariant-loop-bytes
invariant-loop-bytes g l =
    let T = g.row.T.Denot in
    let EV = g.row.EV.Denot in
    let W = g.row.W.Denot in
    let reads = ReadsWhileReady g.T.Trigger.link g.EV.SerialEvents.link g.W.Write.contents in
    record {
      hidden : is_dlab l.serial.state.line_control ≡ false;
      room : length l.bytes.items + reads_left l.serial.state ≤ 64;
      whole : (later : List ℕ) (end : SerialView T EV W) → reads later l.serial end → reads (l.bytes.items ++ later) l.fn.serial end;
      trigger : l.serial.trigger ≡ l.fn.serial.trigger;
      out : l.serial.out ≡ l.fn.serial.out;
    }

abbrev pub decreases-loop-bytes : goal.decreases-loop-bytes
decreases-loop-bytes g l = reads_left l.serial.state
