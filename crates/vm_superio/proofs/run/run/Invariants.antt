-- SPDX-License-Identifier: Apache-2.0 OR BSD-3-Clause
-- What continues the run so far makes the whole run. The calls that are left get fewer.
use Rattle.std.proofs.Common.{◌≤◌, ◌+◌, List, ◌++◌, vec_len, vec_capacity, deque_len}
use Rattle.vm_superio.specs.Serial.{SerialView}
use Rattle.vm_superio.specs.Links.Writer.{serial_links}
use Rattle.vm_superio.specs.Serial.Run.Steps.{IsRun}
use Rattle.vm_superio.specs.declared.run.Done.{Done}
use Rattle.vm_superio.proofs.run.run.Given as goal

abbrev pub invariant-loop-call : goal.invariant-loop-call
invariant-loop-call g l =
    let T = g.row.T.Denot in
    let E = g.row.T-E.Denot in
    let EV = g.row.EV.Denot in
    let W = g.row.W.Denot in
    let is_run = IsRun (serial_links g.T.Trigger.link g.EV.SerialEvents.link g.W.Write.contents) in
    record {
      room : vec_len l.done + deque_len l.calls ≤ vec_capacity l.done;
      whole : (later : List (Done T EV W E)) (end : SerialView T EV W) → is_run l.serial l.calls.items later end →
          is_run l.initial.serial l.fn.calls.items (l.done.items ++ later) end;
    }

abbrev pub decreases-loop-call : goal.decreases-loop-call
decreases-loop-call g l = deque_len l.calls
