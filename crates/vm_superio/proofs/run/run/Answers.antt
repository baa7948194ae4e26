-- SPDX-License-Identifier: Apache-2.0 OR BSD-3-Clause
-- A call that was made goes from the run that is left to the run so far. From a coherent start it is a history.
use Rattle.std.proofs.Common.{◌∷◌, refl, append_assoc, append-nil, arith, []}
use Rattle.std.proofs.lemmas.List.{nil_from_length}
use Rattle.vm_superio.specs.Links.Writer.{serial_links}
use Rattle.vm_superio.proofs.Lemmas.Serial.Kept.{run-bound}
use Rattle.vm_superio.proofs.Lemmas.Serial.Run.{IsRun-step, HistoryTheorem-run, SegmentsAre-steps}
use Rattle.vm_superio.proofs.run.run.Goals as goal

pub loop-call-init : goal.loop-call-init
loop-call-init g c = record {
  room = omega (arith, c.in_ok-done.ensures.len, c.in_ok-done.ensures.exact, c.len.ensures, c.from_vec-calls.ensures.len);
  whole = λ later end h. rw (c.in_ok-done.ensures.items, ← c.from_vec-calls.ensures.items) h;
}

pub loop-call-preserved : goal.loop-call-preserved
loop-call-preserved g c =
    let before = c.loop-call.invariant in
    let done = c.make.result in
    let next = c.make.new.self in
    record {
      room = omega (arith, before.room, c.push_reserved.ensures.len, c.push_reserved.ensures.capacity, c.in-Some.ensures.cases);
      whole = λ later end h.
          let step = IsRun-step (serial_links g.T.Trigger.link g.EV.SerialEvents.link g.W.Write.contents) c.in-Some.call c.pop_front.new.self.items
          c.loop-call.calls.items done later _ next end c.in-Some.ensures.items c.make.ensures.act c.make.ensures.made h in
          rw (c.push_reserved.ensures.items, append_assoc) (before.whole (done ∷ later) end step);
    }

pub returns-clause-run : goal.returns-clause-run
returns-clause-run g c =
    let before = c.loop-call.invariant in
    let none = nil_from_length c.loop-call.calls.items (omega (arith, c.in_default.ensures.cases, c.loop-call.calls.ok.0)) in
    rw (← append-nil c.loop-call.done.items) (before.whole [] _ (rw none refl))

pub returns-clause-bound : goal.returns-clause-bound
returns-clause-bound g c =
    run-bound (serial_links g.T.Trigger.link g.EV.SerialEvents.link g.W.Write.contents)
    c.args.calls.items c.loop-call.done.items _ _ (returns-clause-run g c)

pub returns-clause-history : goal.returns-clause-history
returns-clause-history g c =
    HistoryTheorem-run (serial_links g.T.Trigger.link g.EV.SerialEvents.link g.W.Write.contents)
    g.met.T.Trigger.empty g.met.EV.SerialEvents.empty g.met.T.Trigger.append g.met.EV.SerialEvents.append
    _ c.args.calls.items c.loop-call.done.items _ (returns-clause-run g c)

pub returns-clause-segments : goal.returns-clause-segments
returns-clause-segments g c =
    SegmentsAre-steps (serial_links g.T.Trigger.link g.EV.SerialEvents.link g.W.Write.contents)
    g.met.T.Trigger.empty g.met.EV.SerialEvents.empty g.met.T.Trigger.append g.met.EV.SerialEvents.append
    _ c.args.calls.items c.loop-call.done.items _ (returns-clause-run g c)
