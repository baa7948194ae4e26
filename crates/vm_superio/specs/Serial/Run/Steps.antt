-- SPDX-License-Identifier: Apache-2.0 OR BSD-3-Clause
-- A run of calls with a record of each, by the steps of these calls; and what these steps say of a port at each point.
use Rattle.std.specs.Prelude.{◌≡◌, List, [], ◌∷◌, None}
use Rattle.vm_superio.specs.Serial.{SerialView, State, TraceEntry, Trace, step_events, write_response, enqueue_response, timeout_response, refusal_in_result, Asked, Sent, Read, Write, Enqueue, CharacterTimeout, ByteRead, conditions_due, bytes_sent}
use Rattle.vm_superio.specs.Links.{all_ok, RefusesOwnState}
use Rattle.vm_superio.specs.Links.Writer.{SerialLinks}
use Rattle.superio_laws.specs.Serial.Laws.{state_after}
use Rattle.vm_superio.specs.Serial.Run.Segments.{Account}
use Rattle.vm_superio.specs.Serial.Step.{IsSerialStep}
use Rattle.vm_superio.specs.Serial.Run.{Call, Reply, Byte, Wrote, Enqueued, TimedOut, Restored, NotRestored, Done, act_of}

module _ {T E EV W : Type 0} (links : SerialLinks T E EV W) where
  -- one call as a port makes it: a step, or a restore. A restore records no answers and no sent byte. If it succeeds, a
  -- port of the same state takes the place of the old port, which comes back, and the new port's trigger is called for
  -- the conditions that are due. Otherwise the port stays, and the objects of the restore come back
  abbrev pub IsCallStep :
      (call : Call T EV W) (asked : Asked) (sent : Sent) (reply : Reply T EV W E) (old new : SerialView T EV W) → Type 0
  IsCallStep (Call.Read offset) asked sent (Byte byte) old new =
      IsSerialStep links (Read offset) asked sent (ByteRead byte) None old new
  IsCallStep (Call.Write offset value) asked sent (Wrote answer) old new =
      IsSerialStep links (Write offset value) asked sent (write_response answer) (refusal_in_result answer) old new
  IsCallStep (Call.Enqueue bytes) asked sent (Enqueued answer) old new =
      IsSerialStep links (Enqueue bytes.items) asked sent (enqueue_response answer) (refusal_in_result answer) old new
  IsCallStep Call.CharacterTimeout asked sent (TimedOut answer) old new =
      IsSerialStep links CharacterTimeout asked sent (timeout_response answer) (refusal_in_result answer) old new
  IsCallStep (Call.Restore trigger events out) asked sent (Restored before) old new =
      (asked ≡ Asked.Nothing) × (sent ≡ Sent.Nothing) × (before ≡ old) × (new.state ≡ old.state)
      × links.trigger trigger (all_ok (conditions_due old.state)) new.trigger
      × (new.events ≡ events) × (new.out ≡ out)
  IsCallStep (Call.Restore trigger events out) asked sent (NotRestored refused) old new =
      (asked ≡ Asked.Nothing) × (sent ≡ Sent.Nothing)
      × RefusesOwnState links.trigger (conditions_due old.state) refused.error trigger refused.trigger
      × (refused.events ≡ events) × (refused.out ≡ out) × (new ≡ old)
  IsCallStep _ asked sent _ old new = ⊥

  -- there is one record for each call, in order, and each call begins with the port that the one before left
  abbrev pub IsRun :
      (old : SerialView T EV W) (calls : List (Call T EV W)) (records : List (Done T EV W E))
      (end : SerialView T EV W) → Type 0
  IsRun old [] [] end = end ≡ old
  IsRun old (call ∷ calls) (done ∷ later) end =
      (done.act ≡ act_of call)
      × ((next : SerialView T EV W)
      × IsCallStep call done.asked done.sent done.reply old next × IsRun next calls later end)
  IsRun old [] (done ∷ later) end = ⊥
  IsRun old (call ∷ calls) [] end = ⊥

-- a port by the steps of its calls, from any start
abbrev pub by_steps : (start : State) → Account
by_steps start = record {
  state = state_after start;
  due = λ (trace : Trace). conditions_due (state_after start trace);
  events = λ (trace : Trace) (entry : TraceEntry). step_events (state_after start trace) entry.op entry.sent;
  bytes = λ (trace : Trace) (entry : TraceEntry). bytes_sent entry.op entry.sent;
}
