-- SPDX-License-Identifier: Apache-2.0 OR BSD-3-Clause
-- A run, split at the restores that succeed. Each part is a segment, which the same three objects serve. For each
-- object, a field of `IsServed` lists the calls that led from its value at the start of a segment to its value at the
-- end. Which objects have the calls after a restore depends on whether the restore succeeds, and so on memory, too. The
-- objects that a refused restore hands back are also here. No definition here names a step.
use Rattle.std.specs.Prelude.{◌≡◌, not, ℕ, Bool, true, false, if◌then◌else◌, List, [], ◌∷◌, ◌++◌, flat_map, ⊤, IsTrue}
use Rattle.std.specs.List.{list_all, AllByRecursion}
use Rattle.std.specs.Io.KnownBytes.{Appends}
use Rattle.vm_superio.specs.Serial.{SerialView, State, Condition, Event, TraceEntry, Trace, Sent, is_lost, outcome_of, trace_after}
use Rattle.vm_superio.specs.Links.{TriggerAnswer, answers_of, all_ok, RefusesOwnState}
use Rattle.vm_superio.specs.Links.Writer.{SerialLinks, WriterLink}
use Rattle.superio_laws.specs.Serial.History.{output}
use Rattle.vm_superio.specs.Serial.Run.{Call, Reply, Restored, NotRestored, Done, entry_of, entries_of, trace_of, refusal_in_reply}

-- an account of a port: its state after each trace, the conditions for which a restore after this trace would call the
-- trigger, and the events that an entry after this trace reports and the byte that it sends
pub record Account : Type 0 where
  pub state : (trace : Trace) → State
  pub due : (trace : Trace) → List Condition
  pub events : (trace : Trace) (entry : TraceEntry) → List Event
  pub bytes : (trace : Trace) (entry : TraceEntry) → List ℕ

-- a segment: the trace at its start; its objects as they were passed to the restore that began it; the trigger's
-- answers to this restore; its records; and the port at its end
pub record Segment (T E EV W : Type 0) : Type 0 where
  pub before : Trace
  pub trigger : T
  pub events : EV
  pub out : W
  pub restoring : List (TriggerAnswer E)
  pub records : List (Done T EV W E)
  pub end : SerialView T EV W

-- ---- the segments of a run

module _ {T E EV W : Type 0} where
  -- the reply to a restore that succeeds
  abbrev pub is_restored : (reply : Reply T EV W E) → Bool
  is_restored (Restored old) = true
  is_restored _ = false

  -- the records of a segment: those before the first restore that succeeds, or all
  abbrev pub records_in : (records : List (Done T EV W E)) → List (Done T EV W E)
  records_in [] = []
  records_in (done ∷ later) = if is_restored done.reply then [] else done ∷ records_in later

  -- the port at the end of a segment: the old port that the restore after it hands back, or the port at the end of the
  -- run
  abbrev pub old_port_or : (reply : Reply T EV W E) (end : SerialView T EV W) → SerialView T EV W
  old_port_or (Restored old) end = old
  old_port_or _ end = end

  abbrev pub end_of : (records : List (Done T EV W E)) (end : SerialView T EV W) → SerialView T EV W
  end_of [] end = end
  end_of (done ∷ later) end = old_port_or done.reply (end_of later end)

  module _ (account : Account) where
    -- a restore that succeeds begins a segment with the objects that it was passed. The new trigger took one call for
    -- each condition that was due
    abbrev pub segment_begun :
        (trace : Trace) (call : Call T EV W) (reply : Reply T EV W E) (entry : TraceEntry)
        (later : List (Done T EV W E)) (end : SerialView T EV W) → List (Segment T E EV W)
    segment_begun trace (Call.Restore trigger events out) (Restored old) entry later end = record {
      before = entry ∷ trace;
      trigger = trigger;
      events = events;
      out = out;
      restoring = all_ok (account.due trace);
      records = records_in later;
      end = end_of later end;
    } ∷ []
    segment_begun trace call reply entry later end = []

    abbrev pub segments_begun :
        (trace : Trace) (calls : List (Call T EV W)) (records : List (Done T EV W E)) (end : SerialView T EV W)
        → List (Segment T E EV W)
    segments_begun trace (call ∷ calls) (done ∷ later) end =
        segment_begun trace call done.reply (entry_of done) later end
        ++ segments_begun (entry_of done ∷ trace) calls later end
    segments_begun trace _ _ end = []

    -- the first segment of a run begins with the port as it is
    abbrev pub segments_of :
        (start : SerialView T EV W) (calls : List (Call T EV W)) (records : List (Done T EV W E))
        (end : SerialView T EV W)
        → List (Segment T E EV W)
    segments_of start calls records end = record {
      before = [];
      trigger = start.trigger;
      events = start.events;
      out = start.out;
      restoring = [];
      records = records_in records;
      end = end_of records end;
    } ∷ segments_begun [] calls records end

-- ---- the lists by which the objects of a segment are linked

module _ {T E EV W : Type 0} where
  -- the trigger's answers in some records, in order
  abbrev pub answers_in : (records : List (Done T EV W E)) → List (TriggerAnswer E)
  answers_in records = flat_map (λ (done : Done T EV W E). answers_of done.asked (refusal_in_reply done.reply)) records

  -- the outcomes of the bytes that these records sent
  abbrev pub outcomes_in : (records : List (Done T EV W E)) → List Sent
  outcomes_in records = flat_map (λ (done : Done T EV W E). outcome_of done.sent) records

  -- what each record adds at its point of the trace, one after the other
  abbrev pub in_order :
      {A : Type 0} (adds : Trace → TraceEntry → List A) (trace : Trace) (records : List (Done T EV W E)) → List A
  in_order adds trace [] = []
  in_order adds trace (done ∷ later) = adds trace (entry_of done) ++ in_order adds (entry_of done ∷ trace) later

module _ {T E EV W : Type 0} (links : SerialLinks T E EV W) where
  -- each object of a segment had these calls and no others, in order. The trigger first had the calls of the restore,
  -- and its value after them is `made`. The port at the end of the segment has the state that the account gives there,
  -- also if it is an old port that a restore hands back
  pub record IsServed (account : Account) (segment : Segment T E EV W) : Type 0 where
    pub made : T
    pub restored : links.trigger segment.trigger segment.restoring made
    pub answered : links.trigger made (answers_in segment.records) segment.end.trigger
    pub trigger :
        links.trigger segment.trigger (segment.restoring ++ answers_in segment.records) segment.end.trigger
    pub events :
        links.events segment.events (in_order account.events segment.before segment.records) segment.end.events
    pub out :
        WriterLink links.contents (outcomes_in segment.records)
        (in_order account.bytes segment.before segment.records) segment.out segment.end.out
    pub state : segment.end.state ≡ account.state (trace_after segment.before (entries_of segment.records))

  -- if no byte of a segment is lost, a writer of known contents took the segment's output and nothing else
  abbrev pub TakesOutput : (start : State) (segment : Segment T E EV W) → Type 0
  TakesOutput start segment =
      IsTrue (list_all (λ (done : Done T EV W E). not (is_lost done.sent)) segment.records)
      → Appends (links.contents segment.out) (links.contents segment.end.out)
      (output start segment.before (trace_of segment.records))

  -- ---- restores that are refused

  -- why a restore was refused, and the three objects that come back: the trigger as its calls left it, the last of
  -- which it refused, and the other two as they were passed
  abbrev pub IsRefusalAt :
      (account : Account) (trace : Trace) (call : Call T EV W) (reply : Reply T EV W E) → Type 0
  IsRefusalAt account trace (Call.Restore trigger events out) (NotRestored refused) =
      RefusesOwnState links.trigger (account.due trace) refused.error trigger refused.trigger
      × (refused.events ≡ events) × (refused.out ≡ out)
  IsRefusalAt account trace call reply = ⊤

  abbrev pub RefusalsAre :
      (account : Account) (trace : Trace) (calls : List (Call T EV W)) (records : List (Done T EV W E)) → Type 0
  RefusalsAre account trace (call ∷ calls) (done ∷ later) =
      IsRefusalAt account trace call done.reply × RefusalsAre account (entry_of done ∷ trace) calls later
  RefusalsAre account trace _ _ = ⊤

  -- ---- a run by its segments

  pub record SegmentsAre
      (account : Account) (start : SerialView T EV W) (calls : List (Call T EV W)) (records : List (Done T EV W E))
      (end : SerialView T EV W) : Type 0 where
    pub served : AllByRecursion (IsServed account) (segments_of account start calls records end)
    pub refused : RefusalsAre account [] calls records
