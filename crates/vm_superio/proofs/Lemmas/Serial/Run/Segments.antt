-- SPDX-License-Identifier: Apache-2.0 OR BSD-3-Clause
-- A run by its segments, from its steps: by any account of the port that the steps meet, so by the steps themselves, and
-- from a coherent start by the history.
use Rattle.std.proofs.Common.{arith, ◌≡◌, ℕ, List, [], ◌∷◌, sym, subst, not, ◌++◌, refl, ap, ◌∙◌, Option, None, ◌↔◌, IsTrue, append_assoc, append-nil}
use Rattle.std.proofs.lemmas.Bool.{and_parts}
use Rattle.std.specs.List.{list_all, AllByRecursion}
use Rattle.std.specs.Io.KnownBytes.{Appends}
use Rattle.vm_superio.specs.Serial.Run.{Call, Done, act_of, IsReplyTo, op_of, entry_of, response_of, entries_of, Act, Reply, Byte, Wrote, Enqueued, TimedOut, Restored, NotRestored}
use Rattle.vm_superio.specs.Serial.{trace_after, outcome_of, bytes_sent, Asked, Sent, Op, TraceEntry, Trace, State, Coherent, Event, SerialView, Response, sent_by, is_lost, step, step_events, step_response, answers_fit, conditions_due}
use Rattle.vm_superio.specs.Serial.Run.Steps.{IsCallStep, IsRun, by_steps}
use Rattle.vm_superio.specs.Serial.Run.Segments.{Account, Segment, records_in, end_of, segments_begun, answers_in, outcomes_in, in_order, IsServed, TakesOutput, RefusalsAre, SegmentsAre}
use Rattle.vm_superio.specs.Serial.Run.HistoryTheorem.{by_history}
use Rattle.vm_superio.specs.Links.{TriggerAnswer, answers_of, all_ok, RefusesOwnState}
use Rattle.vm_superio.specs.Links.Writer.{SerialLinks, WriterLink}
use Rattle.vm_superio.specs.Serial.Step.{IsSerialStep}
use Rattle.superio_laws.specs.Serial.History.{decode_at, output}
use Rattle.vm_superio.proofs.Lemmas.{WriterLink-append, known_output_law}
use Rattle.superio_laws.proofs.Lemmas.Serial.Laws.StepsOfHistory.{step_law}
use Rattle.superio_core.specs.Serial.Operations as operation

-- a restore records no trigger answers and no sent byte
restore_fits : (s : State) (asked : Asked) (sent : Sent) → asked ≡ Asked.Nothing → sent ≡ Sent.Nothing → IsTrue (answers_fit s operation.Restore asked sent)
restore_fits s asked sent trigger_empty no_byte = grind arith

-- an outcome that is no loss
none_lost-with : (sent : Sent) (outcomes : List Sent) → IsTrue (not (is_lost sent)) → IsTrue (list_all (λ outcome. not (is_lost outcome)) outcomes)
    → IsTrue (list_all (λ outcome. not (is_lost outcome)) (outcome_of sent ++ outcomes))
none_lost-with sent outcomes kept none = grind arith

-- ---- each call is a step

module _ {T E EV W : Type 0} (links : SerialLinks T E EV W) where
  pub record EntryFollows (s : State) (made : Act) (asked : Asked) (sent : Sent) (reply : Reply T EV W E) (next : State) : Type 0 where
    pub fits : IsTrue (answers_fit s (op_of made) asked sent)
    pub response : response_of reply ≡ step_response s (op_of made) asked sent
    pub state : next ≡ step s (op_of made) asked
    pub of : IsReplyTo made reply

  pub EntryFollows-call :
      (call : Call T EV W) (asked : Asked) (sent : Sent) (reply : Reply T EV W E) (old next : SerialView T EV W) →
      IsCallStep links call asked sent reply old next → EntryFollows old.state (act_of call) asked sent reply next.state
  EntryFollows-call (Call.Read offset) asked sent (Byte byte) old next h = record { fits = h.fits; response = h.response; state = h.state; of = tt }
  EntryFollows-call (Call.Write offset value) asked sent (Wrote answer) old next h = record { fits = h.fits; response = h.response; state = h.state; of = tt }
  EntryFollows-call (Call.Enqueue bytes) asked sent (Enqueued answer) old next h = record { fits = h.fits; response = h.response; state = h.state; of = tt }
  EntryFollows-call Call.CharacterTimeout asked sent (TimedOut answer) old next h = record { fits = h.fits; response = h.response; state = h.state; of = tt }
  EntryFollows-call (Call.Restore t ev w) asked sent (Restored before) old next h =
      record { fits = restore_fits old.state asked sent h.0 h.1; response = refl; state = h.3; of = tt }
  EntryFollows-call (Call.Restore t ev w) asked sent (NotRestored refused) old next h =
      record { fits = restore_fits old.state asked sent h.0 h.1; response = refl; state = ap (λ (port : SerialView T EV W). port.state) h.5; of = tt }
  EntryFollows-call _ asked sent _ old next h = absurd h

-- ---- an account that the steps meet

record EntryMeets (account : Account) (trace : Trace) (entry : TraceEntry) : Type 0 where
  state : step (account.state trace) entry.op entry.asked ≡ account.state (entry ∷ trace)
  events : step_events (account.state trace) entry.op entry.sent ≡ account.events trace entry
  bytes : bytes_sent entry.op entry.sent ≡ account.bytes trace entry

pub record IsMet (account : Account) : Type 0 where
  due : (trace : Trace) → conditions_due (account.state trace) ≡ account.due trace
  entries :
      (trace : Trace) (entry : TraceEntry) → IsTrue (answers_fit (account.state trace) entry.op entry.asked entry.sent)
      → EntryMeets account trace entry

pub by_steps-met : (start : State) → IsMet (by_steps start)
by_steps-met start = record {
  due = λ trace. refl;
  entries = λ trace entry fits. record { state = refl; events = refl; bytes = refl };
}

pub by_history-met : (start : State) → Coherent start → IsMet (by_history start)
by_history-met start coherent = record {
  due = λ trace. (step_law start trace coherent).restoring;
  entries = λ trace entry fits.
      let agrees = (step_law start trace coherent).steps entry fits in
      record { state = agrees.state; events = agrees.events; bytes = agrees.output };
}

-- ---- from a port at some point to the end of its segment, and the segments after it

module _ {T E EV W : Type 0} (links : SerialLinks T E EV W) (account : Account) where
  -- the three objects from one port to another
  record Linked (answers : List (TriggerAnswer E)) (events : List Event) (outcomes : List Sent) (bytes : List ℕ) (old new : SerialView T EV W) : Type 0 where
    trigger : links.trigger old.trigger answers new.trigger
    reported : links.events old.events events new.events
    out : WriterLink links.contents outcomes bytes old.out new.out

  record FromHere (trace : Trace) (calls : List (Call T EV W)) (records : List (Done T EV W E)) (old end : SerialView T EV W) : Type 0 where
    linked :
        Linked (answers_in (records_in records)) (in_order account.events trace (records_in records)) (outcomes_in (records_in records))
        (in_order account.bytes trace (records_in records)) old (end_of records end)
    state : (end_of records end).state ≡ account.state (trace_after trace (entries_of (records_in records)))
    later : AllByRecursion (IsServed links account) (segments_begun account trace calls records end)
    refused : RefusalsAre links account trace calls records

  module _
      (trigger_empty : (x y : T) → links.trigger x [] y ↔ (x ≡ y)) (events_empty : (x y : EV) → links.events x [] y ↔ (x ≡ y))
      (calls_joined : (x y z : T) (first second : List (TriggerAnswer E)) → links.trigger x first y → links.trigger y second z → links.trigger x (first ++ second) z)
      (events_joined : (x y z : EV) (first second : List Event) → links.events x first y → links.events y second z → links.events x (first ++ second) z) where
    -- an equal port has the same objects
    Linked-same : (old new : SerialView T EV W) → new ≡ old → Linked [] [] [] [] old new
    Linked-same old new same = record {
      trigger = (trigger_empty old.trigger new.trigger).1 (ap (λ (port : SerialView T EV W). port.trigger) (sym same));
      reported = (events_empty old.events new.events).1 (ap (λ (port : SerialView T EV W). port.events) (sym same));
      out = ap (λ (port : SerialView T EV W). port.out) (sym same);
    }

    Linked-append :
        (answers more_answers : List (TriggerAnswer E)) (events more_events : List Event) (outcomes more_outcomes : List Sent)
        (bytes more_bytes : List ℕ) (old next end : SerialView T EV W) →
        Linked answers events outcomes bytes old next → Linked more_answers more_events more_outcomes more_bytes next end →
        Linked (answers ++ more_answers) (events ++ more_events) (outcomes ++ more_outcomes) (bytes ++ more_bytes) old end
    Linked-append answers more_answers events more_events outcomes more_outcomes bytes more_bytes old next end first second = record {
      trigger = calls_joined old.trigger next.trigger end.trigger answers more_answers first.trigger second.trigger;
      reported = events_joined old.events next.events end.events events more_events first.reported second.reported;
      out = WriterLink-append links.contents outcomes more_outcomes bytes more_bytes old.out next.out end.out first.out second.out;
    }

    module _ (met : IsMet account) where
      -- a step links the objects by its answers, its events and its byte
      Linked-step :
          (trace : Trace) (op : Op) (asked : Asked) (sent : Sent) (reply : Response) (refusal : Option E) (old next : SerialView T EV W) →
          old.state ≡ account.state trace → IsSerialStep links op asked sent reply refusal old next →
          let entry : TraceEntry = record { op = op; asked = asked; sent = sent } in
          Linked (answers_of asked refusal) (account.events trace entry) (outcome_of sent) (account.bytes trace entry) old next
      Linked-step trace op asked sent reply refusal old next here made =
          let entry : TraceEntry = record { op = op; asked = asked; sent = sent } in
          let meets = met.entries trace entry (subst (λ s. IsTrue (answers_fit s op asked sent)) here made.fits) in
          record {
            trigger = made.trigger;
            reported = subst (λ events. links.events old.events events next.events) (ap (λ s. step_events s op sent) here ∙ meets.events) made.events;
            out = subst (λ bytes. WriterLink links.contents (outcome_of sent) bytes old.out next.out) meets.bytes made.out;
          }

      -- a restore that is refused calls none of the port's objects
      Linked-refused :
          (trace : Trace) (asked : Asked) (sent : Sent) (old next : SerialView T EV W) →
          asked ≡ Asked.Nothing → sent ≡ Sent.Nothing → next ≡ old →
          let entry : TraceEntry = record { op = operation.Restore; asked = asked; sent = sent } in
          Linked (answers_of {E = E} asked None) (account.events trace entry) (outcome_of sent) (account.bytes trace entry) old next
      Linked-refused trace asked sent old next trigger_empty no_byte same =
          let entry : TraceEntry = record { op = operation.Restore; asked = asked; sent = sent } in
          let s = account.state trace in
          let meets = met.entries trace entry (restore_fits s asked sent trigger_empty no_byte) in
          let linked = Linked-same old next same in
          record {
            trigger = subst (λ asked. links.trigger old.trigger (answers_of {E = E} asked None) next.trigger) (sym trigger_empty) linked.trigger;
            reported =
                subst (λ events. links.events old.events events next.events)
                (sym (ap (λ sent. step_events s operation.Restore sent) no_byte) ∙ meets.events) linked.reported;
            out =
                subst (λ bytes. WriterLink links.contents (outcome_of sent) bytes old.out next.out) meets.bytes
                (subst (λ sent. WriterLink links.contents (outcome_of sent) [] old.out next.out) (sym no_byte) linked.out);
          }

      -- one call, and then what is from the port that it leaves
      FromHere-call :
          (trace : Trace) (call : Call T EV W) (asked : Asked) (sent : Sent) (reply : Reply T EV W E)
          (calls : List (Call T EV W)) (later : List (Done T EV W E)) (old next end : SerialView T EV W) →
          old.state ≡ account.state trace → IsCallStep links call asked sent reply old next →
          FromHere (record { op = op_of (act_of call); asked = asked; sent = sent } ∷ trace) calls later next end →
          FromHere trace (call ∷ calls) (record { act = act_of call; asked = asked; sent = sent; reply = reply } ∷ later) old end
      FromHere-call trace (Call.Read offset) asked sent (Byte byte) calls later old next end here h rest = record {
        linked = Linked-append _ _ _ _ _ _ _ _ old next (end_of later end) (Linked-step trace _ asked sent _ _ old next here h) rest.linked;
        state = rest.state;
        later = rest.later;
        refused = (tt, rest.refused);
      }
      FromHere-call trace (Call.Write offset value) asked sent (Wrote answer) calls later old next end here h rest = record {
        linked = Linked-append _ _ _ _ _ _ _ _ old next (end_of later end) (Linked-step trace _ asked sent _ _ old next here h) rest.linked;
        state = rest.state;
        later = rest.later;
        refused = (tt, rest.refused);
      }
      FromHere-call trace (Call.Enqueue bytes) asked sent (Enqueued answer) calls later old next end here h rest = record {
        linked = Linked-append _ _ _ _ _ _ _ _ old next (end_of later end) (Linked-step trace _ asked sent _ _ old next here h) rest.linked;
        state = rest.state;
        later = rest.later;
        refused = (tt, rest.refused);
      }
      FromHere-call trace Call.CharacterTimeout asked sent (TimedOut answer) calls later old next end here h rest = record {
        linked = Linked-append _ _ _ _ _ _ _ _ old next (end_of later end) (Linked-step trace _ asked sent _ _ old next here h) rest.linked;
        state = rest.state;
        later = rest.later;
        refused = (tt, rest.refused);
      }
      FromHere-call trace (Call.Restore t ev w) asked sent (NotRestored refused) calls later old next end here h rest = record {
        linked =
            Linked-append _ _ _ _ _ _ _ _ old next (end_of later end)
            (Linked-refused trace asked sent old next h.0 h.1 h.5) rest.linked;
        state = rest.state;
        later = rest.later;
        refused = (
          (
            subst (λ due. RefusesOwnState links.trigger due refused.error t refused.trigger) (ap conditions_due here ∙ met.due trace) h.2,
            h.3,
            h.4,
          ),
          rest.refused,
        );
      }
      FromHere-call trace (Call.Restore t ev w) asked sent (Restored was) calls later old next end here h rest =
          let after : Trace = record { op = operation.Restore; asked = asked; sent = sent } ∷ trace in
          let kept = records_in later in
          let due = subst (λ due. links.trigger t (all_ok due) next.trigger) (ap conditions_due here ∙ met.due trace) h.4 in
          record {
            linked = Linked-same old was h.2;
            state = ap (λ (port : SerialView T EV W). port.state) h.2 ∙ here;
            later = (
              record {
                made = next.trigger;
                restored = due;
                answered = rest.linked.trigger;
                trigger = calls_joined t next.trigger (end_of later end).trigger (all_ok (account.due trace)) (answers_in kept) due rest.linked.trigger;
                events = subst (λ ev. links.events ev (in_order account.events after kept) (end_of later end).events) h.5 rest.linked.reported;
                out = subst (λ w. WriterLink links.contents (outcomes_in kept) (in_order account.bytes after kept) w (end_of later end).out) h.6 rest.linked.out;
                state = rest.state;
              },
              rest.later,
            );
            refused = (tt, rest.refused);
          }
      FromHere-call trace _ asked sent _ calls later old next end here h rest = absurd h

      FromHere-run :
          (calls : List (Call T EV W)) (records : List (Done T EV W E)) (trace : Trace) (old end : SerialView T EV W) →
          old.state ≡ account.state trace → IsRun links old calls records end → FromHere trace calls records old end
      FromHere-run [] [] trace old end here run = record {
        linked = Linked-same old end run;
        state = ap (λ (port : SerialView T EV W). port.state) run ∙ here;
        later = tt;
        refused = tt;
      }
      FromHere-run (call ∷ calls) (done ∷ later) trace old end here run =
          let next = run.1.0 in
          let one = EntryFollows-call links call done.asked done.sent done.reply old next run.1.1 in
          let op = op_of (act_of call) in
          let entry : TraceEntry = record { op = op; asked = done.asked; sent = done.sent } in
          let meets = met.entries trace entry (subst (λ s. IsTrue (answers_fit s op done.asked done.sent)) here one.fits) in
          let on = one.state ∙ ap (λ s. step s op done.asked) here ∙ meets.state in
          subst (λ made. FromHere trace (call ∷ calls) (record { act = made; asked = done.asked; sent = done.sent; reply = done.reply } ∷ later) old end)
          (sym run.0)
          (FromHere-call trace call done.asked done.sent done.reply calls later old next end here run.1.1
          (FromHere-run calls later (entry ∷ trace) next end on run.1.2))
      FromHere-run [] (done ∷ later) trace old end here run = absurd run
      FromHere-run (call ∷ calls) [] trace old end here run = absurd run

      pub SegmentsAre-run :
          (start : SerialView T EV W) (calls : List (Call T EV W)) (records : List (Done T EV W E)) (end : SerialView T EV W) →
          start.state ≡ account.state [] → IsRun links start calls records end → SegmentsAre links account start calls records end
      SegmentsAre-run start calls records end here run =
          let all = FromHere-run calls records [] start end here run in
          record {
            served = (
              record {
                made = start.trigger;
                restored = (trigger_empty start.trigger start.trigger).1 refl;
                answered = all.linked.trigger;
                trigger = all.linked.trigger;
                events = all.linked.reported;
                out = all.linked.out;
                state = all.state;
              },
              all.later,
            );
            refused = all.refused;
          }

-- ---- the output of a segment

module _ {T E EV W : Type 0} where
  -- the bytes of further records follow the output so far
  output-in_order :
      (start : State) (before newest : Trace) (records : List (Done T EV W E)) →
      output start before newest ++ in_order (λ trace (entry : TraceEntry). sent_by (decode_at start trace entry.op)) (newest ++ before) records
      ≡ output start before (trace_after newest (entries_of records))
  output-in_order start before newest [] = append-nil (output start before newest)
  output-in_order start before newest (done ∷ later) =
      sym (append_assoc (output start before newest) (sent_by (decode_at start (newest ++ before) (op_of done.act))) _)
      ∙ output-in_order start before (entry_of done ∷ newest) later

  -- no byte is lost in some records, so none of their outcomes is a loss
  none_lost-outcomes :
      (records : List (Done T EV W E)) → IsTrue (list_all (λ (done : Done T EV W E). not (is_lost done.sent)) records) →
      IsTrue (list_all (λ outcome. not (is_lost outcome)) (outcomes_in records))
  none_lost-outcomes [] kept = refl
  none_lost-outcomes (done ∷ later) kept =
      none_lost-with done.sent (outcomes_in later) (and_parts _ _ kept).0 (none_lost-outcomes later (and_parts _ _ kept).1)

module _ {T E EV W : Type 0} (links : SerialLinks T E EV W) (start : State) where
  TakesOutput-served : (segment : Segment T E EV W) → IsServed links (by_history start) segment → TakesOutput links start segment
  TakesOutput-served segment served kept =
      subst (Appends (links.contents segment.out) (links.contents segment.end.out)) (output-in_order start segment.before [] segment.records)
      (known_output_law links.contents segment.out segment.end.out _ _ served.out (none_lost-outcomes segment.records kept))

  pub TakesOutput-all :
      (segments : List (Segment T E EV W)) → AllByRecursion (IsServed links (by_history start)) segments →
      AllByRecursion (TakesOutput links start) segments
  TakesOutput-all [] served = tt
  TakesOutput-all (segment ∷ segments) served = (TakesOutput-served segment served.0, TakesOutput-all segments served.1)
