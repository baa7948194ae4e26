-- SPDX-License-Identifier: Apache-2.0 OR BSD-3-Clause
-- One call of a run, and from these the history theorem.
pub mod Segments
use Rattle.std.proofs.Common.{arith, ◌≡◌, List, [], ◌∷◌, sym, subst, false, not, ◌++◌, refl, ap, ◌∙◌, Option, ◌↔◌, IsTrue}
use Rattle.std.proofs.lemmas.Bool.{cond_both}
use Rattle.vm_superio.specs.Serial.Run.{Call, Done, act_of, IsReplyTo, RecordsOf, op_of, is_restore, entry_of, response_of, entries_of, trace_of, without_restores, ReadIs, ReadsAre, Act, Reply, Byte, Wrote, Enqueued, TimedOut, Restored, NotRestored}
use Rattle.vm_superio.specs.Serial.Run.Steps.{IsCallStep, IsRun, by_steps}
use Rattle.vm_superio.specs.Serial.Run.Segments.{segments_of, SegmentsAre}
use Rattle.vm_superio.specs.Serial.Run.HistoryTheorem.{HistoryTheorem, by_history}
use Rattle.vm_superio.proofs.Lemmas.Serial.Run.Segments.{EntryFollows, EntryFollows-call, by_steps-met, by_history-met, SegmentsAre-run, TakesOutput-all}
use Rattle.vm_superio.specs.Links.{TriggerAnswer, answers_of, all_ok, RefusesOwnState}
use Rattle.vm_superio.specs.Links.Writer.{SerialLinks, WriterLink}
use Rattle.vm_superio.specs.Serial.{outcome_of, Asked, Sent, Op, TraceEntry, Response, State, Coherent, Event, SerialView, sent_by, step, step_events, step_response, answers_fit, conditions_due}
use Rattle.vm_superio.specs.Serial.Step.{IsSerialStep}
use Rattle.superio_laws.specs.Serial.History.{ResponsesAre, history_response, bytes_read, state_of_history, read_out_bytes, conditions_due_after, decode_at, output}
use Rattle.superio_laws.specs.Serial.Laws.{StepsFollow}
use Rattle.superio_laws.specs.Serial.Laws.Consequences.{op_and_asked, ops_and_asked}
use Rattle.vm_superio.proofs.Lemmas.{WriterLink-append, known_output_law}
use Rattle.superio_laws.proofs.Lemmas.Serial.Laws.StepsOfHistory.{whole_run_law, state_law, step_law, call_law}
use Rattle.superio_laws.proofs.Lemmas.Serial.Laws.Consequences.{trigger_bound_law, waiting_bytes_law}
use Rattle.superio_laws.proofs.Lemmas.Serial.Laws.{read_out_then_held}
use Rattle.superio_laws.proofs.Lemmas.Serial.Laws.Reads.{read_then_held, same_reads_law}
use Rattle.superio_laws.proofs.Lemmas.Serial.Laws.InterruptDriver.{timeouts_show_law}
use Rattle.vm_superio.specs.declared.run.Act.TheVariants as act
use Rattle.superio_core.specs.Serial.Operations as operation

-- a call that was made continues the run
pub IsRun-step :
    {T E EV W : Type 0} (links : SerialLinks T E EV W)
    (call : Call T EV W) (calls all_calls : List (Call T EV W)) (done : Done T EV W E)
    (later : List (Done T EV W E)) (old next end : SerialView T EV W) →
    all_calls ≡ call ∷ calls → done.act ≡ act_of call →
    IsCallStep links call done.asked done.sent done.reply old next →
    IsRun links next calls later end → IsRun links old all_calls (done ∷ later) end
IsRun-step links call calls all_calls done later old next end same act made rest =
    subst (λ calls. IsRun links old calls (done ∷ later) end) (sym same) (act, (next, made, rest))

-- ---- the entries of a run follow each other by steps, so the laws hold for them: the history theorem

-- only a restore counts as one
op_of-restore : (call : Act) → not (is_restore call) ≡ false → op_of call ≡ operation.Restore
op_of-restore call is = grind arith

module _ {T E EV W : Type 0} (links : SerialLinks T E EV W) where
  follows : (call : Call T EV W) (done : Done T EV W E) (old next : SerialView T EV W) → done.act ≡ act_of call
      → IsCallStep links call done.asked done.sent done.reply old next → EntryFollows links old.state done.act done.asked done.sent done.reply next.state
  follows call done old next act made =
      subst (λ act. EntryFollows links old.state act done.asked done.sent done.reply next.state) (sym act)
      (EntryFollows-call links call done.asked done.sent done.reply old next made)

  -- the records of a run follow each other by steps, one for each call
  steps_of_run :
      (calls : List (Call T EV W)) (records : List (Done T EV W E)) (old end : SerialView T EV W) → IsRun links old calls records end →
      StepsFollow old.state (entries_of records) end.state × RecordsOf calls records
  steps_of_run [] [] old end run = (ap (λ (port : SerialView T EV W). port.state) run, tt)
  steps_of_run (call ∷ calls) (done ∷ later) old end run =
      let next = run.1.0 in
      let one = follows call done old next run.0 run.1.1 in
      let rest = steps_of_run calls later next end run.1.2 in (
        (one.fits, one.response, subst (λ s. StepsFollow s (entries_of later) end.state) one.state rest.0),
        (run.0, (EntryFollows-call links call done.asked done.sent done.reply old next run.1.1).of, rest.1),
      )
  steps_of_run [] (done ∷ later) old end run = absurd run
  steps_of_run (call ∷ calls) [] old end run = absurd run

  -- ---- the bytes read

  -- the reply to a read is the byte of its response
  ReadIs-reply :
      (start : State) (trace : List TraceEntry) (made : Act) (asked : Asked) (sent : Sent) (reply : Reply T EV W E) →
      IsReplyTo made reply → response_of reply ≡ history_response start trace (op_of made) asked sent → ReadIs start trace made reply
  ReadIs-reply start trace made asked sent reply of is = grind arith

  ReadsAre-run :
      (start : State) (trace : List TraceEntry) (calls : List (Call T EV W)) (records : List (Done T EV W E)) →
      RecordsOf calls records → ResponsesAre start trace (entries_of records) → ReadsAre start trace records
  ReadsAre-run start trace calls [] of responses = tt
  ReadsAre-run start trace (call ∷ calls) (done ∷ later) of responses = (
    ReadIs-reply start trace done.act done.asked done.sent done.reply (subst (λ made. IsReplyTo made done.reply) (sym of.0) of.1) responses.0,
    ReadsAre-run start (entry_of done ∷ trace) calls later of.2 responses.1,
  )
  ReadsAre-run start trace [] (done ∷ later) of responses = absurd of

  -- ---- the same without restores

  -- at each point the same operations were before, with the same answers, and so it shows the same reads
  ReadIs-elsewhere :
      (start : State) (trace other : List TraceEntry) (made : Act) (reply : Reply T EV W E) → ops_and_asked trace ≡ ops_and_asked other →
      ReadIs start trace made reply → ReadIs start other made reply
  ReadIs-elsewhere start trace other (act.Read offset) reply same is = is ∙ ap Byte (same_reads_law start trace other same offset)
  ReadIs-elsewhere start trace other _ reply same is = tt

  ReadsAre-without_restores :
      (start : State) (trace other : List TraceEntry) (records : List (Done T EV W E)) → ops_and_asked trace ≡ ops_and_asked other →
      ReadsAre start trace records → ReadsAre start other (without_restores records)
  ReadsAre-without_restores start trace other [] same are = tt
  ReadsAre-without_restores start trace other (done ∷ later) same are =
      cond_both _ _ _ (ReadsAre start other)
      (λ kept. (
        ReadIs-elsewhere start trace other done.act done.reply same are.0,
        ReadsAre-without_restores start (entry_of done ∷ trace) (entry_of done ∷ other) later
            (ap (λ ops. op_and_asked (op_of done.act) done.asked ++ ops) same) are.1,
      ))
      (λ restores. ReadsAre-without_restores start (entry_of done ∷ trace) other later
      (ap (λ op. op_and_asked op done.asked ++ ops_and_asked trace) (op_of-restore done.act restores) ∙ same) are.1)

-- ---- the history theorem

pub HistoryTheorem-run :
    {T E EV W : Type 0} (links : SerialLinks T E EV W)
    (trigger_empty : (x y : T) → links.trigger x [] y ↔ (x ≡ y)) (events_empty : (x y : EV) → links.events x [] y ↔ (x ≡ y))
    (calls_joined : (x y z : T) (first second : List (TriggerAnswer E)) → links.trigger x first y → links.trigger y second z → links.trigger x (first ++ second) z)
    (events_joined : (x y z : EV) (first second : List Event) → links.events x first y → links.events y second z → links.events x (first ++ second) z)
    (start : SerialView T EV W) (calls : List (Call T EV W)) (records : List (Done T EV W E)) (end : SerialView T EV W) →
    IsRun links start calls records end → Coherent start.state → HistoryTheorem links start calls records end
HistoryTheorem-run links trigger_empty events_empty calls_joined events_joined start calls records end run coherent =
    let s = start.state in
    let trace = trace_of records in
    let steps = steps_of_run links calls records start end run in
    let agrees = whole_run_law s end.state (entries_of records) coherent steps.0 in
    let reads = ReadsAre-run links s [] calls records steps.1 agrees.responses in
    let objects = SegmentsAre-run links (by_history s) trigger_empty events_empty calls_joined events_joined (by_history-met s coherent) start calls records end (state_law s [] coherent) run in
    record {
      records_of_calls = steps.1;
      reads = reads;
      responses = agrees.responses;
      read_bytes = ap (λ (port : State). bytes_read s [] (entries_of records) ++ port.in_buffer) agrees.state ∙ read_then_held s (entries_of records) agrees.responses;
      received_bytes = ap (λ (port : State). read_out_bytes s trace ++ port.in_buffer) agrees.state ∙ read_out_then_held s trace;
      trigger_calls = agrees.fitting;
      bound = trigger_bound_law s trace agrees.fitting;
      waiting = waiting_bytes_law s trace;
      timeouts = timeouts_show_law s trace agrees.fitting;
      objects = objects;
      known_output = TakesOutput-all links s (segments_of (by_history s) start calls records end) objects.served;
      reads_alone = ReadsAre-without_restores links s [] [] records refl reads;
      end_state = agrees.state;
      end_coherent = agrees.coherent;
    }

-- ---- the segments by the steps, from any start

pub SegmentsAre-steps :
    {T E EV W : Type 0} (links : SerialLinks T E EV W)
    (trigger_empty : (x y : T) → links.trigger x [] y ↔ (x ≡ y)) (events_empty : (x y : EV) → links.events x [] y ↔ (x ≡ y))
    (calls_joined : (x y z : T) (first second : List (TriggerAnswer E)) → links.trigger x first y → links.trigger y second z → links.trigger x (first ++ second) z)
    (events_joined : (x y z : EV) (first second : List Event) → links.events x first y → links.events y second z → links.events x (first ++ second) z)
    (start : SerialView T EV W) (calls : List (Call T EV W)) (records : List (Done T EV W E)) (end : SerialView T EV W) →
    IsRun links start calls records end → SegmentsAre links (by_steps start.state) start calls records end
SegmentsAre-steps links trigger_empty events_empty calls_joined events_joined start calls records end run =
    SegmentsAre-run links (by_steps start.state) trigger_empty events_empty calls_joined events_joined (by_steps-met start.state) start calls records end refl run
