-- SPDX-License-Identifier: Apache-2.0 OR BSD-3-Clause
-- A line of the serial port leads from the trace before it to the one after it.
use Rattle.std.proofs.Common.{◌≡◌, ℕ, zero, suc, ◌+◌, ◌≤◌, Bool, true, false, List, [], ◌∷◌, ◌++◌, length, drop, fold, count_by, Option, Some, None, Result, refl, ap, sym, ◌∙◌, subst, arith, append_assoc, append-nil, length-append, inl, inr, ◌≢◌, IsTrue, if◌then◌else◌, ◌==◌, not, codes, ◌&&◌, is_some}
use Rattle.std.specs.Bool.{beq}
use Rattle.std.specs.List.{list_all}
use Rattle.std.proofs.lemmas.Bool.{and_parts, false≢true}
use Rattle.std.proofs.lemmas.Bool.Decides.{nat_tests}
use Rattle.std.proofs.lemmas.List.Sums.{sum_by-append}
use Rattle.std.specs.Cmp.Derive.{both_true}
use Rattle.superio_core.proofs.Lemmas.Serial.{fresh_coherent}
use Rattle.superio_laws.proofs.Lemmas.Serial.Laws.Interrupts.{coherent_after}
use Rattle.superio_laws.proofs.Lemmas.Serial.Laws.StepsOfHistory.{state_law, step_law, call_law}
use Rattle.vm_superio.specs.Serial.Step.{RefusesRestore, IsSerialStep}
use Rattle.superio_laws.specs.Serial.History.{none_lost, output, decode_at, held_bytes, dlab_after, state_of_history, history_events, calls_due, conditions_due_after, is_fitting, is_fitting_entry, trigger_calls}
use Rattle.superio_laws.specs.Serial.Laws.{CallAgrees, StepAgrees}
use Rattle.vm_superio.specs.Links.{Contents, answers_of, all_ok, StopsAtRefusal}
use Rattle.vm_superio.specs.Links.Writer.{SerialLinks, serial_links, WriterLink}
use Rattle.vm_superio.specs.Serial.{bytes_sent, outcome_of, SerialView, DecodedOp, failure_response, Asked, Sent, Op, Read, Write, Enqueue, Trace, TraceEntry, Response, Event, buffer_read, out_byte, tx_lost_byte, in_buffer_empty, is_sent, is_lost, answer_count, ends_in_refusal, sent_by, State, not_empty, fresh_state, has_bits, only_bits, Coherent, Condition, is_dlab, pending_in_order, answers_all, answers_fit, step_events, step_calls, sends_byte, conditions_due}
use Rattle.vm_superio.proofs.Lemmas.{known_output_law}
use Rattle.vm_superio.specs.declared.serial.errors.Error.{Error}
use Rattle.vm_superio.specs.declared.serial.errors.Error.TheVariants.{Trigger, IOError, FullFifo, Memory}
use Rattle.vm_superio.specs.Links.ForAnyObject.{FoldsCalls}
use Rattle.board_objects.specs.Objects.{fresh_interrupt_line, InterruptLineLink, is_call_refused, saturated, no_counts, counts_after_event, written_bytes}
use Rattle.board_objects.specs.declared.Line.{Line}
use Rattle.board_objects.specs.declared.Counts.{Counts}
use Rattle.board_objects.specs.declared.Output.{Output}
use Rattle.board_objects.specs.declared.LineRefused.{LineRefused}
use Rattle.superio_script.specs.Reply.{with_lf, digits_reply}
use Rattle.superio_script.specs.SerialScript.{SerialCommand, response_reply, calls_of_entry, calls_made, interrupt_line_after, events_reported, is_event, counts_of, Outcome, Out, Lost, out_before_loss, outcome_of_sent, outcomes_of, next_outcome, next_printed, trigger_answers, sends, sent_with, call_entry, entry_reply, rbr_read_entry, after_rbr_reads, drained_bytes, restore_entry, is_restore_refused, serial_reply, trace_after_line, line_sends, prints_after_loss, serial_replies, shown, IsAfter, SerialLineStep, IsSerialLineStep}
use Rattle.superio_script.specs.Driver.{ReadsWhileReady, TakesAll}
use Rattle.superio_script.specs.declared.serial_lines.SerialCommand.TheVariants as line

-- ---- the interrupt line

saturated-refused : (mask number : ℕ) → is_call_refused mask (saturated number) ≡ is_call_refused mask number
saturated-refused mask number = grind (arith, nat_tests)

saturated-next : (number : ℕ) → saturated (saturated number + 1) ≡ saturated (number + 1)
saturated-next number = omega arith

-- the answers that link an interrupt line are those that its mask gives
answers-from_link :
    (mask number : ℕ) (new : Line) (calls : ℕ) (asked : Asked) (refusal : Option LineRefused) →
    IsTrue (answers_all calls asked) → is_some refusal ≡ ends_in_refusal asked →
    InterruptLineLink (interrupt_line_after mask number) (answers_of asked refusal) new →
    (asked ≡ trigger_answers mask number calls) × (new ≡ interrupt_line_after mask (number + answer_count asked))
answers-from_link mask number new calls asked refusal fits some link = grind (arith, nat_tests, saturated-refused, saturated-next)

-- ---- the events

count-one : (name event : Event) (events : List Event)
    → saturated (count_by (is_event name) (events ++ event ∷ [])) ≡ (if is_event name event then saturated (saturated (count_by (is_event name) events) + 1) else saturated (count_by (is_event name) events))
count-one name event events = grind (arith, sum_by-append (λ event. if is_event name event then 1 else 0) events (event ∷ []), saturated-next)

counts_of-one : (events : List Event) (event : Event) → counts_after_event (counts_of events) event ≡ counts_of (events ++ event ∷ [])
counts_of-one events event = grind (arith, count-one buffer_read event events, count-one out_byte event events, count-one tx_lost_byte event events, count-one in_buffer_empty event events)

pub counts_of-append : (first second : List Event) → fold counts_after_event (counts_of first) second ≡ counts_of (first ++ second)
counts_of-append first [] = ap counts_of (sym (append-nil first))
counts_of-append first (event ∷ second) =
    ap (λ counts. fold counts_after_event counts second) (counts_of-one first event)
    ∙ counts_of-append (first ++ event ∷ []) second ∙ ap counts_of (append_assoc first (event ∷ []) second)

-- ---- the outcomes

abbrev all_out : (outcomes : List Outcome) → Bool
all_out [] = true
all_out (Out ∷ outcomes) = all_out outcomes
all_out (Lost ∷ outcomes) = false

out_before_loss-append : (first second : List Outcome)
    → out_before_loss (first ++ second) ≡ (if all_out first then length first + out_before_loss second else out_before_loss first)
out_before_loss-append [] second = grind arith
out_before_loss-append (Out ∷ first) second = grind (arith, out_before_loss-append first second)
out_before_loss-append (Lost ∷ first) second = refl

all_out-append : (first second : List Outcome) → all_out (first ++ second) ≡ (all_out first && all_out second)
all_out-append [] second = refl
all_out-append (Out ∷ first) second = all_out-append first second
all_out-append (Lost ∷ first) second = refl

-- no byte was lost exactly if all outcomes are outcomes of bytes that went out
all_out-none_lost : (trace : Trace) → all_out (outcomes_of trace) ≡ none_lost trace
all_out-none_lost [] = refl
all_out-none_lost (entry ∷ trace) =
    all_out-append (outcomes_of trace) (outcome_of_sent entry.sent) ∙ grind (arith, all_out-none_lost trace)

out_before_loss-all : (outcomes : List Outcome) → IsTrue (all_out outcomes) → out_before_loss outcomes ≡ length outcomes
out_before_loss-all [] out = refl
out_before_loss-all (Out ∷ outcomes) out = grind (arith, out_before_loss-all outcomes out)
out_before_loss-all (Lost ∷ outcomes) out = absurd (false≢true out)

one-outcome : (sent : Sent) (kind : DecodedOp) → IsTrue (beq (is_sent sent) (not_empty (sent_by kind))) → length (outcome_of_sent sent) ≡ length (sent_by kind)
one-outcome sent kind fits = grind arith

-- in a fitting trace each outcome belongs to a byte of the output
length-outcomes_of : (trace : Trace) → IsTrue (is_fitting fresh_state trace) → length (outcomes_of trace) ≡ length (output fresh_state [] trace)
length-outcomes_of [] fits = refl
length-outcomes_of (entry ∷ trace) fits =
    let (one, earlier) = and_parts (is_fitting_entry fresh_state trace entry) (is_fitting fresh_state trace) fits in
    let (asked, sent) = and_parts (answer_count entry.asked == trigger_calls fresh_state trace entry) (beq (is_sent entry.sent) (sends trace entry.op)) one in
    let here = subst (λ (before : Trace). IsTrue (beq (is_sent entry.sent) (sends before entry.op))) (sym (append-nil trace)) sent in
    length-append (outcomes_of trace) (outcome_of_sent entry.sent)
    ∙ ap (λ n. n + length (outcome_of_sent entry.sent)) (length-outcomes_of trace earlier)
    ∙ ap (λ n. length (output fresh_state [] trace) + n) (one-outcome entry.sent (decode_at fresh_state (trace ++ []) entry.op) here)
    ∙ sym (length-append (output fresh_state [] trace) (sent_by (decode_at fresh_state (trace ++ []) entry.op)))

loss-adds_nothing : (outcomes : List Outcome) (sent : Sent) → (all_out outcomes && all_out (outcome_of_sent sent)) ≡ false
    → out_before_loss outcomes ≤ 256 → out_before_loss (outcomes ++ outcome_of_sent sent) ≤ 256
loss-adds_nothing outcomes sent lost few =
    grind (arith, out_before_loss-append outcomes (outcome_of_sent sent), out_before_loss-all outcomes)

-- while no byte is lost, the output has all of them, and it holds at most 256
within_room-after :
    (trace : Trace) (entry : TraceEntry) (written : List ℕ) →
    IsTrue (is_fitting fresh_state (entry ∷ trace)) → out_before_loss (outcomes_of trace) ≤ 256 →
    (IsTrue (none_lost (entry ∷ trace)) → written ≡ output fresh_state [] (entry ∷ trace)) → length written ≤ 256 →
    out_before_loss (outcomes_of (entry ∷ trace)) ≤ 256
within_room-after trace entry written fits before known few = by_loss (none_lost (entry ∷ trace)) refl
  where
    by_loss : (kept : Bool) → none_lost (entry ∷ trace) ≡ kept → out_before_loss (outcomes_of (entry ∷ trace)) ≤ 256
    by_loss true kept = omega (
      arith,
      few,
      out_before_loss-all (outcomes_of (entry ∷ trace)) (all_out-none_lost (entry ∷ trace) ∙ kept),
      length-outcomes_of (entry ∷ trace) fits,
      ap length (known kept),
    )
    by_loss false lost = loss-adds_nothing (outcomes_of trace) entry.sent
        (sym (all_out-append (outcomes_of trace) (outcome_of_sent entry.sent)) ∙ all_out-none_lost (entry ∷ trace) ∙ lost) before

-- a fresh port is after no call
pub at-start :
    (mask : ℕ) (port : SerialView Line Counts Output) →
    port.state ≡ fresh_state → port.trigger ≡ fresh_interrupt_line mask → port.events ≡ no_counts → written_bytes port.out ≡ [] → IsAfter mask [] port
unfolding has_bits only_bits
at-start mask port state line counts output = record {
  state = state;
  interrupt_line = line;
  counts = counts;
  output = λ _. output;
  fitting = refl;
  within_room = omega arith;
}

-- ---- a call

-- the output is what the writer holds, if the writer is linked by the byte's outcome
abbrev output_link : Contents Output
output_link = λ output. Some (written_bytes output)

none-lost_here : (sent : Sent) → IsTrue (not (is_lost sent)) → IsTrue (list_all (λ sent. not (is_lost sent)) (outcome_of sent))
none-lost_here sent kept = grind arith

output-after_call :
    (sent : Sent) (accepted bytes before : List ℕ) (old new : Output) →
    WriterLink output_link (outcome_of sent) accepted old new → IsTrue (not (is_lost sent)) → accepted ≡ bytes →
    written_bytes old ≡ before → written_bytes new ≡ before ++ bytes
output-after_call sent accepted bytes before old new link kept same was =
    known_output_law output_link old new (outcome_of sent) accepted link (none-lost_here sent kept)
    ∙ ap (λ held. held ++ accepted) was ∙ ap (λ more. before ++ more) same

-- the links of the board's objects
abbrev pub board_links : SerialLinks Line LineRefused Counts Output
board_links = serial_links InterruptLineLink (FoldsCalls counts_after_event) output_link

outcome_in : (sent : Sent) → Outcome
outcome_in Sent.Lost = Lost
outcome_in _ = Out

sent-is : (sent : Sent) (sends : Bool) → IsTrue (beq (is_sent sent) sends) → sent ≡ sent_with sends (outcome_in sent)
unfolding outcome_in
sent-is sent sends fits = grind arith

module _ {op : Op} {asked : Asked} {sent : Sent} {response : Response} {refusal : Option LineRefused} {old new : SerialView Line Counts Output}
    (made : IsSerialStep board_links op asked sent response refusal old new) (mask : ℕ) (trace : Trace) (at : IsAfter mask trace old)
    (counted : calls_of_entry trace op asked ≡ answer_count asked) where
  abbrev made_entry : TraceEntry
  made_entry = record { op = op; asked = asked; sent = sent }

  abbrev now : State
  now = state_of_history fresh_state trace

  was-fits : IsTrue (answers_fit now op asked sent)
  was-fits = subst (λ s. IsTrue (answers_fit s op asked sent)) at.state made.fits

  agreed : CallAgrees fresh_state trace made_entry response new.state
  agreed = call_law fresh_state trace made_entry response old.state new.state fresh_coherent at.state made.fits made.response made.state

  stepped : StepAgrees fresh_state trace made_entry
  stepped = (step_law fresh_state trace fresh_coherent).steps made_entry was-fits

  parts : IsTrue (answers_all (step_calls now op) asked) × IsTrue (beq (is_sent sent) (sends trace op))
  parts = and_parts (answers_all (step_calls now op) asked) (beq (is_sent sent) (sends_byte now op)) was-fits

  answered : (asked ≡ trigger_answers mask (calls_made trace) (calls_due fresh_state trace op))
      × (new.trigger ≡ interrupt_line_after mask (calls_made trace + answer_count asked))
  answered =
      answers-from_link mask (calls_made trace) new.trigger (calls_due fresh_state trace op) asked refusal
      (subst (λ due. IsTrue (answers_all due asked)) ((step_law fresh_state trace fresh_coherent).calls op) parts.0)
      made.refused
      (subst (λ line. InterruptLineLink line (answers_of asked refusal) new.trigger) at.interrupt_line made.trigger)

  counts-after : new.events ≡ counts_of (events_reported (made_entry ∷ trace))
  counts-after =
      made.events.folds
      ∙ ap (λ counts. fold counts_after_event counts (step_events old.state op sent)) at.counts
      ∙ ap (λ s. fold counts_after_event (counts_of (events_reported trace)) (step_events s op sent)) at.state
      ∙ ap (fold counts_after_event (counts_of (events_reported trace))) stepped.events
      ∙ counts_of-append (events_reported trace) (history_events fresh_state trace made_entry)

  output-after : IsTrue (none_lost (made_entry ∷ trace)) → written_bytes new.out ≡ output fresh_state [] (made_entry ∷ trace)
  output-after kept =
      let (here, earlier) = and_parts (not (is_lost sent)) (none_lost trace) kept in
      output-after_call sent (bytes_sent op sent) (sent_by (decode_at fresh_state (trace ++ []) op)) (output fresh_state [] trace) old.out new.out
      made.out here
      (stepped.output ∙ ap (λ (before : Trace). sent_by (decode_at fresh_state before op)) (sym (append-nil trace)))
      (at.output earlier)

  fitting : IsTrue (is_fitting fresh_state (made_entry ∷ trace))
  fitting = both_true agreed.fitting at.fitting

  pub call-after : IsAfter mask (made_entry ∷ trace) new
  call-after = record {
    state = agreed.state;
    interrupt_line = answered.1 ∙ ap (λ more. interrupt_line_after mask (calls_made trace + more)) (sym counted);
    counts = counts-after;
    output = output-after;
    fitting = fitting;
    within_room = within_room-after trace made_entry (written_bytes new.out) fitting at.within_room output-after new.out.few;
  }

  -- the entry is the one that the trace gives, with some outcome
  entry-is : made_entry ≡ call_entry mask trace (outcome_in sent) op
  entry-is = λ i. record { op = op; asked = answered.0 i; sent = sent-is sent (sends trace op) parts.1 i }

  -- a line that makes this call
  pub call-step : (line : SerialCommand)
      → ((outcome : Outcome) → serial_reply mask trace outcome [] line ≡ entry_reply trace (call_entry mask trace outcome op))
      → ((outcome : Outcome) → trace_after_line mask trace outcome line ≡ call_entry mask trace outcome op ∷ trace)
      → SerialLineStep mask trace line (response_reply response) new
  call-step line replies leads = record {
    outcome = outcome_in sent;
    printed = [];
    short = omega arith;
    replied = ap response_reply agreed.response ∙ ap (entry_reply trace) entry-is ∙ sym (replies (outcome_in sent));
    after = rw (leads, ← entry-is) call-after;
  }

-- a line that sends no byte, and prints nothing that is left open
module _ {mask : ℕ} {trace : Trace} {line : SerialCommand} {reply : List ℕ} {new : SerialView Line Counts Output} where
  without_choice : reply ≡ serial_reply mask trace Lost [] line → IsAfter mask (trace_after_line mask trace Lost line) new → SerialLineStep mask trace line reply new
  without_choice replied after = record { outcome = Lost; printed = []; short = omega arith; replied = replied; after = after }

-- ---- a drain

-- the reads of a driver, each of which is a call
reads-after : (bytes : List ℕ) (old new : SerialView Line Counts Output) (mask : ℕ) (trace : Trace) → IsAfter mask trace old
    → ReadsWhileReady InterruptLineLink (FoldsCalls counts_after_event) output_link bytes old new
    → IsAfter mask (after_rbr_reads (length bytes) trace) new
reads-after [] old new mask trace at same = subst (IsAfter mask trace) (sym same) at
reads-after (byte ∷ bytes) old new mask trace at (ready, (middle, made, later)) =
    reads-after bytes middle new mask (rbr_read_entry ∷ trace) (call-after made mask trace at refl) later

drained-are : (latch : Bool) (bytes held : List ℕ) → (latch ≡ true → bytes ≡ []) → (latch ≡ false → bytes ≡ held)
    → bytes ≡ (if latch then [] else held)
drained-are latch bytes held set clear = grind arith

pub drain-step :
    (bytes : List ℕ) (old new : SerialView Line Counts Output)
    → ReadsWhileReady InterruptLineLink (FoldsCalls counts_after_event) output_link bytes old new
    → (IsTrue (is_dlab old.state.line_control) → bytes ≡ [])
    → (Coherent old.state → is_dlab old.state.line_control ≡ false → TakesAll (FoldsCalls counts_after_event) bytes old new)
    → IsSerialLineStep line.Drain (digits_reply bytes) old new
drain-step bytes old new reads latch all mask trace at =
    let latched = ap (λ (s : State). is_dlab s.line_control) at.state in
    let coherent = subst Coherent (state_law fresh_state trace fresh_coherent ∙ sym at.state) (coherent_after fresh_state trace fresh_coherent) in
    let taken : bytes ≡ drained_bytes trace =
    drained-are (dlab_after fresh_state trace) bytes (held_bytes fresh_state trace) (λ set. latch (latched ∙ set))
    (λ clear. (all coherent (latched ∙ clear)).bytes ∙ ap (λ (s : State). s.in_buffer) at.state) in
    without_choice
    (ap digits_reply taken)
    (subst (λ (bytes : List ℕ). IsAfter mask (after_rbr_reads (length bytes) trace) new) taken
    (reads-after bytes old new mask trace at reads))

-- ---- the lines that change nothing

-- a line that shows the port's state, its interrupt line or its counts
pub shown-step :
    (line : SerialCommand) (port : SerialView Line Counts Output) (reply : List ℕ) →
    ((mask : ℕ) (trace : Trace) → serial_reply mask trace Lost [] line ≡ shown line (state_of_history fresh_state trace) (interrupt_line_after mask (calls_made trace)) (counts_of (events_reported trace))) →
    ((mask : ℕ) (trace : Trace) → trace_after_line mask trace Lost line ≡ trace) →
    reply ≡ shown line port.state port.trigger port.events →
    IsSerialLineStep line reply port port
shown-step line port reply replies same is mask trace at = without_choice
    (is ∙ ap (λ (s : State). shown line s port.trigger port.events) at.state
    ∙ ap (λ (l : Line). shown line (state_of_history fresh_state trace) l port.events) at.interrupt_line
    ∙ ap (λ (counts : Counts). shown line (state_of_history fresh_state trace) (interrupt_line_after mask (calls_made trace)) counts) at.counts
    ∙ sym (replies mask trace))
    (subst (λ (after : Trace). IsAfter mask after port) (sym (same mask trace)) at)

pub output-step :
    (port : SerialView Line Counts Output) (reply : List ℕ) → reply ≡ digits_reply (written_bytes port.out) → IsSerialLineStep line.Output reply port port
output-step port reply is mask trace at = record {
  outcome = Lost;
  printed = written_bytes port.out;
  short = port.out.few;
  replied = is ∙ ap digits_reply (is-printed (none_lost trace) (written_bytes port.out) (output fresh_state [] trace) at.output);
  after = at;
}
  where
    is-printed : (kept : Bool) (bytes known : List ℕ) → (IsTrue kept → bytes ≡ known) → bytes ≡ (if kept then known else bytes)
    is-printed kept bytes known was = grind arith

pub ruleset unchanged_lines = (shown-step, output-step)

-- ---- a restore

-- how the calls that are due were answered, and whether that ends in a refusal
abbrev AreAnswered : (due : List Condition) (refusal : Option LineRefused) (responses : List (Result (Unit {0}) LineRefused)) (refused : Bool) → Type 0
AreAnswered due refusal responses refused =
    (asked : Asked) × IsTrue (answers_all (length due) asked) × (is_some refusal ≡ ends_in_refusal asked)
    × (responses ≡ answers_of asked refusal) × (ends_in_refusal asked ≡ refused)

accepted-answers : (thre rda : Bool) → AreAnswered (pending_in_order thre rda) None (all_ok (pending_in_order thre rda)) false
accepted-answers false false = (Asked.Nothing, refl, refl, refl, refl)
accepted-answers true false = (Asked.Took, refl, refl, refl, refl)
accepted-answers false true = (Asked.Took, refl, refl, refl, refl)
accepted-answers true true = (Asked.TookTook, refl, refl, refl, refl)

refused-answers : (refusal : LineRefused) (due : List Condition) (responses : List (Result (Unit {0}) LineRefused)) → length due ≤ 2 →
    StopsAtRefusal due refusal responses → AreAnswered due (Some refusal) responses true
refused-answers refusal [] responses few stops = absurd stops
refused-answers refusal (first ∷ due) [] few stops = absurd stops
refused-answers refusal (first ∷ []) (response ∷ responses) few (inl (is, ended)) = (Asked.Refused, refl, refl, cc, refl)
refused-answers refusal (first ∷ []) (response ∷ responses) few (inr (is, ended)) = absurd ended
refused-answers refusal (first ∷ second ∷ []) (response ∷ responses) few (inl (is, ended)) = (Asked.Refused, refl, refl, cc, refl)
refused-answers refusal (first ∷ second ∷ []) (response ∷ []) few (inr (is, ended)) = absurd ended
refused-answers refusal (first ∷ second ∷ []) (response ∷ next ∷ responses) few (inr (is, inl (refused, ended))) = (Asked.TookRefused, refl, refl, cc, refl)
refused-answers refusal (first ∷ second ∷ []) (response ∷ next ∷ responses) few (inr (is, inr (accepted, ended))) = absurd ended
refused-answers refusal (first ∷ second ∷ third ∷ due) responses few stops = absurd (omega (arith, few))

few-pending : (thre rda : Bool) → length (pending_in_order thre rda) ≤ 2
few-pending thre rda = grind arith

-- if none is refused, all are answered
all-answered : (calls : ℕ) (asked : Asked) → IsTrue (answers_all calls asked) → ends_in_refusal asked ≡ false → answer_count asked ≡ calls
all-answered calls asked fits none = grind (arith, nat_tests)

-- whether the restore is refused, and the interrupt line after its calls
module _ (mask : ℕ) (trace : Trace) where
  restore-answered : (after : Line) (refusal : Option LineRefused) (responses : List (Result (Unit {0}) LineRefused)) (refused : Bool) →
      AreAnswered (conditions_due_after fresh_state trace) refusal responses refused → InterruptLineLink (interrupt_line_after mask (calls_made trace)) responses after →
      (is_restore_refused mask trace ≡ refused)
      × (refused ≡ false → after ≡ interrupt_line_after mask (calls_made (restore_entry ∷ trace)))
  restore-answered after refusal responses refused (asked, all, some, are, ends) link =
      let due = length (conditions_due_after fresh_state trace) in
      let answered = answers-from_link mask (calls_made trace) after due asked refusal all some
      (subst (λ responses. InterruptLineLink (interrupt_line_after mask (calls_made trace)) responses after) are link) in (
        sym (ap ends_in_refusal answered.0) ∙ ends,
        λ none. answered.1 ∙ ap (λ more. interrupt_line_after mask (calls_made trace + more)) (all-answered due asked all (ends ∙ none)),
      )

  -- the port after an accepted restore
  restored-after : (old new : SerialView Line Counts Output) → IsAfter mask trace old → new.state ≡ old.state →
      new.trigger ≡ interrupt_line_after mask (calls_made (restore_entry ∷ trace)) → new.events ≡ old.events → new.out ≡ old.out →
      IsAfter mask (restore_entry ∷ trace) new
  restored-after old new at state line events out = record {
    state = state ∙ at.state ∙ ((step_law fresh_state trace fresh_coherent).steps restore_entry refl).state;
    interrupt_line = line;
    counts = events ∙ at.counts ∙ ap counts_of (sym (append-nil (events_reported trace)));
    output = λ kept. ap written_bytes out ∙ at.output kept ∙ sym (append-nil (output fresh_state [] trace));
    fitting = both_true refl at.fitting;
    within_room = subst (λ outcomes. out_before_loss outcomes ≤ 256) (sym (append-nil (outcomes_of trace))) at.within_room;
  }

-- a restore whose calls were accepted
pub restore-accepts : (old new : SerialView Line Counts Output) →
    new.state ≡ old.state → InterruptLineLink old.trigger (all_ok (conditions_due old.state)) new.trigger → new.events ≡ old.events → new.out ≡ old.out →
    IsSerialLineStep line.Restore (with_lf (codes "ok")) old new
restore-accepts old new state link events out mask trace at =
    let due = ap conditions_due at.state ∙ (step_law fresh_state trace fresh_coherent).restoring in
    let (accepted, after) = restore-answered mask trace new.trigger None (all_ok (conditions_due_after fresh_state trace)) false (accepted-answers _ _)
    (subst (λ line. InterruptLineLink line (all_ok (conditions_due_after fresh_state trace)) new.trigger) at.interrupt_line
    (subst (λ due. InterruptLineLink old.trigger (all_ok due) new.trigger) due link)) in
    without_choice
    (ap (λ refused. with_lf (if refused then codes "trigger" else codes "ok")) (sym accepted))
    (subst (λ (refused : Bool). IsAfter mask (if refused then trace else restore_entry ∷ trace) new) (sym accepted)
    (restored-after mask trace old new at state (after refl) events out))

-- a restore that had a call refused
pub restore-refuses : (old : SerialView Line Counts Output) (state : State) (after : Line) (error : Error LineRefused) →
    state ≡ old.state → length old.state.in_buffer ≤ 64 → RefusesRestore InterruptLineLink state error old.trigger after → error ≢ Memory →
    IsSerialLineStep line.Restore (response_reply (failure_response error)) old old
restore-refuses old state after FullFifo is few refuses other mask trace at =
    absurd (omega (arith, few, refuses.0, ap (λ (s : State). length s.in_buffer) is))
restore-refuses old state after (IOError fault) is few refuses other mask trace at = absurd refuses.1
restore-refuses old state after Memory is few refuses other mask trace at = absurd (other refl)
restore-refuses old state after (Trigger refusal) is few (none_more, (responses, stops, link)) other mask trace at =
    let due = ap conditions_due (is ∙ at.state) ∙ (step_law fresh_state trace fresh_coherent).restoring in
    let (refused, line) = restore-answered mask trace after (Some refusal) responses true
    (refused-answers refusal (conditions_due_after fresh_state trace) responses (few-pending _ _)
    (subst (λ due. StopsAtRefusal due refusal responses) due stops))
    (subst (λ line. InterruptLineLink line responses after) at.interrupt_line link) in
    without_choice
    (ap (λ refused. with_lf (if refused then codes "trigger" else codes "ok")) (sym refused))
    (subst (λ (refused : Bool). IsAfter mask (if refused then trace else restore_entry ∷ trace) old) (sym refused) at)

-- ---- a line, and those that follow it

-- the outcome that a line takes from the list, and the bytes that it prints after a loss
abbrev pub outcomes_taken : (trace : Trace) (line : SerialCommand) (outcome : Outcome) → List Outcome
outcomes_taken trace line outcome = if line_sends trace line then outcome ∷ [] else []

abbrev pub printed_taken : (trace : Trace) (line : SerialCommand) (bytes : List ℕ) → List (List ℕ)
printed_taken trace line bytes = if prints_after_loss trace line then bytes ∷ [] else []

module _ (mask : ℕ) (trace : Trace) (outcome : Outcome) (bytes : List ℕ) (lines : List SerialCommand) (outcomes : List Outcome) (printed : List (List ℕ)) where
  -- a call, whether it sends a byte or not
  call-first : (sends : Bool) (reply : Sent → List ℕ) (next : Sent → Trace) →
      let taken = (if sends then outcome ∷ [] else []) ++ outcomes in
      let sent = sent_with sends (next_outcome taken) in
      (reply sent ∷ serial_replies mask (next sent) lines (if sends then drop 1 taken else taken) printed)
      ≡ (reply (sent_with sends outcome) ∷ serial_replies mask (next (sent_with sends outcome)) lines outcomes printed)
  call-first true reply next = refl
  call-first false reply next = refl

  -- an `so`, whether a byte was lost or not
  output-first : (kept : Bool) (known : List ℕ) →
      let taken = (if not kept then bytes ∷ [] else []) ++ printed in
      (digits_reply (if kept then known else next_printed taken) ∷ serial_replies mask trace lines outcomes (if not kept then drop 1 taken else taken))
      ≡ (digits_reply (if kept then known else bytes) ∷ serial_replies mask trace lines outcomes printed)
  output-first true known = refl
  output-first false known = refl

  entry_with : (op : Op) (sent : Sent) → TraceEntry
  entry_with op sent = record { op = op; asked = trigger_answers mask (calls_made trace) (calls_due fresh_state trace op); sent = sent }

  call-replies : (op : Op) →
      let taken = (if sends trace op then outcome ∷ [] else []) ++ outcomes in
      let entry = call_entry mask trace (next_outcome taken) op in
      (entry_reply trace entry ∷ serial_replies mask (entry ∷ trace) lines (if sends trace op then drop 1 taken else taken) printed)
      ≡ (entry_reply trace (call_entry mask trace outcome op) ∷ serial_replies mask (call_entry mask trace outcome op ∷ trace) lines outcomes printed)
  unfolding entry_with
  call-replies op = call-first (sends trace op) (λ sent. entry_reply trace (entry_with op sent)) (λ sent. entry_with op sent ∷ trace)

  pub first-replies : (first : SerialCommand) →
      serial_replies mask trace (first ∷ lines) (outcomes_taken trace first outcome ++ outcomes) (printed_taken trace first bytes ++ printed)
      ≡ serial_reply mask trace outcome bytes first ∷ serial_replies mask (trace_after_line mask trace outcome first) lines outcomes printed
  first-replies (line.Read offset) = call-replies (Read offset)
  first-replies (line.Write offset value) = call-replies (Write offset value)
  first-replies (line.Enqueue bytes) = call-replies (Enqueue bytes)
  first-replies line.Output = output-first (none_lost trace) (output fresh_state [] trace)
  first-replies _ = refl

-- the outcomes of the trace after a line are those before it, and the one that it takes
outcome-of_sent : (sends : Bool) (outcome : Outcome) → outcome_of_sent (sent_with sends outcome) ≡ (if sends then outcome ∷ [] else [])
outcome-of_sent sends outcome = grind arith

reads-no_outcome : (count : ℕ) (trace : Trace) → outcomes_of (after_rbr_reads count trace) ≡ outcomes_of trace
reads-no_outcome zero trace = refl
reads-no_outcome (suc count) trace = reads-no_outcome count (rbr_read_entry ∷ trace) ∙ append-nil (outcomes_of trace)

restore-no_outcome : (refused : Bool) (trace : Trace) → outcomes_of (if refused then trace else restore_entry ∷ trace) ≡ outcomes_of trace
restore-no_outcome true trace = refl
restore-no_outcome false trace = append-nil (outcomes_of trace)

pub outcomes-after_line : (mask : ℕ) (trace : Trace) (outcome : Outcome) (first : SerialCommand) →
    outcomes_of (trace_after_line mask trace outcome first) ≡ outcomes_of trace ++ outcomes_taken trace first outcome
outcomes-after_line mask trace outcome (line.Read offset) = ap (λ more. outcomes_of trace ++ more) (outcome-of_sent (sends trace (Read offset)) outcome)
outcomes-after_line mask trace outcome (line.Write offset value) = ap (λ more. outcomes_of trace ++ more) (outcome-of_sent (sends trace (Write offset value)) outcome)
outcomes-after_line mask trace outcome (line.Enqueue bytes) = ap (λ more. outcomes_of trace ++ more) (outcome-of_sent (sends trace (Enqueue bytes)) outcome)
outcomes-after_line mask trace outcome line.Drain = reads-no_outcome (length (drained_bytes trace)) trace ∙ sym (append-nil (outcomes_of trace))
outcomes-after_line mask trace outcome line.Restore = restore-no_outcome (is_restore_refused mask trace) trace ∙ sym (append-nil (outcomes_of trace))
outcomes-after_line mask trace outcome _ = sym (append-nil (outcomes_of trace))
