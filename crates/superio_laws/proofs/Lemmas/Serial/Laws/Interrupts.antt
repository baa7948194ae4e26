-- SPDX-License-Identifier: Apache-2.0 OR BSD-3-Clause
-- The interrupt law: IIR shows the pending conditions, and the step admits an entry's answers and outcome exactly if
-- the entry is fitting. Then the interrupt line: what a call does to its level, by the bits of IIR that the call turns.
use Rattle.std.proofs.Common.{arith, ◌≡◌, ℕ, ◌+◌, Bool, false, not, ◌==◌, ◌&&◌, ◌||◌, List, [], ◌∷◌, ap, sym, ◌∙◌, length, ◌⊎◌, if◌then◌else◌, IsTrue}
use Rattle.std.specs.Bool.{beq, IsFalse}
use Rattle.superio_laws.specs.Serial.{ier_bits, Asked, TraceEntry, is_refused_at_once, is_sent, count_if, answer_count, DecodedOp, RbrRead, sent_by, is_iir_read, State, not_empty, has_bits, Thre, Rda}
use Rattle.superio_laws.specs.Serial.{identification_of, pending_in_order, conditions_due, decoded_calls, answers_all, step_calls, answers_fit, Coherent, IerWrite, only_bits, becomes_pending, iir_after_raise, irq_level, decode_in, step}
use Rattle.superio_laws.specs.Serial.History.{iir_after, decode_at, held_bytes, raises_rda, acknowledges, is_pending, raises_thre, is_fitting_entry}
use Rattle.superio_laws.specs.Serial.Laws.{state_after, InterruptLaw}
use Rattle.superio_core.proofs.Lemmas.Serial.Step.{rda_bit, thre_bit, answers_counted, by_kind, next_by_kind, one_or_both, up_while_due}
use Rattle.superio_core.proofs.Lemmas.Serial.{enables_rda, enables_thre}
use Rattle.superio_core.proofs.Lemmas.Serial.Coherence.{pending_by_kind as pending_after, coherence_law}
use Rattle.superio_laws.proofs.Lemmas.Serial.Laws.OneCall.{bits}
use Rattle.superio_laws.proofs.Lemmas.Serial.Laws.{next_at_point, same_kind, register_law, held_bytes_law}
use Rattle.std.proofs.lemmas.Bool.{and_parts}
use Rattle.superio_laws.specs.Serial.Laws.Line.{is_called, line_after, EnablesPending, may_lower_line, is_asserted_at, LineAfterLaw, UpAfterCallLaw, GoesUpLaw, StaysUpLaw, LineOfHistoryLaw}

-- ---- one operation

-- a trigger call is due for RDA
abbrev rda_called : DecodedOp → List ℕ → ℕ → Bool → Bool
rda_called k held_bytes enable rda = raises_rda k held_bytes enable && not rda

-- the conditions that are pending afterwards
abbrev pub thre_next : DecodedOp → List ℕ → ℕ → Asked → Bool → Bool → Bool
thre_next k held_bytes enable asked thre rda =
    raises_thre k enable (rda_called k held_bytes enable rda && is_refused_at_once asked) ||
    (not (is_iir_read k) && thre)

abbrev pub rda_next : DecodedOp → List ℕ → ℕ → Bool → Bool
rda_next k held_bytes enable rda = raises_rda k held_bytes enable || (not (acknowledges Rda k) && rda)

-- from the IIR of two conditions to the IIR of the next two
pending_by_kind : (k : DecodedOp) (asked : Asked) (s : State) (thre rda : Bool)
    → s.interrupt_identification ≡ identification_of thre rda
    → (by_kind k asked s).interrupt_identification
    ≡ identification_of (thre_next k s.in_buffer s.interrupt_enable asked thre rda)
    (rda_next k s.in_buffer s.interrupt_enable rda)
pending_by_kind RbrRead asked s thre rda e = pending_after RbrRead asked s thre rda e
pending_by_kind k asked s thre rda e = pending_after k asked s thre rda e

-- a call is due for each condition that becomes pending, and the second of two only if the first is not refused
pub due_is : (k : DecodedOp) (s : State) (thre rda : Bool)
    → s.interrupt_identification ≡ identification_of thre rda
    → decoded_calls k s
    ≡ count_if (rda_called k s.in_buffer s.interrupt_enable rda)
    + count_if (raises_thre k s.interrupt_enable false && not thre)
due_is k s thre rda e = grind (arith, bits, rda_bit, thre_bit, enables_rda, enables_thre)

-- only an IER write may end before THRE
ends_early : (k : DecodedOp) (held_bytes : List ℕ) (enable : ℕ) (rda refused : Bool)
    → (raises_thre k enable false && not (rda_called k held_bytes enable rda && refused))
    ≡ raises_thre k enable (rda_called k held_bytes enable rda && refused)
ends_early k held_bytes enable rda refused = grind arith

and_swap : (a b c : Bool) → ((a && b) && c) ≡ ((a && c) && b)
and_swap a b c = grind arith

-- as many answers as the conditions that become pending
test_by_kind : (k : DecodedOp) (asked : Asked) (s : State) (thre rda : Bool)
    → s.interrupt_identification ≡ identification_of thre rda
    → let first = rda_called k s.in_buffer s.interrupt_enable rda in
    answers_all (decoded_calls k s) asked
    ≡ (answer_count asked == count_if first
    + count_if (raises_thre k s.interrupt_enable (first && is_refused_at_once asked) && not thre))
test_by_kind k asked s thre rda e =
    let first = rda_called k s.in_buffer s.interrupt_enable rda in
    let second = raises_thre k s.interrupt_enable false in
    ap (λ calls. answers_all calls asked) (due_is k s thre rda e)
    ∙ answers_counted first (second && not thre) asked
    ∙ ap (λ new. answer_count asked == count_if first + count_if new)
    (and_swap second (not thre) (not (first && is_refused_at_once asked))
    ∙ ap (λ raised. raised && not thre) (ends_early k s.in_buffer s.interrupt_enable rda (is_refused_at_once asked)))

-- ---- any trace

-- IIR shows what is pending
pending_law : (start : State) (trace : List TraceEntry) (thre rda : Bool)
    → start.interrupt_identification ≡ identification_of thre rda
    → (state_after start trace).interrupt_identification ≡ iir_after start trace
pending_law start [] thre rda e =
    e ∙ ap (λ bit. identification_of bit rda)
    (sym (thre_bit thre rda) ∙ ap (λ byte. has_bits byte 0x02) (sym e))
    ∙ ap (identification_of (has_bits start.interrupt_identification 0x02))
    (sym (rda_bit thre rda) ∙ ap (λ byte. has_bits byte 0x04) (sym e))
pending_law start (entry ∷ trace) thre rda e =
    let s = state_after start trace in
    let k = decode_at start trace entry.op in
    let registers = register_law start trace in
    let t = is_pending Thre start trace in
    let r = is_pending Rda start trace in
    let next_of =
    λ (bytes : List ℕ) (enable : ℕ). identification_of (thre_next k bytes enable entry.asked t r)
    (rda_next k bytes enable r) in
    (next_at_point start trace entry).interrupt_identification
    ∙ pending_by_kind k entry.asked s t r (pending_law start trace thre rda e)
    ∙ ap (λ bytes. next_of bytes s.interrupt_enable) (held_bytes_law start trace)
    ∙ ap (next_of (held_bytes start trace)) registers.interrupt_enable

-- the step admits the answers and the outcome of an entry exactly if the entry is fitting by the history
fitting_law : (start : State) (trace : List TraceEntry) (thre rda : Bool) (entry : TraceEntry)
    → start.interrupt_identification ≡ identification_of thre rda
    → answers_fit (state_after start trace) entry.op entry.asked entry.sent ≡ is_fitting_entry start trace entry
fitting_law start trace thre rda entry e =
    let s = state_after start trace in
    let k = decode_at start trace entry.op in
    let registers = register_law start trace in
    let same = same_kind start trace entry.op in
    let t = is_pending Thre start trace in
    let r = is_pending Rda start trace in
    let outcome_fits = beq (is_sent entry.sent) (not_empty (sent_by k)) in
    let calls_of = λ (bytes : List ℕ) (enable : ℕ).
    count_if (rda_called k bytes enable r)
    + count_if (raises_thre k enable (rda_called k bytes enable r && is_refused_at_once entry.asked) && not t) in
    ap (λ test. answers_all (step_calls s entry.op) entry.asked && test)
    (ap (λ (k : DecodedOp). beq (is_sent entry.sent) (not_empty (sent_by k))) same)
    ∙ ap (λ calls. answers_all calls entry.asked && outcome_fits) (ap (λ (k : DecodedOp). decoded_calls k s) same)
    ∙ ap (λ test. test && outcome_fits)
    (test_by_kind k entry.asked s t r (pending_law start trace thre rda e)
    ∙ ap (λ bytes. answer_count entry.asked == calls_of bytes s.interrupt_enable) (held_bytes_law start trace)
    ∙ ap (λ enable. answer_count entry.asked == calls_of (held_bytes start trace) enable) registers.interrupt_enable)

-- a restore calls the trigger for what is pending and enabled
restoring_by : (s : State) (enable : ℕ) (thre rda : Bool) → s.interrupt_identification ≡ identification_of thre rda
    → s.interrupt_enable ≡ enable
    → conditions_due s ≡ pending_in_order (thre && has_bits enable 0x02) (rda && has_bits enable 0x01)
restoring_by s enable thre rda pending enabled = grind (arith, rda_bit, thre_bit)

pub interrupt_law : InterruptLaw
interrupt_law start trace thre rda e = record {
  pending = pending_law start trace thre rda e;
  calls = λ entry. fitting_law start trace thre rda entry e;
  restoring =
      restoring_by (state_after start trace) _ (is_pending Thre start trace) (is_pending Rda start trace)
      (pending_law start trace thre rda e) (register_law start trace).interrupt_enable;
}

-- ---- a run keeps a coherent state coherent

pub coherent_after : (start : State) (trace : List TraceEntry) → Coherent start → Coherent (state_after start trace)
coherent_after start [] coherent = coherent
coherent_after start (entry ∷ trace) coherent =
    coherence_law (state_after start trace) entry.op entry.asked (coherent_after start trace coherent)

-- ---- the interrupt line

-- ---- one call

-- the line if IIR and IER are these
abbrev line : (enable identification : ℕ) → Bool
line enable identification =
    (has_bits identification 0x02 && has_bits enable 0x02) || (has_bits identification 0x04 && has_bits enable 0x01)

-- an IER write, first for RDA, and then for THRE, unless the trigger refused
after_ier_write : (held refused called : Bool) (enable old : ℕ)
    → called ≡ ((held && becomes_pending Rda enable old)
    || (becomes_pending Thre enable (if held then iir_after_raise Rda enable old else old) && not refused))
    → let first = if held then iir_after_raise Rda enable old else old in
    line enable (if refused then first else iir_after_raise Thre enable first) ≡ (called || line enable old)
after_ier_write held refused called enable old is = grind (arith, bits)

called_if : (first second : Bool) (asked : Asked) → IsTrue (answers_all (count_if first + count_if second) asked)
    → is_called asked ≡ (first || (second && not (first && is_refused_at_once asked)))
called_if first second asked fit = grind arith

line_by_kind : (k : DecodedOp) (asked : Asked) (s : State) → IsTrue (answers_all (decoded_calls k s) asked)
    → irq_level (by_kind k asked s) ≡ line_after k (is_called asked) s
line_by_kind (IerWrite value) asked s fit =
    let enable = only_bits value ier_bits in
    let call = not_empty s.in_buffer && becomes_pending Rda enable s.interrupt_identification in
    after_ier_write (not_empty s.in_buffer) (call && is_refused_at_once asked) (is_called asked) enable s.interrupt_identification
    (called_if call _ asked fit)
line_by_kind RbrRead asked s fit = grind (arith, bits)
line_by_kind k asked s fit = grind (arith, bits)

pub line_after_law : LineAfterLaw
line_after_law s op asked sent fit =
    let same = next_by_kind s op asked in
    ap (λ enable. line enable (step s op asked).interrupt_identification) same.interrupt_enable
    ∙ ap (line (by_kind (decode_in s op) asked s).interrupt_enable) same.interrupt_identification
    ∙ line_by_kind (decode_in s op) asked s (and_parts (answers_all (step_calls s op) asked) _ fit).0

-- ---- what follows

up_by_kind : (k : DecodedOp) (asked : Asked) (s : State) → IsTrue (answers_all (decoded_calls k s) asked)
    → IsTrue (is_called asked) → IsTrue (line_after k (is_called asked) s)
up_by_kind k asked s fit called = grind arith

pub up_after_call : UpAfterCallLaw
up_after_call s op asked sent fit called =
    line_after_law s op asked sent fit
    ∙ up_by_kind (decode_in s op) asked s (and_parts (answers_all (step_calls s op) asked) _ fit).0 called

goes_up_by_kind : (k : DecodedOp) (asked : Asked) (s : State) → IsFalse (irq_level s)
    → IsTrue (line_after k (is_called asked) s) → IsTrue (is_called asked) ⊎ EnablesPending k s
goes_up_by_kind k asked s was_down up = grind arith

pub goes_up : GoesUpLaw
goes_up s op asked sent fit was_down up =
    goes_up_by_kind (decode_in s op) asked s was_down (sym (line_after_law s op asked sent fit) ∙ up)

stays_up_by_kind : (k : DecodedOp) (called : Bool) (s : State) → IsFalse (may_lower_line k) → IsTrue (irq_level s)
    → IsTrue (line_after k called s)
stays_up_by_kind k called s not_here up = grind arith

pub stays_up : StaysUpLaw
stays_up s op asked sent fit not_here up =
    line_after_law s op asked sent fit ∙ stays_up_by_kind (decode_in s op) (is_called asked) s not_here up

-- ---- by the history

pub line_of_history : LineOfHistoryLaw
line_of_history start trace thre rda at =
    up_while_due (state_after start trace)
    ∙ ap (λ calls. not (length calls == 0)) (interrupt_law start trace thre rda at).restoring
    ∙ sym (one_or_both (is_asserted_at Thre start trace) (is_asserted_at Rda start trace))

pub ruleset interrupt_line_laws = (line_after_law, up_after_call, goes_up, stays_up)
