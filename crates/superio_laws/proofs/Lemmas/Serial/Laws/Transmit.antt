-- SPDX-License-Identifier: Apache-2.0 OR BSD-3-Clause
-- What asks a driver for more bytes, and what a refused trigger call costs.
use Rattle.std.proofs.Common.{◌≡◌, ℕ, ◌+◌, Bool, true, false, not, ◌==◌, ◌&&◌, ◌||◌, inl, List, [], ◌∷◌, ◌++◌, refl, sym, ap, ◌∙◌, arith, IsTrue, Option, if◌then◌else◌, None}
use Rattle.std.proofs.lemmas.Bool.{and_parts, eqb-true, false≢true}
use Rattle.std.specs.Option.{option_or, option_map_or}
use Rattle.std.specs.Cmp.Derive.{both_true}
use Rattle.superio_laws.specs.Serial.{Op, Rda, Thre, Condition, State, TraceEntry, Trace, is_refused_at_once, answer_count, count_if, DecodedOp, IirRead, IerWrite, ThrWrite, decode, has_bits, only_bits, ier_bits, ier_bit, pending_in_order}
use Rattle.superio_laws.specs.Serial.History.{decode_at, dlab_after, loopback_after, value_written_at, last_found, held_bytes, ier_after, acknowledges, raises_rda, raises_thre, rda_raised, rda_pending, is_raised, is_pending, is_call_due, is_fitting_entry, NoneAcknowledges}
use Rattle.superio_laws.specs.Serial.Laws.Line.{is_called}
use Rattle.superio_laws.specs.Serial.Laws.Transmit.{AsksForMore, IerWriteAsksLaw, ThrWriteAsksLaw, RetriedLaw, RefusedWriteLaw, CallsFor, CalledSinceLaw}
use Rattle.superio_core.proofs.Lemmas.Serial.{enables_rda}
use Rattle.superio_laws.proofs.Lemmas.Serial.Laws.Consequences.{pending_by_prefixes_law}
use Rattle.superio_laws.proofs.Lemmas.Serial.Laws.InterruptDriver.{idle}

-- ---- what asks for more

-- where THRE is raised, there is a call for it if it was not pending
asks : (start : State) (before : Trace) (entry : TraceEntry) → IsTrue (is_fitting_entry start before entry)
    → IsTrue (is_raised Thre start before entry) → AsksForMore start before entry
asks start before entry fitting raised = record {
  raised = raised;
  called =
      eqb-true _ _ (and_parts _ _ fitting).0
      ∙ ap (λ raised. count_if (is_call_due Rda start before entry) + count_if (raised && not (is_pending Thre start before))) raised;
}

pub ier_raises : (start : State) (before : Trace) (entry : TraceEntry) (value : ℕ) → decode_at start before entry.op ≡ IerWrite value
    → IsTrue (has_bits value (ier_bit Thre)) → (is_call_due Rda start before entry && is_refused_at_once entry.asked) ≡ false
    → IsTrue (is_raised Thre start before entry)
ier_raises start before entry value kind enabled kept =
    let refused = rda_raised start before entry && not (rda_pending start before) && is_refused_at_once entry.asked in
    ap (λ k. raises_thre k (ier_after start before) refused) kind ∙ both_true enabled (ap not kept)

pub ier_write_asks_law : IerWriteAsksLaw
ier_write_asks_law start before entry value fitting kind enabled kept =
    asks start before entry fitting (ier_raises start before entry value kind enabled kept)

pub thr_raises : (start : State) (before : Trace) (entry : TraceEntry) (value : ℕ) → decode_at start before entry.op ≡ ThrWrite value
    → IsTrue (has_bits (ier_after start before) (ier_bit Thre)) → IsTrue (is_raised Thre start before entry)
thr_raises start before entry value kind enabled =
    let refused = rda_raised start before entry && not (rda_pending start before) && is_refused_at_once entry.asked in
    ap (λ k. raises_thre k (ier_after start before) refused) kind ∙ enabled

pub thr_write_asks_law : ThrWriteAsksLaw
thr_write_asks_law start before entry value fitting kind enabled =
    asks start before entry fitting (thr_raises start before entry value kind enabled)

-- what is raised, and not acknowledged later, is pending
pub raised_stays : (condition : Condition) (start : State) (after before : Trace) (entry : TraceEntry)
    → IsTrue (is_raised condition start before entry) → NoneAcknowledges start (acknowledges condition) after (entry ∷ before)
    → IsTrue (is_pending condition start (after ++ entry ∷ before))
raised_stays condition start after before entry raised none =
    (pending_by_prefixes_law condition start (after ++ entry ∷ before)).1 (inl (after, before, entry, refl, raised, none))

-- ---- a trigger that refuses

retried_by : (condition : Condition) (thre rda : Bool) → (condition ≡ Thre → IsTrue thre) → (condition ≡ Rda → IsTrue rda)
    → (first later : List Condition) × (pending_in_order thre rda ≡ first ++ condition ∷ later)
retried_by Thre true rda thre_is rda_is = ([], (if rda then Rda ∷ [] else []), refl)
retried_by Thre false rda thre_is rda_is = absurd (false≢true (thre_is refl))
retried_by Rda true true thre_is rda_is = (Thre ∷ [], [], refl)
retried_by Rda false true thre_is rda_is = ([], [], refl)
retried_by Rda thre false thre_is rda_is = absurd (false≢true (rda_is refl))

pub retried_law : RetriedLaw
retried_law Thre start trace pending enabled =
    retried_by Thre _ (is_pending Rda start trace && has_bits (ier_after start trace) (ier_bit Rda)) (λ is. both_true pending enabled) (λ is. absurd cc)
retried_law Rda start trace pending enabled =
    retried_by Rda (is_pending Thre start trace && has_bits (ier_after start trace) (ier_bit Thre)) _ (λ is. absurd cc) (λ is. both_true pending enabled)

-- IER after a write of it
ier_written : (dlab loopback : Bool) (op : Op) (value : ℕ) (earlier : Option ℕ) (first : ℕ) → decode dlab loopback op ≡ IerWrite value
    → option_map_or (λ value. only_bits value ier_bits) (option_or (if dlab then None else value_written_at 1 op) earlier) first
    ≡ only_bits value ier_bits
ier_written dlab loopback op value earlier first kind = grind arith

pub refused_write_law : RefusedWriteLaw
refused_write_law start before entry value kind due =
    let raised = (and_parts _ _ due).0 in
    let by_kind = ap (λ k. raises_rda k (held_bytes start before) (ier_after start before)) (sym kind) ∙ raised in
    let enable = ier_written (dlab_after start before) (loopback_after start before) entry.op value
    (last_found (λ before op. if dlab_after start before then None else value_written_at 1 op) before) start.interrupt_enable kind in
    let kept = not (acknowledges Rda (decode_at start before entry.op)) && is_pending Rda start before in
    retried_law Rda start (entry ∷ before) (ap (λ raised. raised || kept) raised)
    (ap (λ enable. has_bits enable (ier_bit Rda)) enable ∙ enables_rda value ∙ (and_parts (has_bits value (ier_bit Rda)) _ by_kind).0)

-- ---- a pending condition was called for

pub idle_at : (condition : Condition) (start : State) (iir : TraceEntry) (before : Trace) → decode_at start before iir.op ≡ IirRead
    → is_pending condition start (iir ∷ before) ≡ false
idle_at Rda start iir before reads = idle start iir before reads
idle_at Thre start iir before reads =
    let refused = rda_raised start before iir && not (rda_pending start before) && is_refused_at_once iir.asked in
    ap (λ (kind : DecodedOp). raises_thre kind (ier_after start before) refused
    || (not (acknowledges Thre kind) && is_pending Thre start before)) reads

raised_now : (raised kept before : Bool) → before ≡ false → IsTrue (raised || (kept && before)) → IsTrue raised
raised_now raised kept before was now = grind arith

-- a due call is answered
some_answer : (answers : ℕ) (rda thre : Bool) → answers ≡ count_if rda + count_if thre → IsTrue (rda || thre) → IsTrue (not (answers == 0))
some_answer answers rda thre is some = grind arith

either_due : (condition : Condition) (start : State) (before : Trace) (entry : TraceEntry) → IsTrue (is_call_due condition start before entry)
    → IsTrue (is_call_due Rda start before entry || is_call_due Thre start before entry)
either_due Rda start before entry due = ap (λ rda. rda || is_call_due Thre start before entry) due
either_due Thre start before entry due = ap (λ thre. is_call_due Rda start before entry || thre) due ∙ grind arith

is_answered : (condition : Condition) (start : State) (before : Trace) (entry : TraceEntry) → IsTrue (is_call_due condition start before entry)
    → IsTrue (is_fitting_entry start before entry) → IsTrue (is_called entry.asked)
is_answered condition start before entry due fitting =
    some_answer (answer_count entry.asked) _ _ (eqb-true _ _ (and_parts _ _ fitting).0) (either_due condition start before entry due)

called_by : (condition : Condition) (start : State) (before after : Trace) (entry : TraceEntry) (was : Bool)
    → is_pending condition start (after ++ before) ≡ was
    → (IsTrue (is_pending condition start (after ++ before)) → CallsFor condition start before after)
    → IsTrue (is_pending condition start (entry ∷ after ++ before)) → CallsFor condition start before (entry ∷ after)
called_by condition start before after entry true was earlier now =
    let rest = earlier was in
    record {
      later = entry ∷ rest.later;
      entry = rest.entry;
      earlier = rest.earlier;
      place = ap (λ list. entry ∷ list) rest.place;
      due = rest.due;
      called = rest.called;
    }
called_by condition start before after entry false was earlier now =
    let due = both_true (raised_now (is_raised condition start (after ++ before) entry) _ _ was now) (ap not was) in
    record { later = []; entry = entry; earlier = after; place = refl; due = due; called = is_answered condition start (after ++ before) entry due }

pub called_since_law : CalledSinceLaw
called_since_law condition start [] before iir reads now = absurd (false≢true (sym (idle_at condition start iir before reads) ∙ now))
called_since_law condition start (entry ∷ after) before iir reads now =
    called_by condition start (iir ∷ before) after entry _ refl (called_since_law condition start after before iir reads) now
