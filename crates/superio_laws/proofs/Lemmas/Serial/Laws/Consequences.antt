-- SPDX-License-Identifier: Apache-2.0 OR BSD-3-Clause
-- A condition is pending by the entries that raised and acknowledged it.
use Rattle.std.proofs.Common.{◌≡◌, inl, inr, Bool, true, false, not, ◌&&◌, ◌||◌, List, [], ◌∷◌, ◌++◌, refl, ap, sym, subst, append-nil, ℕ, ◌+◌, ◌*◌, ◌≤◌, ◌==◌, arith, ◌∙◌, IsTrue, ◌⊎◌, if◌then◌else◌, sum_by, count_by}
use Rattle.std.proofs.lemmas.Bool.{and_parts, eqb-true}
use Rattle.std.specs.Bool.{IsFalse, beq}
use Rattle.std.proofs.lemmas.List.Sums.{sum_by-cons}
use Rattle.superio_laws.specs.Serial.{State, not_empty, has_bits, Asked, Sent, TraceEntry, DecodedOp, count_if, answer_count, is_iir_read, is_rbr_read, Op, is_sent, decode, sent_by, Condition, Rda, Thre, iir_bit}
use Rattle.superio_laws.specs.Serial.Laws.Consequences.{PendingByPrefixesLaw, TriggerBoundLaw, WaitingBytesLaw, OutputLaw}
use Rattle.superio_laws.specs.Serial.Laws.{state_after}
use Rattle.superio_core.proofs.Lemmas.Serial.{enables_rda}
use Rattle.superio_core.proofs.Lemmas.Serial.Step.{by_kind}
use Rattle.superio_laws.proofs.Lemmas.Serial.Laws.{next_at_point, register_law, held_bytes_law}
use Rattle.superio_laws.proofs.Lemmas.Serial.Laws.Interrupts.{rda_next}
use Rattle.superio_laws.specs.Serial.{bytes_sent}
use Rattle.superio_laws.specs.Serial.History.{output, decode_at, held_bytes, ier_after, dlab_after, loopback_after, pending_since, is_raised, acknowledges, NoneAcknowledges, trigger_calls, is_pending, is_fitting_entry, is_fitting, decoded_ops, covers_waiting_bytes}

-- ---- the newest entry, and the others

nothing_there : {A : Type 0} (after before : List A) (x : A) → [] ≡ after ++ x ∷ before → ⊥
nothing_there [] before x e = cc
nothing_there (y ∷ after) before x e = cc

-- one more entry that does not acknowledge
pub none_more : (start : State) (acknowledges : DecodedOp → Bool) (newest trace : List TraceEntry) (entry : TraceEntry)
    → IsFalse (acknowledges (decode_at start (newest ++ trace) entry.op)) → NoneAcknowledges start acknowledges newest trace
    → NoneAcknowledges start acknowledges (entry ∷ newest) trace
none_more start acknowledges newest trace entry not_here none [] before x e =
    let same_entry : entry ≡ x = cc in
    let same_rest : newest ≡ before = cc in
    subst (λ (x : TraceEntry). IsFalse (acknowledges (decode_at start (before ++ trace) x.op))) same_entry
    (subst (λ (rest : List TraceEntry). IsFalse (acknowledges (decode_at start (rest ++ trace) entry.op))) same_rest not_here)
none_more start acknowledges newest trace entry not_here none (y ∷ after) before x e =
    let rest : newest ≡ after ++ x ∷ before = cc in none after before x rest

-- and one fewer
pub none_fewer : (start : State) (acknowledges : DecodedOp → Bool) (newest trace : List TraceEntry) (entry : TraceEntry)
    → NoneAcknowledges start acknowledges (entry ∷ newest) trace → NoneAcknowledges start acknowledges newest trace
none_fewer start acknowledges newest trace entry none after before x e =
    none (entry ∷ after) before x (ap (λ rest. entry ∷ rest) e)

pub nowhere : (start : State) (acknowledges : DecodedOp → Bool) (trace : List TraceEntry) → NoneAcknowledges start acknowledges [] trace
nowhere start acknowledges trace after before entry absent = absurd (nothing_there after before entry absent)

or_true : (b : Bool) → IsTrue (b || true)
or_true b = grind arith

not_false : (b : Bool) → IsTrue (not b) → IsFalse b
not_false b e = grind arith

-- ---- pending by trace prefixes

module _ (condition : Condition) (start : State) (raises : List TraceEntry → TraceEntry → Bool) where
  -- raised at some point, or at first, and acknowledged at no later point
  abbrev ByPrefixes : (trace : List TraceEntry) → Type 0
  ByPrefixes trace =
      ((after before : List TraceEntry) × (entry : TraceEntry) × (trace ≡ after ++ entry ∷ before)
      × IsTrue (raises before entry) × NoneAcknowledges start (acknowledges condition) after (entry ∷ before))
      ⊎ (IsTrue (has_bits start.interrupt_identification (iir_bit condition)) × NoneAcknowledges start (acknowledges condition) trace [])

  -- what was raised stays raised while none acknowledges
  stays : (newest trace : List TraceEntry) → NoneAcknowledges start (acknowledges condition) newest trace
      → IsTrue (pending_since condition start raises trace)
      → IsTrue (pending_since condition start raises (newest ++ trace))
  stays [] trace none raised = raised
  stays (entry ∷ newest) trace none raised =
      let rest = stays newest trace (none_fewer start (acknowledges condition) newest trace entry none) raised in
      let not_here = none [] newest entry refl in
      rw (not_here, rest) (or_true (raises (newest ++ trace) entry))

  -- a point for the others is one for all, if the newest entry does not acknowledge
  grown : (entry : TraceEntry) (trace : List TraceEntry) → IsFalse (acknowledges condition (decode_at start trace entry.op))
      → ByPrefixes trace
      → ByPrefixes (entry ∷ trace)
  grown entry trace not_here (inl (after, before, x, point, raised, none)) =
      inl (
        entry ∷ after,
        before,
        x,
        ap (λ rest. entry ∷ rest) point,
        raised,
        none_more start (acknowledges condition) after (x ∷ before) entry
            (subst (λ (trace : List TraceEntry). IsFalse (acknowledges condition (decode_at start trace entry.op))) point not_here) none,
      )
  grown entry trace not_here (inr (pending, none)) =
      inr (
        pending,
        none_more start (acknowledges condition) trace [] entry
            (subst (λ (trace : List TraceEntry). IsFalse (acknowledges condition (decode_at start trace entry.op)))
            (sym (append-nil trace)) not_here) none,
      )

  found : (entry : TraceEntry) (trace : List TraceEntry) (here : Bool) → raises trace entry ≡ here
      → (IsTrue (pending_since condition start raises trace)
      → ByPrefixes trace)
      → IsTrue (here ||
      (not (acknowledges condition (decode_at start trace entry.op)) && pending_since condition start raises trace))
      → ByPrefixes (entry ∷ trace)
  found entry trace true raised earlier e =
      inl ([], trace, entry, refl, raised, nowhere start (acknowledges condition) (entry ∷ trace))
  found entry trace false raised earlier e =
      let acknowledged = acknowledges condition (decode_at start trace entry.op) in
      let rest = pending_since condition start raises trace in
      grown entry trace (not_false acknowledged (and_parts (not acknowledged) rest e).0)
      (earlier (and_parts (not acknowledged) rest e).1)

  to_prefixes : (trace : List TraceEntry) → IsTrue (pending_since condition start raises trace)
      → ByPrefixes trace
  to_prefixes [] e = inr (e, nowhere start (acknowledges condition) [])
  to_prefixes (entry ∷ trace) e = found entry trace (raises trace entry) refl (to_prefixes trace) e

  from_prefixes : (trace : List TraceEntry) → ByPrefixes trace
      → IsTrue (pending_since condition start raises trace)
  from_prefixes trace (inl (after, before, entry, point, raised, none)) =
      let there : IsTrue (pending_since condition start raises (entry ∷ before)) = rw raised refl in
      subst (λ (trace : List TraceEntry). IsTrue (pending_since condition start raises trace)) (sym point)
      (stays after (entry ∷ before) none there)
  from_prefixes trace (inr (pending, none)) =
      subst (λ (trace : List TraceEntry). IsTrue (pending_since condition start raises trace)) (append-nil trace)
      (stays trace [] none pending)

pub pending_by_prefixes_law : PendingByPrefixesLaw
pending_by_prefixes_law condition start trace =
    let raises = is_raised condition start in
    (to_prefixes condition start raises trace, from_prefixes condition start raises trace)

-- ---- the trigger bound

-- each call makes a condition pending that was not, and only an acknowledgement makes it one that is not
one_condition : (raised acknowledged before : Bool)
    → count_if (raised && not before) + count_if before
    ≤ count_if (raised || (not acknowledged && before)) + count_if acknowledged
one_condition raised acknowledged before = grind arith

-- an IIR read acknowledges two conditions, an RBR read one
acknowledged_by : (k : DecodedOp)
    → count_if (acknowledges Rda k) + count_if (is_iir_read k)
    ≤ 2 * count_if (is_iir_read k) + count_if (is_rbr_read k)
acknowledged_by k = grind arith

pub one_at_most : (b : Bool) → count_if b ≤ 1
one_at_most b = grind arith

-- the calls that a trace makes as long as none is refused
abbrev pub due_so_far : (start : State) (trace : List TraceEntry) → ℕ
due_so_far start [] = 0
due_so_far start (entry ∷ trace) = trigger_calls start trace entry + due_so_far start trace

-- they are at most the acknowledgements and the conditions that are pending now
due-bound : (start : State) (trace : List TraceEntry)
    → due_so_far start trace
    ≤ count_if (is_pending Rda start trace) + count_if (is_pending Thre start trace)
    + 2 * count_by is_iir_read (decoded_ops start trace) + count_by is_rbr_read (decoded_ops start trace)
due-bound start [] = omega arith
due-bound start (entry ∷ trace) =
    let k = decode_at start trace entry.op in
    rw (
      sum_by-cons (λ k. if is_iir_read k then 1 else 0) k (decoded_ops start trace),
      sum_by-cons (λ k. if is_rbr_read k then 1 else 0) k (decoded_ops start trace),
    ) (
    omega (
      arith,
      due-bound start trace,
      one_condition (is_raised Rda start trace entry) (acknowledges Rda k) (is_pending Rda start trace),
      one_condition (is_raised Thre start trace entry) (is_iir_read k) (is_pending Thre start trace),
      acknowledged_by k,
    ))

pub due-within : (start : State) (trace : List TraceEntry)
    → due_so_far start trace
    ≤ 2 + 2 * count_by is_iir_read (decoded_ops start trace) + count_by is_rbr_read (decoded_ops start trace)
due-within start trace =
    omega (
      arith,
      due-bound start trace,
      one_at_most (is_pending Rda start trace),
      one_at_most (is_pending Thre start trace),
    )

-- in a fitting trace each is answered
answered : (start : State) (trace : List TraceEntry) → IsTrue (is_fitting start trace)
    → sum_by (λ (entry : TraceEntry). answer_count entry.asked) trace ≡ due_so_far start trace
answered start [] fitting = refl
answered start (entry ∷ trace) fitting =
    let both = and_parts (is_fitting_entry start trace entry) (is_fitting start trace) fitting in
    let here : answer_count entry.asked ≡ trigger_calls start trace entry =
    eqb-true _ _ (and_parts (answer_count entry.asked == trigger_calls start trace entry) _ both.0).0 in
    rw (sum_by-cons (λ (entry : TraceEntry). answer_count entry.asked) entry trace, here)
    (omega (arith, answered start trace both.1))

pub trigger_bound_law : TriggerBoundLaw
trigger_bound_law start trace fitting = rw (answered start trace fitting) (due-within start trace)

-- ---- while bytes are held and enabled, RDA is pending

-- if bytes are held and RDA is enabled, it is pending
abbrev IsTold : State → Bool → Type 0
IsTold s pending = IsTrue (not_empty s.in_buffer) → IsTrue (has_bits s.interrupt_enable 0x01) → IsTrue pending

-- an operation that does not acknowledge leaves it so
reported_by_kind : (k : DecodedOp) (asked : Asked) (s : State) (pending : Bool) → IsFalse (acknowledges Rda k)
    → IsTold s pending
    → IsTold (by_kind k asked s) (rda_next k s.in_buffer s.interrupt_enable pending)
reported_by_kind k asked s pending not_here before some enabled = grind (arith, enables_rda)

-- and a point that shows waiting bytes makes it so
first_reported : (k : DecodedOp) (asked : Asked) (s : State) (pending : Bool) → IsTrue (covers_waiting_bytes k s.in_buffer)
    → IsTold (by_kind k asked s) (rda_next k s.in_buffer s.interrupt_enable pending)
first_reported k asked s pending tells some enabled = grind (arith, enables_rda)

-- the same at a point of a trace
abbrev IsToldAt : State → List TraceEntry → Type 0
IsToldAt start trace =
    IsTrue (not_empty (held_bytes start trace)) → IsTrue (has_bits (ier_after start trace) 0x01)
    → IsTrue (is_pending Rda start trace)

at_point : (start : State) (trace : List TraceEntry) (entry : TraceEntry)
    → let s = state_after start trace in let k = decode_at start trace entry.op in
    IsTold (by_kind k entry.asked s) (rda_next k s.in_buffer s.interrupt_enable (is_pending Rda start trace))
    → IsToldAt start (entry ∷ trace)
at_point start trace entry reported some enabled =
    let s = state_after start trace in
    let k = decode_at start trace entry.op in
    let now = register_law start (entry ∷ trace) in
    let registers = register_law start trace in
    let same = next_at_point start trace entry in
    let pending = is_pending Rda start trace in
    ap (λ bytes. rda_next k bytes (ier_after start trace) pending) (sym (held_bytes_law start trace))
    ∙ ap (λ enable. rda_next k s.in_buffer enable pending) (sym registers.interrupt_enable)
    ∙ reported (ap not_empty (sym same.in_buffer ∙ held_bytes_law start (entry ∷ trace)) ∙ some)
    (ap (λ enable. has_bits enable 0x01) (sym same.interrupt_enable ∙ now.interrupt_enable) ∙ enabled)

-- and at each later point, while none acknowledges
stays_reported : (start : State) (newest trace : List TraceEntry) → NoneAcknowledges start (acknowledges Rda) newest trace
    → IsToldAt start trace → IsToldAt start (newest ++ trace)
stays_reported start [] trace none before = before
stays_reported start (entry ∷ newest) trace none before =
    let point = newest ++ trace in
    let s = state_after start point in
    let rest = stays_reported start newest trace (none_fewer start (acknowledges Rda) newest trace entry none) before in
    at_point start point entry
    (reported_by_kind (decode_at start point entry.op) entry.asked s (is_pending Rda start point) (none [] newest entry refl)
    (λ some enabled. rest (ap not_empty (sym (held_bytes_law start point)) ∙ some)
    (ap (λ enable. has_bits enable 0x01) (sym (register_law start point).interrupt_enable) ∙ enabled)))

pub waiting_bytes_law : WaitingBytesLaw
waiting_bytes_law start trace after before entry same tells none =
    let k = decode_at start before entry.op in
    let s = state_after start before in
    subst (IsToldAt start) (sym same)
    (stays_reported start after (entry ∷ before) none
    (at_point start before entry
    (first_reported k entry.asked s (is_pending Rda start before)
    (ap (covers_waiting_bytes k) (held_bytes_law start before) ∙ tells))))

-- ---- what was sent is the output

-- nothing is sent if the kind sends nothing
abbrev IsOutcome : List ℕ → Sent → Type 0
IsOutcome bytes outcome = IsTrue (beq (is_sent outcome) (not_empty bytes))

-- what is recorded as sent is what the operation sends
pub call_written : (dlab loopback : Bool) (op : Op) (outcome : Sent)
    → IsOutcome (sent_by (decode dlab loopback op)) outcome → bytes_sent op outcome ≡ sent_by (decode dlab loopback op)
call_written dlab loopback op outcome outcome_fits = grind arith

-- ---- the newest entries

pub output_law : OutputLaw
output_law start trace [] fitting = refl
output_law start trace (entry ∷ newest) fitting =
    let point = newest ++ trace in
    let here = (and_parts (is_fitting_entry start point entry) (is_fitting start point) fitting).0 in
    let rest = output_law start trace newest (and_parts (is_fitting_entry start point entry) (is_fitting start point) fitting).1 in
    let call = call_written (dlab_after start point) (loopback_after start point) entry.op entry.sent
    (and_parts (answer_count entry.asked == trigger_calls start point entry) _ here).1 in
    ap (λ bytes. bytes ++ bytes_sent entry.op entry.sent) rest ∙ ap (λ bytes. output start trace newest ++ bytes) call
