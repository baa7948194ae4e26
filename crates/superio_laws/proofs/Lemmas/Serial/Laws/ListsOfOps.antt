-- SPDX-License-Identifier: Apache-2.0 OR BSD-3-Clause
-- A list of operations on a port without objects, and one call of it.
use Rattle.std.proofs.Common.{◌≡◌, ℕ, ◌+◌, ◌-◌, ◌*◌, ◌≤◌, Bool, true, false, not, ◌&&◌, List, [], ◌∷◌, ◌++◌, length, take, refl, ap, sym, ◌∙◌, subst, arith, append_assoc, append-nil, if◌then◌else◌}
use Rattle.std.proofs.lemmas.List.{take-append-drop, take_min, length-take}
use Rattle.superio_laws.specs.Serial.{Asked, Op, Read, Write, Enqueue, CharacterTimeout, DecodedOp, IerWrite, is_iir_read, is_rbr_read, State, not_empty, has_bits, only_bits}
use Rattle.superio_laws.specs.Serial.{ier_bits, Rda, Thre, Trace, Coherent, RdaCoversHeldBytes, turns_on, count_if, decode_in, decode_read, decode_write, Other, RxInput, step}
use Rattle.superio_laws.specs.Serial.{step_calls, decoded_calls, sent_by, bytes_that_fit, enqueued_bytes, becomes_pending, iir_after_raise, is_dlab, is_loopback, register_at, Register, turned_on_count}
use Rattle.superio_laws.specs.Serial.History.{acknowledges, accepted_by, read_out_by, accepted_bytes, read_out_bytes, held_bytes, decode_at, output}
use Rattle.superio_laws.specs.Serial.Laws.{state_after}
use Rattle.superio_laws.specs.Serial.Laws.UartRun.{UartCall, UartRead, UartWrite, UartEnqueue, UartTimeout, UartRestore, op_of_call, without_results, trace_with, UartTurnedOnLaw, UartAcceptsLaw, acknowledges_rda, UartCoversLaw}
use Rattle.superio_laws.specs.Serial.Laws.ListsOfOps.{state_by, read_out_in, accepted_in, sent_in, asked_in, acknowledged_in, all_calls_due, ListLaw, ListJoinLaw, ListHistoryLaw}
use Rattle.superio_core.proofs.Lemmas.Serial.Step.{by_kind, next_by_kind}
use Rattle.superio_laws.proofs.Lemmas.Serial.Laws.{same_kind, held_bytes_law}
use Rattle.superio_core.proofs.Lemmas.Serial.{enables_rda}
use Rattle.superio_laws.proofs.Lemmas.Serial.Laws.Interrupts.{coherent_after}
use Rattle.superio_laws.proofs.Lemmas.Serial.Laws.OneCall.{bits, one_call, received_bytes, ier_write_turned}
use Rattle.superio_laws.proofs.Lemmas.Serial.Laws.StepsOfHistory.{state_law, step_law, step-of-call}

-- ---- one call without answers asks for each condition that becomes pending

abbrev turned : (old new : ℕ) → ℕ
turned old new = count_if (turns_on 0x04 old new) + count_if (turns_on 0x02 old new)

abbrev pending_in : ℕ → ℕ
pending_in iir = count_if (has_bits iir 0x04) + count_if (has_bits iir 0x02)

none_refused : (called second : Bool) → count_if second ≡ count_if (second && not (called && false))
none_refused called second = grind arith

asks_by_kind : (k : DecodedOp) (s : State)
    → decoded_calls k s ≡ turned s.interrupt_identification (by_kind k Asked.Nothing s).interrupt_identification
asks_by_kind (IerWrite value) s =
    let enable = only_bits value ier_bits in
    let old = s.interrupt_identification in
    let held = not_empty s.in_buffer in
    let called = held && becomes_pending Rda enable old in
    let first = if held then iir_after_raise Rda enable old else old in
    ap (λ n. count_if called + n) (none_refused called (becomes_pending Thre enable first))
    ∙ ier_write_turned held (called && false) enable old
asks_by_kind k s = grind (arith, bits)

pub asks : (s : State) (op : Op) → step_calls s op ≡ turned_on_count s (step s op Asked.Nothing)
asks s op =
    asks_by_kind (decode_in s op) s
    ∙ ap (turned s.interrupt_identification) (sym (next_by_kind s op Asked.Nothing).interrupt_identification)

-- what is pending afterwards was pending, or was asked for, and was not acknowledged
pending_by_kind : (k : DecodedOp) (s : State)
    → let new = (by_kind k Asked.Nothing s).interrupt_identification in
    turned s.interrupt_identification new + pending_in s.interrupt_identification
    ≤ pending_in new + (2 * count_if (is_iir_read k) + count_if (is_rbr_read k))
pending_by_kind k s = grind (arith, bits)

asks_pending : (s : State) (op : Op)
    → step_calls s op + pending_in s.interrupt_identification
    ≤ pending_in (step s op Asked.Nothing).interrupt_identification
    + (2 * count_if (is_iir_read (decode_in s op)) + count_if (is_rbr_read (decode_in s op)))
asks_pending s op =
    let iir = (next_by_kind s op Asked.Nothing).interrupt_identification in
    rw iir (rw (asks_by_kind (decode_in s op) s) (pending_by_kind (decode_in s op) s))

at_most_2 : (one other : Bool) → count_if one + count_if other ≤ 2
at_most_2 one other = grind arith

asked_pending : (s : State) (ops : List Op)
    → asked_in s ops + pending_in s.interrupt_identification
    ≤ pending_in (state_by s ops).interrupt_identification + acknowledged_in s ops
asked_pending s [] = omega arith
asked_pending s (op ∷ later) = omega (arith, asks_pending s op, asked_pending (step s op Asked.Nothing) later)

-- ---- the bytes of a list

in_order : (s : State) (ops : List Op) → read_out_in s ops ++ (state_by s ops).in_buffer ≡ s.in_buffer ++ accepted_in s ops
in_order s [] = sym (append-nil s.in_buffer)
in_order s (op ∷ later) =
    let new = step s op Asked.Nothing in
    let taken = read_out_by (decode_in s op) s.in_buffer in
    let added = accepted_by (decode_in s op) s.in_buffer in
    append_assoc taken (read_out_in new later) (state_by new later).in_buffer
    ∙ ap (λ bytes. taken ++ bytes) (in_order new later)
    ∙ sym (append_assoc taken new.in_buffer (accepted_in new later))
    ∙ ap (λ bytes. bytes ++ accepted_in new later) (one_call s op Asked.Nothing)
    ∙ append_assoc s.in_buffer added (accepted_in new later)

pub list_law : ListLaw
list_law s ops = record {
  in_order = in_order s ops;
  bound = omega (
    arith,
    asked_pending s ops,
    at_most_2 (has_bits (state_by s ops).interrupt_identification 0x04) (has_bits (state_by s ops).interrupt_identification 0x02),
  );
}

-- ---- a list in two parts

pub list_join_law : ListJoinLaw
list_join_law s [] second = record {
  state = refl;
  read_out = refl;
  accepted = refl;
  sent = refl;
  asked = omega arith;
  acknowledged = omega arith;
}
list_join_law s (op ∷ first) second =
    let new = step s op Asked.Nothing in
    let rest = list_join_law new first second in
    let taken = read_out_by (decode_in s op) s.in_buffer in
    let added = accepted_by (decode_in s op) s.in_buffer in
    let sends = sent_by (decode_in s op) in
    record {
      state = rest.state;
      read_out = ap (λ bytes. taken ++ bytes) rest.read_out ∙ sym (append_assoc taken (read_out_in new first) _);
      accepted = ap (λ bytes. added ++ bytes) rest.accepted ∙ sym (append_assoc added (accepted_in new first) _);
      sent = ap (λ bytes. sends ++ bytes) rest.sent ∙ sym (append_assoc sends (sent_in new first) _);
      asked = omega (arith, rest.asked);
      acknowledged = omega (arith, rest.acknowledged);
    }

-- ---- the trace of a list

states : (start : State) (trace : Trace) (ops : List Op)
    → state_by (state_after start trace) ops ≡ state_after start (trace_with trace ops)
states start trace [] = refl
states start trace (op ∷ later) = states start (without_results op ∷ trace) later

-- what a list does at the end of a trace, if one operation does what `one` says in the state and `at` says at the point
folded : (start : State) (one : State → Op → List ℕ) (all : State → List Op → List ℕ) (so_far : Trace → List ℕ)
    → ((s : State) → all s [] ≡ [])
    → ((s : State) (op : Op) (later : List Op) → all s (op ∷ later) ≡ one s op ++ all (step s op Asked.Nothing) later)
    → ((trace : Trace) (op : Op) → so_far (without_results op ∷ trace) ≡ so_far trace ++ one (state_after start trace) op)
    → (trace : Trace) (ops : List Op) → so_far trace ++ all (state_after start trace) ops ≡ so_far (trace_with trace ops)
folded start one all so_far none more next trace [] =
    ap (λ bytes. so_far trace ++ bytes) (none (state_after start trace)) ∙ append-nil (so_far trace)
folded start one all so_far none more next trace (op ∷ later) =
    let s = state_after start trace in
    ap (λ bytes. so_far trace ++ bytes) (more s op later)
    ∙ sym (append_assoc (so_far trace) (one s op) (all (step s op Asked.Nothing) later))
    ∙ ap (λ bytes. bytes ++ all (step s op Asked.Nothing) later) (sym (next trace op))
    ∙ folded start one all so_far none more next (without_results op ∷ trace) later

-- an operation at a point, by the state there
at_point : (start : State) (trace : Trace) (by : DecodedOp → List ℕ → List ℕ) (op : Op)
    → by (decode_at start trace op) (held_bytes start trace)
    ≡ by (decode_in (state_after start trace) op) (state_after start trace).in_buffer
at_point start trace by op =
    ap (λ kind. by kind (held_bytes start trace)) (sym (same_kind start trace op))
    ∙ ap (by (decode_in (state_after start trace) op)) (sym (held_bytes_law start trace))

read_out_by_trace : (start : State) (ops : List Op) → read_out_in start ops ≡ read_out_bytes start (trace_with [] ops)
read_out_by_trace start ops =
    folded start (λ s op. read_out_by (decode_in s op) s.in_buffer) read_out_in (read_out_bytes start) (λ s. refl) (λ s op later. refl)
    (λ trace op. ap (λ bytes. read_out_bytes start trace ++ bytes) (at_point start trace read_out_by op)) [] ops

accepted_by_trace : (start : State) (ops : List Op) → accepted_in start ops ≡ accepted_bytes start (trace_with [] ops)
accepted_by_trace start ops =
    folded start (λ s op. accepted_by (decode_in s op) s.in_buffer) accepted_in (accepted_bytes start) (λ s. refl) (λ s op later. refl)
    (λ trace op. ap (λ bytes. accepted_bytes start trace ++ bytes) (at_point start trace accepted_by op)) [] ops

sent_by_trace : (start : State) (ops : List Op) → sent_in start ops ≡ output start [] (trace_with [] ops)
sent_by_trace start ops =
    folded start (λ s op. sent_by (decode_in s op)) sent_in (output start []) (λ s. refl) (λ s op later. refl)
    (λ trace op. ap (λ bytes. output start [] trace ++ bytes)
    (ap (λ before. sent_by (decode_at start before op)) (append-nil trace) ∙ ap sent_by (sym (same_kind start trace op)))) [] ops

module _ (start : State) (coherent : Coherent start) where
  asked_by_trace : (trace : Trace) (ops : List Op)
      → all_calls_due start trace + asked_in (state_after start trace) ops ≡ all_calls_due start (trace_with trace ops)
  asked_by_trace trace [] = omega arith
  asked_by_trace trace (op ∷ later) =
      let here = ap (λ (s : State). step_calls s op) (state_law start trace coherent) ∙ (step_law start trace coherent).calls op in
      omega (arith, here, asked_by_trace (without_results op ∷ trace) later)

pub list_history_law : ListHistoryLaw
list_history_law start ops coherent = record {
  state = states start [] ops ∙ state_law start (trace_with [] ops) coherent;
  read_out = read_out_by_trace start ops;
  accepted = accepted_by_trace start ops;
  sent = sent_by_trace start ops;
  asked = omega (arith, asked_by_trace start coherent [] ops);
  coherent = subst Coherent (sym (states start [] ops)) (coherent_after start (trace_with [] ops) coherent);
}

-- ---- one call of a `Uart`

none_turned : (iir : ℕ) → 0 ≡ turned iir iir
none_turned iir = grind arith

pub no_calls : (register : Register) (s : State) → decoded_calls (decode_read register) s ≡ 0
no_calls register s = grind arith

pub uart_turned_on_law : UartTurnedOnLaw
uart_turned_on_law (UartRead offset effects) old new is =
    sym (no_calls (register_at (is_dlab old.line_control) offset) old) ∙ asks old (Read offset) ∙ ap (turned_on_count old) (sym is.state)
uart_turned_on_law (UartWrite offset value effects) old new is =
    is.interrupts ∙ asks old (Write offset value) ∙ ap (turned_on_count old) (sym is.state)
uart_turned_on_law (UartEnqueue bytes effects) old new is =
    is.interrupts ∙ asks old (Enqueue bytes) ∙ ap (turned_on_count old) (sym is.state)
uart_turned_on_law (UartTimeout interrupts) old new is =
    is.interrupts ∙ asks old CharacterTimeout ∙ ap (turned_on_count old) (sym is.state)
uart_turned_on_law (UartRestore interrupts) old new is =
    none_turned old.interrupt_identification ∙ ap (turned_on_count old) (sym is.1)

-- the bytes that an enqueue accepts are the first
first_taken : (inside : Bool) (held bytes : List ℕ)
    → let taken = if inside then [] else bytes_that_fit held bytes in take (length taken) bytes ≡ taken
first_taken true held bytes = refl
first_taken false held bytes =
    ap (λ n. take n bytes) (length-take (64 - length held) bytes) ∙ take_min (64 - length held) bytes

pub uart_accepts_law : UartAcceptsLaw
uart_accepts_law bytes effects old new is =
    let first = ap (λ n. take n bytes) is.accepted ∙ first_taken (is_loopback old.modem_control) old.in_buffer bytes in
    record {
      held = ap (λ (s : State). s.in_buffer) is.state ∙ received_bytes (enqueued_bytes old bytes) old
          ∙ ap (λ added. old.in_buffer ++ added) (sym first);
      first = first;
      rest = take-append-drop effects.accepted bytes;
    }

-- RDA is pending again if it was, and an operation that brings bytes or enables RDA raises it
covered_by_kind : (k : DecodedOp) (asked : Asked) (s : State) → acknowledges Rda k ≡ false → RdaCoversHeldBytes s
    → RdaCoversHeldBytes (by_kind k asked s)
covered_by_kind k asked s other covered some enabled = grind (arith, bits, enables_rda)

pub still_covered : (s : State) (op : Op) (asked : Asked) → acknowledges Rda (decode_in s op) ≡ false
    → RdaCoversHeldBytes s → RdaCoversHeldBytes (step s op asked)
still_covered s op asked other covered some enabled =
    let same = next_by_kind s op asked in
    ap (λ iir. has_bits iir 0x04) same.interrupt_identification
    ∙ covered_by_kind (decode_in s op) asked s other covered (ap not_empty (sym same.in_buffer) ∙ some)
    (ap (λ enable. has_bits enable 0x01) (sym same.interrupt_enable) ∙ enabled)

writes : (register : Register) (inside : Bool) (value : ℕ) → acknowledges Rda (decode_write register inside value) ≡ false
writes register inside value = grind arith

enqueues : (inside : Bool) (bytes : List ℕ) → acknowledges Rda (if inside then Other else RxInput bytes) ≡ false
enqueues inside bytes = grind arith

acknowledged : (call : UartCall) (s : State) → acknowledges_rda call s ≡ false → acknowledges Rda (decode_in s (op_of_call call)) ≡ false
acknowledged (UartRead offset effects) s other = other
acknowledged (UartWrite offset value effects) s other =
    writes (register_at (is_dlab s.line_control) offset) (is_loopback s.modem_control) value
acknowledged (UartEnqueue bytes effects) s other = enqueues (is_loopback s.modem_control) bytes
acknowledged (UartTimeout interrupts) s other = refl
acknowledged (UartRestore interrupts) s other = refl

pub uart_covers_law : UartCoversLaw
uart_covers_law call old new is other covered =
    subst RdaCoversHeldBytes (sym (step-of-call call old new is))
    (still_covered old (op_of_call call) Asked.Nothing (acknowledged call old other) covered)
