-- SPDX-License-Identifier: Apache-2.0 OR BSD-3-Clause
-- The history of interrupts: conditions raised and pending, trigger calls due, and fitting traces.
use Rattle.std.specs.Prelude.{◌≡◌, ℕ, ◌+◌, ◌*◌, ◌≤◌, Bool, true, false, not, ◌==◌, ◌&&◌, ◌||◌, List, [], ◌∷◌, ◌++◌, sum_by, count_by, IsTrue}
use Rattle.std.specs.Bool.{beq, IsFalse}
use Rattle.superio_laws.specs.Serial.{has_bits, State, not_empty, Condition, Rda, Thre, ier_bit, iir_bit, pending_in_order, CharacterTimeout, TraceEntry, is_refused_at_once, is_sent, answer_count, count_if, Trace, DecodedOp, IerWrite, ThrWrite, Timeout, sent_by, is_iir_read, is_rbr_read}
use Rattle.superio_laws.specs.Serial.History.Registers.{accepted_by, decode_at, ier_after, held_bytes}

-- ---- raised, acknowledged and pending

-- an IIR read acknowledges both; an RBR read acknowledges RDA, even if it takes nothing
abbrev pub acknowledges : (condition : Condition) (kind : DecodedOp) → Bool
acknowledges Rda kind = is_iir_read kind || is_rbr_read kind
acknowledges Thre kind = is_iir_read kind

-- the newest entry that raises or acknowledges the condition raises it, or no entry does and it was pending at the
-- start
abbrev pub pending_since :
    (condition : Condition) (start : State) (raises : Trace → TraceEntry → Bool) (trace : Trace) → Bool
pending_since condition start raises [] = has_bits start.interrupt_identification (iir_bit condition)
pending_since condition start raises (entry ∷ trace) =
    raises trace entry
    || (not (acknowledges condition (decode_at start trace entry.op)) && pending_since condition start raises trace)

-- RDA is raised by an IER write whose value has its bit while bytes are held, by a character timeout while bytes are
-- held and IER has the bit, and by an operation that accepts a byte while IER has the bit
abbrev pub raises_rda : (kind : DecodedOp) (held : List ℕ) (enable : ℕ) → Bool
raises_rda (IerWrite value) held enable = has_bits value (ier_bit Rda) && not_empty held
raises_rda Timeout held enable = has_bits enable (ier_bit Rda) && not_empty held
raises_rda kind held enable = not_empty (accepted_by kind held) && has_bits enable (ier_bit Rda)

-- THRE is raised by a THR write outside loopback while IER has its bit, and by an IER write whose value has the bit
-- unless the trigger refused its call for RDA
abbrev pub raises_thre : (kind : DecodedOp) (enable : ℕ) (refused : Bool) → Bool
raises_thre (ThrWrite value) enable refused = has_bits enable (ier_bit Thre)
raises_thre (IerWrite value) enable refused = has_bits value (ier_bit Thre) && not refused
raises_thre _ enable refused = false

-- RDA comes first, since raising THRE depends on it
abbrev pub rda_raised : (start : State) (trace : Trace) (entry : TraceEntry) → Bool
rda_raised start trace entry =
    raises_rda (decode_at start trace entry.op) (held_bytes start trace) (ier_after start trace)

abbrev pub rda_pending : (start : State) (trace : Trace) → Bool
rda_pending start trace = pending_since Rda start (rda_raised start) trace

-- whether a condition is raised or pending, with the condition as a parameter: `is_raised Rda` is `rda_raised`, and
-- `is_pending Rda` is `rda_pending`
abbrev pub is_raised : (condition : Condition) (start : State) (trace : Trace) (entry : TraceEntry) → Bool
is_raised Rda start trace entry = rda_raised start trace entry
is_raised Thre start trace entry =
    raises_thre (decode_at start trace entry.op) (ier_after start trace)
    (rda_raised start trace entry && not (rda_pending start trace) && is_refused_at_once entry.asked)

abbrev pub is_pending : (condition : Condition) (start : State) (trace : Trace) → Bool
is_pending condition start trace = pending_since condition start (is_raised condition start) trace

-- a trigger call is due if a condition is raised and was not pending
abbrev pub is_call_due : (condition : Condition) (start : State) (trace : Trace) (entry : TraceEntry) → Bool
is_call_due condition start trace entry =
    is_raised condition start trace entry && not (is_pending condition start trace)

-- ---- trigger calls, and fitting traces

-- one trigger call for each condition that becomes pending; a restore raises nothing
abbrev pub trigger_calls : (start : State) (trace : Trace) (entry : TraceEntry) → ℕ
trigger_calls start trace entry =
    count_if (is_call_due Rda start trace entry) + count_if (is_call_due Thre start trace entry)

-- there are as many answers as trigger calls, and an outcome exactly if a byte is sent
abbrev pub is_fitting_entry : (start : State) (trace : Trace) (entry : TraceEntry) → Bool
is_fitting_entry start trace entry =
    (answer_count entry.asked == trigger_calls start trace entry)
    && beq (is_sent entry.sent) (not_empty (sent_by (decode_at start trace entry.op)))

abbrev pub is_fitting : (start : State) (trace : Trace) → Bool
is_fitting start [] = true
is_fitting start (entry ∷ trace) = is_fitting_entry start trace entry && is_fitting start trace

-- a restore calls the trigger once for each condition that is pending and enabled, THRE first, up to the first refusal
abbrev pub conditions_due_after : (start : State) (trace : Trace) → List Condition
conditions_due_after start trace =
    pending_in_order (is_pending Thre start trace && has_bits (ier_after start trace) (ier_bit Thre))
    (is_pending Rda start trace && has_bits (ier_after start trace) (ier_bit Rda))

-- ---- what holds of a trace as a whole

-- what the operations of a trace meant at their points, newest first
abbrev pub decoded_ops : (start : State) (trace : Trace) → List DecodedOp
decoded_ops start [] = []
decoded_ops start (entry ∷ trace) = decode_at start trace entry.op ∷ decoded_ops start trace

-- the trigger calls outside restores are at most two, plus two for each IIR read and one for each RBR read
abbrev pub IsWithinBound : (start : State) (trace : Trace) → Type 0
IsWithinBound start trace =
    sum_by (λ (entry : TraceEntry). answer_count entry.asked) trace
    ≤ 2 + 2 * count_by is_iir_read (decoded_ops start trace) + count_by is_rbr_read (decoded_ops start trace)

-- none of the newest entries, those before `trace` in the list, acknowledges
abbrev pub NoneAcknowledges :
    (start : State) (acknowledges : DecodedOp → Bool) (newest trace : Trace) → Type 0
NoneAcknowledges start acknowledges newest trace =
    (after before : Trace) (entry : TraceEntry) → newest ≡ after ++ entry ∷ before
    → IsFalse (acknowledges (decode_at start (before ++ trace) entry.op))

-- an operation that accepts a byte, an IER write, or a character timeout
abbrev pub covers_waiting_bytes : (kind : DecodedOp) (held : List ℕ) → Bool
covers_waiting_bytes (IerWrite value) held = true
covers_waiting_bytes Timeout held = true
covers_waiting_bytes kind held = not_empty (accepted_by kind held)

-- if an operation of these kinds was made, and neither IIR nor RBR was read since, RDA is pending if bytes are held and
-- IER enables it
abbrev pub RdaCoversWaitingBytes : (start : State) (trace : Trace) → Type 0
RdaCoversWaitingBytes start trace =
    (after before : Trace) (entry : TraceEntry) → trace ≡ after ++ entry ∷ before
    → IsTrue (covers_waiting_bytes (decode_at start before entry.op) (held_bytes start before))
    → NoneAcknowledges start (acknowledges Rda) after (entry ∷ before)
    → IsTrue (not_empty (held_bytes start trace))
    → IsTrue (has_bits (ier_after start trace) (ier_bit Rda))
    → IsTrue (is_pending Rda start trace)

-- IER enables RDA, and bytes are held
abbrev pub has_waiting_bytes : (start : State) (trace : Trace) → Bool
has_waiting_bytes start trace =
    has_bits (ier_after start trace) (ier_bit Rda) && not_empty (held_bytes start trace)

-- after each character timeout that finds bytes held and RDA enabled, RDA is pending. The trigger was called once for
-- it if RDA was not pending before, and otherwise not at all; a refused call counts
abbrev pub RdaFollowsTimeouts : (start : State) (trace : Trace) → Type 0
RdaFollowsTimeouts start trace =
    (after before : Trace) (entry : TraceEntry) → trace ≡ after ++ entry ∷ before → entry.op ≡ CharacterTimeout
    → (IsTrue (has_waiting_bytes start before) → IsTrue (is_pending Rda start (entry ∷ before)))
    × (answer_count entry.asked ≡ count_if (has_waiting_bytes start before && not (is_pending Rda start before)))
