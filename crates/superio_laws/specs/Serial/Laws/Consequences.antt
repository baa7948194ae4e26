-- SPDX-License-Identifier: Apache-2.0 OR BSD-3-Clause
-- The laws that follow from the history alone, from any start.
use Rattle.std.specs.Prelude.{◌≡◌, ◌↔◌, ◌⊎◌, ℕ, List, [], ◌∷◌, ◌++◌, IsTrue, Bool, true, false, not, ◌==◌, ◌&&◌, ◌||◌}
use Rattle.superio_laws.specs.Serial.{Asked, Op, Restore, TraceEntry, Response, Trace, Read, ByteRead, DecodedOp, RbrRead, is_rbr_read, has_bits, State, lsr_dr_bit, Condition, iir_bit}
use Rattle.superio_laws.specs.Serial.{bytes_sent}
use Rattle.superio_laws.specs.Serial.History.{guest_read, ResponsesAre, bytes_read, output, accepted_bytes, read_out_bytes, held_bytes, decode_at, acknowledges, is_raised, is_pending, is_fitting, NoneAcknowledges, IsWithinBound, RdaCoversWaitingBytes}
use Rattle.superio_laws.specs.Serial.{trace_after}

-- ---- pending

-- raised at some point, or pending at the start, and acknowledged at no later point
abbrev pub PendingByPrefixes : (condition : Condition) (start : State) (trace : Trace) → Type 0
PendingByPrefixes condition start trace =
    ((after before : Trace) × (entry : TraceEntry) × (trace ≡ after ++ entry ∷ before)
    × IsTrue (is_raised condition start before entry)
    × NoneAcknowledges start (acknowledges condition) after (entry ∷ before))
    ⊎ (IsTrue (has_bits start.interrupt_identification (iir_bit condition))
    × NoneAcknowledges start (acknowledges condition) trace [])

-- `is_pending`, a search from the newest entry back, decides it
abbrev pub PendingByPrefixesLaw : Type 0
PendingByPrefixesLaw = (condition : Condition) (start : State) (trace : Trace)
    → IsTrue (is_pending condition start trace) ↔ PendingByPrefixes condition start trace

-- ---- trigger calls

abbrev pub TriggerBoundLaw : Type 0
TriggerBoundLaw =
    (start : State) (trace : Trace) → IsTrue (is_fitting start trace) → IsWithinBound start trace

abbrev pub WaitingBytesLaw : Type 0
WaitingBytesLaw = (start : State) (trace : Trace) → RdaCoversWaitingBytes start trace

-- ---- reads

-- an operation with the trigger's answers, unless it is a restore
abbrev pub op_and_asked : (op : Op) (asked : Asked) → List (Op × Asked)
op_and_asked Restore asked = []
op_and_asked op asked = (op, asked) ∷ []

abbrev pub ops_and_asked : (trace : Trace) → List (Op × Asked)
ops_and_asked [] = []
ops_and_asked (entry ∷ trace) = op_and_asked entry.op entry.asked ++ ops_and_asked trace

-- neither the writer nor a restore changes a read: it depends only on the operations and the trigger's answers
abbrev pub SameReadsLaw : Type 0
SameReadsLaw = (start : State) (one other : Trace) → ops_and_asked one ≡ ops_and_asked other
    → (offset : ℕ) → guest_read start one offset ≡ guest_read start other offset

-- ---- bytes

-- no byte is lost or made up: those taken, followed by those held, are those held at the start, followed by those
-- accepted
abbrev pub ReadOutThenHeldLaw : Type 0
ReadOutThenHeldLaw = (start : State) (trace : Trace)
    → read_out_bytes start trace ++ held_bytes start trace ≡ start.in_buffer ++ accepted_bytes start trace

-- the bytes that calls give a guest from the FIFO are the bytes that these calls take from it
abbrev pub RepliesAreReadOutLaw : Type 0
RepliesAreReadOutLaw = (start : State) (trace : Trace) (calls : List (TraceEntry × Response))
    → ResponsesAre start trace calls
    → read_out_bytes start trace ++ bytes_read start trace calls ≡ read_out_bytes start (trace_after trace calls)

-- so the bytes read, followed by those held, are those held at the start, followed by those accepted
abbrev pub ReadThenHeldLaw : Type 0
ReadThenHeldLaw = (start : State) (calls : List (TraceEntry × Response)) → ResponsesAre start [] calls
    → bytes_read start [] calls ++ held_bytes start (trace_after [] calls)
    ≡ start.in_buffer ++ accepted_bytes start (trace_after [] calls)

-- the bytes that are recorded as sent, in order
abbrev pub recorded_output : (newest : Trace) → List ℕ
recorded_output [] = []
recorded_output (entry ∷ newest) = recorded_output newest ++ bytes_sent entry.op entry.sent

-- the bytes that the newest entries of a fitting trace record as sent are the output
abbrev pub OutputLaw : Type 0
OutputLaw = (start : State) (trace newest : Trace) → IsTrue (is_fitting start (newest ++ trace))
    → recorded_output newest ≡ output start trace newest

-- ---- a driver that polls: what a guest gets that reads RBR only if LSR has shown data ready

-- the bytes that the driver gets: the reply to each RBR read, oldest first
abbrev pub driver_byte : (kind : DecodedOp) (reply : Response) → List ℕ
driver_byte RbrRead (ByteRead byte) = byte ∷ []
driver_byte _ reply = []

abbrev pub driver_bytes : (start : State) (trace : Trace) (calls : List (TraceEntry × Response)) → List ℕ
driver_bytes start trace [] = []
driver_bytes start trace (call ∷ later) =
    driver_byte (decode_at start trace call.0.op) call.1 ++ driver_bytes start (call.0 ∷ trace) later

-- ---- data ready shows at each RBR read

-- each RBR read is made while a read of LSR would show data ready. Other calls play no part
abbrev pub polls : (start : State) (trace : Trace) (calls : List (TraceEntry × Response)) → Bool
polls start trace [] = true
polls start trace (call ∷ later) =
    (not (is_rbr_read (decode_at start trace call.0.op)) || has_bits (guest_read start trace 5) lsr_dr_bit)
    && polls start (call.0 ∷ trace) later

-- what the driver has got, followed by what is held, is what was held at the start, followed by what was accepted. So
-- the driver loses no byte, and gets none that was not there
abbrev pub PollingDriverLaw : Type 0
PollingDriverLaw = (start : State) (calls : List (TraceEntry × Response)) → ResponsesAre start [] calls
    → IsTrue (polls start [] calls)
    → driver_bytes start [] calls ++ held_bytes start (trace_after [] calls)
    ≡ start.in_buffer ++ accepted_bytes start (trace_after [] calls)

-- if LSR does not show data ready in the end, the driver has got all of these bytes
abbrev pub DriverGetsAllLaw : Type 0
DriverGetsAllLaw = (start : State) (calls : List (TraceEntry × Response)) → ResponsesAre start [] calls
    → IsTrue (polls start [] calls) → has_bits (guest_read start (trace_after [] calls) 5) lsr_dr_bit ≡ false
    → driver_bytes start [] calls ≡ start.in_buffer ++ accepted_bytes start (trace_after [] calls)

-- ---- as the driver sees it

-- a read of LSR shows data ready
abbrev pub shows_data_ready : (op : Op) (reply : Response) → Bool
shows_data_ready (Read offset) (ByteRead byte) = (offset == 5) && has_bits byte lsr_dr_bit
shows_data_ready op reply = false

-- the driver reads RBR only if a read of LSR has shown data ready since its previous RBR read
abbrev pub polls_after_data_ready :
    (start : State) (trace : Trace) (seen : Bool) (calls : List (TraceEntry × Response)) → Bool
polls_after_data_ready start trace seen [] = true
polls_after_data_ready start trace seen (call ∷ later) =
    let reads = is_rbr_read (decode_at start trace call.0.op) in
    (not reads || seen)
    && polls_after_data_ready start (call.0 ∷ trace) (not reads && (seen || shows_data_ready call.0.op call.1)) later

-- only an RBR read takes a byte, so data ready still shows at the next one
abbrev pub PollsAfterDataReadyLaw : Type 0
PollsAfterDataReadyLaw = (start : State) (calls : List (TraceEntry × Response)) → ResponsesAre start [] calls
    → IsTrue (polls_after_data_ready start [] false calls) → IsTrue (polls start [] calls)
