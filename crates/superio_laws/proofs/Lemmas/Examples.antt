-- SPDX-License-Identifier: Apache-2.0 OR BSD-3-Clause
-- Worked examples of definitions that laws only suppose, or use as bounds. If such a definition were wrong, the laws
-- would say less, and no proof would fail.
pub mod GuestDriver
use Rattle.std.proofs.Common.{◌≡◌, ℕ, ◌≤◌, true, false, List, [], ◌∷◌, ◌++◌, length, map, count_by, pos, ◌-ℤ◌, refl, arith}
use Rattle.superio_laws.specs.Serial.{Asked, Sent, Coherent, State, fresh_state, Op, Read, Write, Enqueue, Response, ByteRead, WriteOk, EnqueueOk, Trace, TraceEntry, IerWrite, ThrWrite, is_iir_read, is_rbr_read, Rda, Thre, ReadEffects, conditions_due, has_bits, only_bits, with_bits}
use Rattle.superio_laws.specs.Serial.History.{held_bytes, read_out_bytes, decoded_ops, covers_waiting_bytes}
use Rattle.superio_laws.specs.Serial.Laws.Consequences.{polls, polls_after_data_ready}
use Rattle.superio_laws.specs.Serial.Laws.Line.{AreSimpleRuns, ReadOutAfterRunsLaw, may_lower_line}
use Rattle.superio_laws.specs.Serial.Laws.ListsOfOps.{asked_in, acknowledged_in, read_out_in}
use Rattle.superio_laws.specs.Serial.Laws.UartRun.{UartRead, UartTimeout, acknowledges_rda, UartCall, UartCallsFollow, ops_of_calls, trace_with, interrupts_to_raise, UartBoundLaw}
use Rattle.superio_laws.specs.Rtc.{RtcState, guest_time_in, host_time, may_set_time, Access, read, write, fresh_clock, guest_times_since_match, is_armed}

-- what a read of no event gives
abbrev none_read : ReadEffects
none_read = record { byte = 0; buffer_read = false; in_buffer_empty = false }

-- a clock that is 100 seconds behind the host's time
abbrev behind : RtcState
behind = record fresh_clock { offset = pos 0 -ℤ pos 100 }

-- ---- the bound on interrupts that a caller is told

five_told_with_two_reads : UartBoundLaw → (start end : State) (calls : List UartCall) → Coherent start
    → UartCallsFollow start calls end
    → count_by is_iir_read (decoded_ops start (trace_with [] (ops_of_calls calls))) ≡ 1
    → count_by is_rbr_read (decoded_ops start (trace_with [] (ops_of_calls calls))) ≡ 1
    → interrupts_to_raise calls ≤ 5
five_told_with_two_reads law start end calls coherent follow one taken =
    omega (arith, law start end calls coherent follow, one, taken)

-- ---- what the laws of waiting bytes, of drivers and of the line are about

enabling_shows_them : covers_waiting_bytes (IerWrite 0x01) [] ≡ true
enabling_shows_them = refl

-- as many runs as bytes are enough
as_many_runs : ReadOutAfterRunsLaw → (start : State) (before after : Trace)
    → AreSimpleRuns start (length (held_bytes start before)) before after
    → (more : List ℕ) × (read_out_bytes start after ≡ read_out_bytes start before ++ held_bytes start before ++ more)
as_many_runs law start before after runs = law start (length (held_bytes start before)) before after runs (omega arith)

sending_lowers_no_line : may_lower_line (ThrWrite 0x61) ≡ false
sending_lowers_no_line = refl

-- ---- a driver that polls, and one that reads RBR without looking at LSR

-- a call that calls no trigger and sends no byte, with its response
abbrev call : Op → Response → TraceEntry × Response
call op response = (record { op = op; asked = Asked.Nothing; sent = Sent.Nothing }, response)

abbrev reads : (offset byte : ℕ) → TraceEntry × Response
reads offset byte = call (Read offset) (ByteRead byte)

abbrev enqueue : (bytes : List ℕ) → TraceEntry × Response
enqueue bytes = call (Enqueue bytes) (EnqueueOk (length bytes))

-- the first driver reads one byte after data ready. The second driver reads a second byte without looking again
looks_before_it_reads :
    map (polls_after_data_ready fresh_state [] false) (
    (enqueue (0x61 ∷ []) ∷ reads 5 0x61 ∷ call (Write 7 0x12) WriteOk ∷ reads 0 0x61 ∷ reads 5 0x60 ∷ [])
    ∷ (enqueue (0x61 ∷ 0x62 ∷ []) ∷ reads 5 0x61 ∷ reads 0 0x61 ∷ reads 0 0x62 ∷ [])
    ∷ [])
    ≡ true ∷ false ∷ []
unfolding has_bits only_bits with_bits
looks_before_it_reads = refl

-- both reads of the first list were made while LSR would show data ready, although the driver did not look. The read of
-- the second list was not
reads_while_ready :
    map (polls fresh_state []) (
    (enqueue (0x61 ∷ 0x62 ∷ []) ∷ reads 0 0x61 ∷ reads 0 0x62 ∷ []) ∷ (reads 0 0x00 ∷ []) ∷ [])
    ≡ true ∷ false ∷ []
unfolding has_bits only_bits with_bits
reads_while_ready = refl

-- ---- the alarm of the clock

-- newest first: a match write of 5 when guest time is 3, and reads at 4 and at 6
abbrev reached_at_6 : List Access
reached_at_6 = read 0x000 6 ∷ read 0x000 4 ∷ write 0x004 5 3 ∷ []

reaches_its_match :
    guest_times_since_match fresh_clock reached_at_6 ∷ guest_times_since_match fresh_clock (write 0x004 9 7 ∷ reached_at_6) ∷ []
    ≡ (6 ∷ 4 ∷ []) ∷ [] ∷ []
reaches_its_match = refl

-- the read at 4 leaves it armed, that at 6 reaches it, and a match write of a time to come sets it again
armed_until_reached :
    is_armed fresh_clock (read 0x000 4 ∷ write 0x004 5 3 ∷ [])
    ∷ is_armed fresh_clock reached_at_6
    ∷ is_armed fresh_clock (write 0x004 9 7 ∷ reached_at_6)
    ∷ is_armed fresh_clock (write 0x004 7 7 ∷ reached_at_6)
    ∷ []
    ≡ true ∷ false ∷ true ∷ false ∷ []
armed_until_reached = refl

-- ---- lists of operations

-- a read of IIR acknowledges two conditions, and one of RBR one. The IER write and the byte ask once each
abbrev few : List Op
few = Write 1 0x03 ∷ Enqueue (0x61 ∷ []) ∷ Read 2 ∷ Read 0 ∷ Read 5 ∷ []

asks_and_acknowledges :
    asked_in fresh_state few ∷ acknowledged_in fresh_state few ∷ length (read_out_in fresh_state few) ∷ [] ≡ 2 ∷ 3 ∷ 1 ∷ []
unfolding has_bits only_bits with_bits
asks_and_acknowledges = refl

-- with DLAB set, offset 0 is not RBR
only_reads_acknowledge :
    acknowledges_rda (UartRead 2 none_read) fresh_state
    ∷ acknowledges_rda (UartRead 0 none_read) fresh_state
    ∷ acknowledges_rda (UartRead 0 none_read) (record fresh_state { line_control = 0x80 })
    ∷ acknowledges_rda (UartTimeout 0) fresh_state
    ∷ []
    ≡ true ∷ true ∷ false ∷ false ∷ []
unfolding has_bits
only_reads_acknowledge = refl

-- ---- guest time

set_by_two_registers :
    map may_set_time (write 0x008 5 0 ∷ write 0x00C 1 0 ∷ write 0x004 5 0 ∷ read 0x008 0 ∷ []) ≡ true ∷ true ∷ false ∷ false ∷ []
set_by_two_registers = refl

-- a counter that is negative shows the host's time, and then begins at 0: so guest time goes back there
goes_back_to_0 :
    guest_time_in behind (host_time 99) ∷ guest_time_in behind (host_time 100) ∷ guest_time_in behind (host_time 101) ∷ []
    ≡ 99 ∷ 0 ∷ 1 ∷ []
goes_back_to_0 = refl

-- ---- restores

-- it calls for THRE first
both_due : conditions_due (record fresh_state { interrupt_identification = 0x06; interrupt_enable = 0x03 }) ≡ Thre ∷ Rda ∷ []
unfolding has_bits
both_due = refl
