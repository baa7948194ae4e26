-- SPDX-License-Identifier: Apache-2.0 OR BSD-3-Clause
-- The serial port's part of a script: its lines, and the replies to them, by the history. The replies depend only on
-- these lines, on the mask, and on what a script leaves open: which bytes are lost, and what `so` prints after a loss.
use Rattle.std.specs.Prelude.{◌≡◌, ◌≤◌, ℕ, zero, suc, ◌+◌, ◌-◌, Bool, true, false, not, if◌then◌else◌, List, [], ◌∷◌, ◌++◌, length, drop, count_by, codes, nat_le, IsTrue}
use Rattle.std.specs.Int.{w8}
use Rattle.std.specs.List.{list_all}
use Rattle.vm_superio.specs.Serial.{fifo_size, SerialView, State, Asked, Sent, Op, Read, Write, Enqueue, Restore, TraceEntry, Trace, answer_count, ends_in_refusal, sent_by, Event, buffer_read, out_byte, tx_lost_byte, in_buffer_empty, fresh_state, not_empty}
use Rattle.superio_core.specs.Serial.Operations.{Response, ByteRead, WriteOk, EnqueueOk, TimeoutOk, TriggerRefused, WriterFailed, FifoFull, OutOfMemory, NoResponse}
use Rattle.superio_laws.specs.Serial.History.{decode_at, dlab_after, held_bytes, guest_read, none_lost, output, history_events, history_response, calls_due, conditions_due_after, state_of_history, is_fitting}
use Rattle.superio_script.specs.Fields.{Syntax, number, bytes, end}
use Rattle.board_objects.specs.Objects.{is_call_refused, output_limit, written_bytes, saturated}
use Rattle.board_objects.specs.declared.Line.{Line}
use Rattle.board_objects.specs.declared.Counts.{Counts}
use Rattle.board_objects.specs.declared.Output.{Output}
use Rattle.superio_script.specs.Reply.{with_lf, digits_reply, count_digits}
pub use Rattle.superio_script.specs.declared.serial_lines.SerialCommand.{SerialCommand}
use Rattle.superio_script.specs.declared.serial_lines.SerialCommand.TheVariants as serial

-- ---- the lines

abbrev pub serial_syntaxes : List (Syntax SerialCommand)
serial_syntaxes =
    (codes "sr", number w8 (λ offset. end (serial.Read offset)))
    ∷ (codes "sw", number w8 (λ offset. number w8 (λ value. end (serial.Write offset value))))
    ∷ (codes "sq", bytes (λ value. end (serial.Enqueue value)))
    ∷ (codes "sc", end serial.Capacity)
    ∷ (codes "sd", end serial.Drain)
    ∷ (codes "ss", end serial.Restore)
    ∷ (codes "so", end serial.Output)
    ∷ (codes "st", end serial.Calls)
    ∷ (codes "se", end serial.Events)
    ∷ []

-- ---- what a call replies, and what the counts show

-- the reply to a call of the serial port with this response
abbrev pub response_reply : (response : Response) → List ℕ
response_reply (ByteRead byte) = digits_reply (byte ∷ [])
response_reply WriteOk = with_lf (codes "ok")
response_reply (EnqueueOk count) = digits_reply (count ∷ [])
response_reply TriggerRefused = with_lf (codes "trigger")
response_reply WriterFailed = with_lf (codes "io")
response_reply FifoFull = with_lf (codes "full")
-- no line makes a call with these responses
response_reply TimeoutOk = []
response_reply OutOfMemory = []
response_reply NoResponse = []

-- the four counts of a serial port's events, with one space between two
abbrev pub counts_reply : (counts : Counts) → List ℕ
counts_reply counts =
    with_lf (count_digits counts.buffer_reads ++ 32 ∷ count_digits counts.out_bytes
    ++ 32 ∷ count_digits counts.tx_lost_bytes ++ 32 ∷ count_digits counts.in_buffer_empties)

-- ---- a board's serial port after a trace, which has the calls and the accepted restores since the port was fresh,
-- newest first

-- how many trigger calls an entry made: a restore makes all that are due, and another call as many as were answered
abbrev pub calls_of_entry : (trace : Trace) (op : Op) (asked : Asked) → ℕ
calls_of_entry trace Restore asked = length (conditions_due_after fresh_state trace)
calls_of_entry trace op asked = answer_count asked

-- how often the interrupt line was called
abbrev pub calls_made : (trace : Trace) → ℕ
calls_made [] = 0
calls_made (entry ∷ trace) = calls_made trace + calls_of_entry trace entry.op entry.asked

-- the interrupt line with this mask after this many calls
abbrev pub interrupt_line_after : (mask calls : ℕ) → Line
interrupt_line_after mask calls = record { calls = saturated calls; mask = mask }

-- the events reported, oldest first
abbrev pub events_reported : (trace : Trace) → List Event
events_reported [] = []
events_reported (entry ∷ trace) = events_reported trace ++ history_events fresh_state trace entry

abbrev pub is_event : (name event : Event) → Bool
is_event buffer_read buffer_read = true
is_event out_byte out_byte = true
is_event tx_lost_byte tx_lost_byte = true
is_event in_buffer_empty in_buffer_empty = true
is_event _ _ = false

-- how often each event was reported. A serial port reports none of the clock's events
abbrev pub counts_of : (events : List Event) → Counts
counts_of events = record {
  buffer_reads = saturated (count_by (is_event buffer_read) events);
  out_bytes = saturated (count_by (is_event out_byte) events);
  tx_lost_bytes = saturated (count_by (is_event tx_lost_byte) events);
  in_buffer_empties = saturated (count_by (is_event in_buffer_empty) events);
  invalid_reads = 0;
  invalid_writes = 0;
}

-- ---- what a script leaves open

-- the outcome of a byte that a line sends: the output took it, or had no room
pub data Outcome : Type 0 where
  Out : Outcome
  Lost : Outcome

-- how many bytes go out before the first is lost
abbrev pub out_before_loss : (outcomes : List Outcome) → ℕ
out_before_loss [] = 0
out_before_loss (Out ∷ outcomes) = 1 + out_before_loss outcomes
out_before_loss (Lost ∷ outcomes) = 0

abbrev pub outcome_of_sent : (sent : Sent) → List Outcome
outcome_of_sent Sent.Nothing = []
outcome_of_sent Sent.Out = Out ∷ []
outcome_of_sent Sent.Lost = Lost ∷ []

-- the outcomes of the bytes that a trace sent, oldest first
abbrev pub outcomes_of : (trace : Trace) → List Outcome
outcomes_of [] = []
outcomes_of (entry ∷ trace) = outcomes_of trace ++ outcome_of_sent entry.sent

-- the next outcome in the list. Once the list is used up, each byte is lost
abbrev pub next_outcome : (outcomes : List Outcome) → Outcome
next_outcome [] = Lost
next_outcome (outcome ∷ outcomes) = outcome

-- what the next `so` after a loss prints
abbrev pub next_printed : (printed : List (List ℕ)) → List ℕ
next_printed [] = []
next_printed (bytes ∷ printed) = bytes

-- none of these lists has more bytes than fit in the output
abbrev pub all_short : (printed : List (List ℕ)) → Bool
all_short printed = list_all (λ bytes. nat_le (length bytes) output_limit) printed

-- ---- a call after a trace

-- the interrupt line's answers to `calls` calls, which are at most two. `number` is the number of the first call. A
-- refusal is the last answer
abbrev pub trigger_answers : (mask number calls : ℕ) → Asked
trigger_answers mask number zero = Asked.Nothing
trigger_answers mask number (suc zero) = if is_call_refused mask number then Asked.Refused else Asked.Took
trigger_answers mask number (suc (suc more)) =
    if is_call_refused mask number then Asked.Refused
    else (if is_call_refused mask (number + 1) then Asked.TookRefused else Asked.TookTook)

-- whether a call sends a byte
abbrev pub sends : (trace : Trace) (op : Op) → Bool
sends trace op = not_empty (sent_by (decode_at fresh_state trace op))

-- the outcome that an entry has. It has none if no byte is sent
abbrev pub sent_with : (sends : Bool) (outcome : Outcome) → Sent
sent_with false outcome = Sent.Nothing
sent_with true Out = Sent.Out
sent_with true Lost = Sent.Lost

-- the entry of a call: the interrupt line answers the calls that are due, and a byte that is sent has this outcome
abbrev pub call_entry : (mask : ℕ) (trace : Trace) (outcome : Outcome) (op : Op) → TraceEntry
call_entry mask trace outcome op = record {
  op = op;
  asked = trigger_answers mask (calls_made trace) (calls_due fresh_state trace op);
  sent = sent_with (sends trace op) outcome;
}

-- the reply to an entry's call
abbrev pub entry_reply : (trace : Trace) (entry : TraceEntry) → List ℕ
entry_reply trace entry = response_reply (history_response fresh_state trace entry.op entry.asked entry.sent)

-- ---- a drain and a restore after a trace

abbrev pub rbr_read_entry : TraceEntry
rbr_read_entry = record { op = Read 0; asked = Asked.Nothing; sent = Sent.Nothing }

-- the trace after `count` more RBR reads
abbrev pub after_rbr_reads : (count : ℕ) (trace : Trace) → Trace
after_rbr_reads zero trace = trace
after_rbr_reads (suc count) trace = after_rbr_reads count (rbr_read_entry ∷ trace)

-- the bytes that a driver gets: none if DLAB is set, and otherwise all that are held
abbrev pub drained_bytes : (trace : Trace) → List ℕ
drained_bytes trace = if dlab_after fresh_state trace then [] else held_bytes fresh_state trace

abbrev pub restore_entry : TraceEntry
restore_entry = record { op = Restore; asked = Asked.Nothing; sent = Sent.Nothing }

-- the interrupt line refuses one of the calls that are due for a restore
abbrev pub is_restore_refused : (mask : ℕ) (trace : Trace) → Bool
is_restore_refused mask trace =
    ends_in_refusal (trigger_answers mask (calls_made trace) (length (conditions_due_after fresh_state trace)))

-- ---- the replies to lines

-- what a line that makes no call shows: how many more bytes fit, how often the interrupt line was called, or the counts
-- of events. For the other lines `serial_reply` says what they show
abbrev pub shown : (line : SerialCommand) (state : State) (interrupt_line : Line) (counts : Counts) → List ℕ
shown serial.Capacity state interrupt_line counts = digits_reply ((fifo_size - length state.in_buffer) ∷ [])
shown serial.Calls state interrupt_line counts = with_lf (count_digits interrupt_line.calls)
shown serial.Events state interrupt_line counts = counts_reply counts
shown _ state interrupt_line counts = []

-- the reply to a line after a trace. `outcome` is the outcome of the byte that the line sends, if it sends one, and
-- `printed` is what the line prints if it is an `so` after a loss
abbrev pub serial_reply :
    (mask : ℕ) (trace : Trace) (outcome : Outcome) (printed : List ℕ) (line : SerialCommand) → List ℕ
serial_reply mask trace outcome printed (serial.Read offset) =
    digits_reply (guest_read fresh_state trace offset ∷ [])
serial_reply mask trace outcome printed (serial.Write offset value) =
    entry_reply trace (call_entry mask trace outcome (Write offset value))
serial_reply mask trace outcome printed (serial.Enqueue bytes) =
    entry_reply trace (call_entry mask trace outcome (Enqueue bytes))
serial_reply mask trace outcome printed serial.Drain = digits_reply (drained_bytes trace)
serial_reply mask trace outcome printed serial.Restore =
    with_lf (if is_restore_refused mask trace then codes "trigger" else codes "ok")
serial_reply mask trace outcome printed serial.Output =
    digits_reply (if none_lost trace then output fresh_state [] trace else printed)
serial_reply mask trace outcome printed line =
    shown line (state_of_history fresh_state trace) (interrupt_line_after mask (calls_made trace))
    (counts_of (events_reported trace))

-- the trace after a line. A refused restore changes nothing
abbrev pub trace_after_line : (mask : ℕ) (trace : Trace) (outcome : Outcome) (line : SerialCommand) → Trace
trace_after_line mask trace outcome (serial.Read offset) = call_entry mask trace outcome (Read offset) ∷ trace
trace_after_line mask trace outcome (serial.Write offset value) =
    call_entry mask trace outcome (Write offset value) ∷ trace
trace_after_line mask trace outcome (serial.Enqueue bytes) = call_entry mask trace outcome (Enqueue bytes) ∷ trace
trace_after_line mask trace outcome serial.Drain = after_rbr_reads (length (drained_bytes trace)) trace
trace_after_line mask trace outcome serial.Restore =
    if is_restore_refused mask trace then trace else restore_entry ∷ trace
trace_after_line mask trace outcome _ = trace

-- whether a line sends a byte
abbrev pub line_sends : (trace : Trace) (line : SerialCommand) → Bool
line_sends trace (serial.Read offset) = sends trace (Read offset)
line_sends trace (serial.Write offset value) = sends trace (Write offset value)
line_sends trace (serial.Enqueue bytes) = sends trace (Enqueue bytes)
line_sends trace _ = false

-- whether a line is an `so` after a loss
abbrev pub prints_after_loss : (trace : Trace) (line : SerialCommand) → Bool
prints_after_loss trace serial.Output = not (none_lost trace)
prints_after_loss trace _ = false

-- the replies to lines, in order. Each line that sends a byte takes the next of the outcomes, and each `so` after a
-- loss takes the next list of printed bytes
abbrev pub serial_replies :
    (mask : ℕ) (trace : Trace) (lines : List SerialCommand) (outcomes : List Outcome) (printed : List (List ℕ))
    → List (List ℕ)
serial_replies mask trace [] outcomes printed = []
serial_replies mask trace (line ∷ lines) outcomes printed =
    let outcome = next_outcome outcomes in
    serial_reply mask trace outcome (next_printed printed) line
    ∷ serial_replies mask (trace_after_line mask trace outcome line) lines
    (if line_sends trace line then drop 1 outcomes else outcomes)
    (if prints_after_loss trace line then drop 1 printed else printed)

-- ---- what a contract sees of a board's serial port, and of one line on it

-- a board's serial port after this trace, with this mask of its interrupt line. The history gives its state and its
-- objects, but it gives the output only while no byte is lost. Before the first loss the output takes at most 256 bytes
pub record IsAfter (mask : ℕ) (trace : Trace) (port : SerialView Line Counts Output) : Type 0 where
  pub state : port.state ≡ state_of_history fresh_state trace
  pub interrupt_line : port.trigger ≡ interrupt_line_after mask (calls_made trace)
  pub counts : port.events ≡ counts_of (events_reported trace)
  pub output : IsTrue (none_lost trace) → written_bytes port.out ≡ output fresh_state [] trace
  pub fitting : IsTrue (is_fitting fresh_state trace)
  pub within_room : out_before_loss (outcomes_of trace) ≤ output_limit

-- what a line of the serial port does after a trace: for some outcome and some printed bytes, the trace gives the
-- reply, and the port is then one after the longer trace
pub record SerialLineStep
    (mask : ℕ) (trace : Trace) (line : SerialCommand) (reply : List ℕ) (new : SerialView Line Counts Output) :
    Type 0 where
  pub outcome : Outcome
  pub printed : List ℕ
  pub short : length printed ≤ output_limit
  pub replied : reply ≡ serial_reply mask trace outcome printed line
  pub after : IsAfter mask (trace_after_line mask trace outcome line) new

-- `SerialLineStep` holds after every trace that leads to the port
abbrev pub IsSerialLineStep : (line : SerialCommand) (reply : List ℕ) (old new : SerialView Line Counts Output) → Type 0
IsSerialLineStep line reply old new =
    (mask : ℕ) (trace : Trace) → IsAfter mask trace old → SerialLineStep mask trace line reply new
