-- SPDX-License-Identifier: Apache-2.0 OR BSD-3-Clause
-- The history: what the operations so far say about a port, its state, what a guest reads, what the other calls
-- respond, the bytes read from the FIFO, and the output. It keeps no state, and nothing here names a step.
pub mod Interrupts
pub mod Registers
use Rattle.std.specs.Prelude.{◌≡◌, ⊤, ℕ, Bool, not, ◌==◌, ◌||◌, nat_le, if◌then◌else◌, List, [], ◌∷◌, ◌++◌, length}
use Rattle.std.specs.List.{list_all}
use Rattle.superio_laws.specs.Serial.{
  with_bits,
  without_bits,
  lsr_dr_bit,
  State,
  fifo_size,
  not_empty,
  Rda,
  Thre,
  register_at,
  identification_of,
  register_read,
  Asked,
  Sent,
  Op,
  Read,
  Write,
  Enqueue,
  CharacterTimeout,
  Restore,
  TraceEntry,
  Response,
  ByteRead,
  EnqueueOk,
  TimeoutOk,
  TriggerRefused,
  FifoFull,
  NoResponse,
  is_refused_at_once,
  is_lost,
  recorded_write_response,
  Trace,
  DecodedOp,
  RbrRead,
  sent_by,
  Event,
  buffer_read,
  out_byte,
  tx_lost_byte,
  in_buffer_empty,
}
pub use Rattle.superio_laws.specs.Serial.History.Registers.{
  decode_at,
  dlab_after,
  loopback_after,
  with_last_writes,
  accepted_by,
  held_bytes,
  read_out_bytes,
  value_written_at,
  last_found,
  read_out_by,
  remaining_bytes,
  accepted_bytes,
  ier_after,
}
pub use Rattle.superio_laws.specs.Serial.History.Interrupts.{
  is_pending,
  trigger_calls,
  decoded_ops,
  covers_waiting_bytes,
  is_fitting_entry,
  conditions_due_after,
  is_fitting,
  raises_rda,
  acknowledges,
  raises_thre,
  rda_raised,
  rda_pending,
  is_raised,
  is_call_due,
  has_waiting_bytes,
  pending_since,
  NoneAcknowledges,
  IsWithinBound,
  RdaCoversWaitingBytes,
  RdaFollowsTimeouts,
}

abbrev pub iir_after : (start : State) (trace : Trace) → ℕ
iir_after start trace = identification_of (is_pending Thre start trace) (is_pending Rda start trace)

-- LSR with data ready set or cleared
abbrev pub with_data_ready : (line_status : ℕ) (ready : Bool) → ℕ
with_data_ready line_status ready =
    if ready then with_bits line_status lsr_dr_bit else without_bits line_status lsr_dr_bit

-- the start's LSR, in which data ready says whether bytes are held
abbrev pub lsr_after : (start : State) (trace : Trace) → ℕ
lsr_after start trace = with_data_ready start.line_status (not_empty (held_bytes start trace))

-- the state that the history of a trace describes
abbrev pub state_of_history : (start : State) (trace : Trace) → State
state_of_history start trace = record (with_last_writes start trace) {
  interrupt_identification = iir_after start trace;
  line_status = lsr_after start trace;
  in_buffer = held_bytes start trace;
}

-- what a guest reads at an offset
abbrev pub guest_read : (start : State) (trace : Trace) (offset : ℕ) → ℕ
guest_read start trace offset =
    register_read (register_at (dlab_after start trace) offset) (state_of_history start trace)

-- the response to an enqueue: 0 in loopback or if no bytes are passed, else that the FIFO is full if 64 bytes are held,
-- else the trigger's refusal if there is one, and else how many bytes were accepted
abbrev pub enqueue_history_response :
    (start : State) (trace : Trace) (bytes : List ℕ) (asked : Asked) → Response
enqueue_history_response start trace bytes asked =
    if loopback_after start trace || (length bytes == 0) then EnqueueOk 0
    else (if nat_le fifo_size (length (held_bytes start trace)) then FifoFull
    else (if is_refused_at_once asked then TriggerRefused
    else EnqueueOk (length (accepted_by (decode_at start trace (Enqueue bytes)) (held_bytes start trace)))))

-- what any call responds. The response to a write follows from the trigger's answers and the outcome of its byte
abbrev pub history_response :
    (start : State) (trace : Trace) (op : Op) (asked : Asked) (sent : Sent) → Response
history_response start trace (Read offset) asked sent = ByteRead (guest_read start trace offset)
history_response start trace (Write offset value) asked sent = recorded_write_response asked sent
history_response start trace (Enqueue bytes) asked sent = enqueue_history_response start trace bytes asked
history_response start trace CharacterTimeout asked sent =
    if is_refused_at_once asked then TriggerRefused else TimeoutOk
history_response start trace Restore asked sent = NoResponse

-- each call of some entries, oldest first, responded as the history says
abbrev pub ResponsesAre : (start : State) (trace : Trace) (calls : List (TraceEntry × Response)) → Type 0
ResponsesAre start trace [] = ⊤
ResponsesAre start trace (call ∷ later) =
    (call.1 ≡ history_response start trace call.0.op call.0.asked call.0.sent)
    × ResponsesAre start (call.0 ∷ trace) later

-- the byte that a call gives a guest from the FIFO: the reply to an RBR read that is made while bytes are held
abbrev pub byte_read : (kind : DecodedOp) (held : List ℕ) (reply : Response) → List ℕ
byte_read RbrRead (oldest ∷ held) (ByteRead byte) = byte ∷ []
byte_read _ held reply = []

-- the bytes that some calls give a guest from the FIFO, oldest first
abbrev pub bytes_read : (start : State) (trace : Trace) (calls : List (TraceEntry × Response)) → List ℕ
bytes_read start trace [] = []
bytes_read start trace (call ∷ later) =
    byte_read (decode_at start trace call.0.op) (held_bytes start trace) call.1
    ++ bytes_read start (call.0 ∷ trace) later

-- the output of the newest entries, those before `trace` in the list: the values of their THR writes, in order
abbrev pub output : (start : State) (trace newest : Trace) → List ℕ
output start trace [] = []
output start trace (entry ∷ newest) =
    output start trace newest ++ sent_by (decode_at start (newest ++ trace) entry.op)

-- no byte is lost in these entries
abbrev pub none_lost : (newest : Trace) → Bool
none_lost newest = list_all (λ (entry : TraceEntry). not (is_lost entry.sent)) newest

-- ---- what a call does to the port's objects at each point of a trace: the events reported, and the trigger calls
-- made

-- an RBR read reports first that no byte is left, if none is, and then that the guest read. A byte that was sent is
-- reported as out or as lost
abbrev pub decoded_events : (kind : DecodedOp) (left : List ℕ) (sent : Sent) → List Event
decoded_events RbrRead left sent = (if not_empty left then [] else in_buffer_empty ∷ []) ++ buffer_read ∷ []
decoded_events kind left Sent.Nothing = []
decoded_events kind left Sent.Out = out_byte ∷ []
decoded_events kind left Sent.Lost = tx_lost_byte ∷ []

-- the events of an entry, with the bytes that are held after it
abbrev pub history_events : (start : State) (trace : Trace) (entry : TraceEntry) → List Event
history_events start trace entry =
    decoded_events (decode_at start trace entry.op) (held_bytes start (entry ∷ trace)) entry.sent

-- the trigger calls that an operation makes as long as none is refused
abbrev pub calls_due : (start : State) (trace : Trace) (op : Op) → ℕ
calls_due start trace op =
    trigger_calls start trace (record { op = op; asked = Asked.Nothing; sent = Sent.Nothing })
