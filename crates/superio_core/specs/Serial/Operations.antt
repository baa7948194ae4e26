-- SPDX-License-Identifier: Apache-2.0 OR BSD-3-Clause
-- The operations on a serial port, their responses, the events that the port reports, the entries of a trace, and what
-- an operation means for bytes and interrupts.
use Rattle.std.specs.Prelude.{ℕ, Bool, true, false, ◌==◌, ◌&&◌, if◌then◌else◌, List, [], ◌∷◌, ◌++◌}
pub use Rattle.superio_core.specs.declared.serial.Asked.{Asked}
pub use Rattle.superio_core.specs.declared.serial.Sent.{Sent}
use Rattle.superio_core.specs.declared.serial.ReadEffects.{ReadEffects}
use Rattle.superio_core.specs.Serial.RegisterMap.{Register, Data, Ier, Iir, register_at}

-- an operation, without the objects of a restore
pub data Op : Type 0 where
  Read : (offset : ℕ) → Op
  Write : (offset value : ℕ) → Op
  Enqueue : (bytes : List ℕ) → Op
  -- the time of a few characters has passed without a read or a new byte
  CharacterTimeout : Op
  Restore : Op

-- an entry of a trace: the operation, the trigger's answers to its calls, and the outcome of
-- the byte that it sent to the writer
pub record TraceEntry : Type 0 where
  pub op : Op
  pub asked : Asked
  pub sent : Sent

abbrev pub Trace : Type 0
Trace = List TraceEntry

-- what a call responds; nothing is stated about a restore's response
pub data Response : Type 0 where
  ByteRead : (byte : ℕ) → Response
  WriteOk : Response
  EnqueueOk : (count : ℕ) → Response
  TimeoutOk : Response
  TriggerRefused : Response
  WriterFailed : Response
  FifoFull : Response
  OutOfMemory : Response
  NoResponse : Response

-- the trace with further entries, oldest first, each with its response
abbrev pub trace_after : (trace : Trace) (later : List (TraceEntry × Response)) → Trace
trace_after trace [] = trace
trace_after trace (next ∷ later) = trace_after (next.0 ∷ trace) later

-- the events that a port reports to its events object
pub data Event : Type 0 where
  buffer_read : Event
  out_byte : Event
  tx_lost_byte : Event
  in_buffer_empty : Event

-- ---- the trigger's answers

-- there was one call, which was refused
abbrev pub is_refused_at_once : (asked : Asked) → Bool
is_refused_at_once Asked.Refused = true
is_refused_at_once _ = false

-- two calls were due, and the first was refused, which ended the operation before the second
abbrev pub is_first_of_two_refused : (calls : ℕ) (asked : Asked) → Bool
is_first_of_two_refused calls asked = (calls == 2) && is_refused_at_once asked

-- the last call was refused
abbrev pub ends_in_refusal : (asked : Asked) → Bool
ends_in_refusal Asked.Refused = true
ends_in_refusal Asked.TookRefused = true
ends_in_refusal _ = false

-- how many calls were answered
abbrev pub answer_count : (asked : Asked) → ℕ
answer_count Asked.Nothing = 0
answer_count Asked.Took = 1
answer_count Asked.Refused = 1
answer_count Asked.TookTook = 2
answer_count Asked.TookRefused = 2

abbrev pub count_if : (called : Bool) → ℕ
count_if called = if called then 1 else 0

-- ---- the outcome of a byte

-- a byte was sent to the writer, which took it or failed
abbrev pub is_sent : (sent : Sent) → Bool
is_sent Sent.Nothing = false
is_sent _ = true

-- the writer failed
abbrev pub is_lost : (sent : Sent) → Bool
is_lost Sent.Lost = true
is_lost _ = false

-- the byte that a call sent: a write's value, if it was sent
abbrev pub bytes_sent : (op : Op) (sent : Sent) → List ℕ
bytes_sent (Write offset value) Sent.Nothing = []
bytes_sent (Write offset value) _ = value ∷ []
bytes_sent _ _ = []

-- the outcome of the byte that a call sent, if there is one
abbrev pub outcome_of : (sent : Sent) → List Sent
outcome_of Sent.Nothing = []
outcome_of sent = sent ∷ []

-- a write responds with a refusal of the trigger rather than with a failure of the writer
abbrev pub recorded_write_response : (asked : Asked) (sent : Sent) → Response
recorded_write_response asked sent =
    if ends_in_refusal asked then TriggerRefused else (if is_lost sent then WriterFailed else WriteOk)

-- ---- what the effects of a step stand for

-- the events that a read reports, in order
abbrev pub events_of_read : (effects : ReadEffects) → List Event
events_of_read effects =
    (if effects.in_buffer_empty then in_buffer_empty ∷ [] else [])
    ++ (if effects.buffer_read then buffer_read ∷ [] else [])

-- ---- what an operation means for bytes and interrupts, by DLAB and loopback

pub data DecodedOp : Type 0 where
  -- a read at offset 0 with DLAB clear
  RbrRead : DecodedOp
  -- a read at offset 2
  IirRead : DecodedOp
  -- a write at offset 1 with DLAB clear
  IerWrite : (value : ℕ) → DecodedOp
  -- a write at offset 0 with DLAB and loopback clear
  ThrWrite : (value : ℕ) → DecodedOp
  -- bytes that come in: an enqueue outside loopback, or the byte of a write at offset 0 in loopback, with DLAB clear
  RxInput : (bytes : List ℕ) → DecodedOp
  -- a character timeout
  Timeout : DecodedOp
  -- everything else, for example a restore, or an enqueue in loopback
  Other : DecodedOp

abbrev pub decode_read : (register : Register) → DecodedOp
decode_read Data = RbrRead
decode_read Iir = IirRead
decode_read _ = Other

abbrev pub decode_write : (register : Register) (loopback : Bool) (value : ℕ) → DecodedOp
decode_write Data false value = ThrWrite value
decode_write Data true value = RxInput (value ∷ [])
decode_write Ier loopback value = IerWrite value
decode_write _ loopback value = Other

abbrev pub decode : (dlab loopback : Bool) (op : Op) → DecodedOp
decode dlab loopback (Read offset) = decode_read (register_at dlab offset)
decode dlab loopback (Write offset value) = decode_write (register_at dlab offset) loopback value
decode dlab loopback (Enqueue bytes) = if loopback then Other else RxInput bytes
decode dlab loopback CharacterTimeout = Timeout
decode dlab loopback Restore = Other

abbrev pub is_iir_read : (kind : DecodedOp) → Bool
is_iir_read IirRead = true
is_iir_read _ = false

abbrev pub is_rbr_read : (kind : DecodedOp) → Bool
is_rbr_read RbrRead = true
is_rbr_read _ = false

-- the byte that goes to the writer
abbrev pub sent_by : (kind : DecodedOp) → List ℕ
sent_by (ThrWrite value) = value ∷ []
sent_by _ = []
