-- SPDX-License-Identifier: Apache-2.0 OR BSD-3-Clause
-- The step of a call in any state, coherent or not: what it responds, the state that it leaves, the events that it
-- reports and the trigger calls that it makes, given the trigger's answers and the outcome of a byte. Then which
-- answers and outcomes can come, and the step of a port without objects: the effects that a call returns, and its
-- caller carries out.
use Rattle.std.specs.Prelude.{ℕ, ◌+◌, ◌-◌, Bool, not, ◌==◌, ◌&&◌, ◌||◌, nat_le, if◌then◌else◌, List, [], ◌∷◌, ◌++◌, length, take, drop, ◌≡◌}
use Rattle.std.specs.Bool.{beq}
use Rattle.superio_core.specs.Serial.Operations.{
  Asked,
  Sent,
  Op,
  Read,
  Write,
  Enqueue,
  CharacterTimeout,
  Restore,
  Response,
  ByteRead,
  EnqueueOk,
  TimeoutOk,
  TriggerRefused,
  FifoFull,
  NoResponse,
  Event,
  buffer_read,
  out_byte,
  tx_lost_byte,
  in_buffer_empty,
  is_refused_at_once,
  recorded_write_response,
  count_if,
  is_sent,
  DecodedOp,
  IerWrite,
  ThrWrite,
  RxInput,
  Timeout,
  decode,
  sent_by,
  events_of_read,
}
use Rattle.superio_core.specs.Bits.{has_bits, only_bits, with_bits, without_bits}
use Rattle.superio_core.specs.Serial.{State, fifo_size, not_empty, register_read}
use Rattle.superio_core.specs.Serial.RegisterMap.{Register, Dll, Dlm, Data, Ier, Iir, Lcr, Mcr, Scr, register_at, is_dlab, is_loopback, Condition, Rda, Thre, ier_bit, iir_bit, lsr_dr_bit, ier_bits}
use Rattle.superio_core.specs.declared.serial.ReadEffects.{ReadEffects}
use Rattle.superio_core.specs.declared.serial.WriteEffects.{WriteEffects}
use Rattle.superio_core.specs.declared.serial.EnqueueEffects.{EnqueueEffects}

-- IIR: nothing is pending
abbrev pub iir_none_bit : ℕ
iir_none_bit = 0x01

-- ---- raising a condition

-- a condition that is raised becomes pending if IER enables it and IIR does not show it; the trigger is called
-- exactly then
abbrev pub becomes_pending : (condition : Condition) (enable identification : ℕ) → Bool
becomes_pending condition enable identification =
    has_bits enable (ier_bit condition) && not (has_bits identification (iir_bit condition))

-- IIR afterwards: if the condition became pending, its bit is set and the bit for 'none' cleared. A refusal of the
-- trigger takes neither back
abbrev pub iir_after_raise : (condition : Condition) (enable identification : ℕ) → ℕ
iir_after_raise condition enable identification =
    if becomes_pending condition enable identification
    then with_bits (without_bits identification iir_none_bit) (iir_bit condition)
    else identification

-- IIR after a condition was lowered: its bit is cleared, and if no bit is left, nothing is pending
abbrev pub iir_after_lower : (condition : Condition) (identification : ℕ) → ℕ
iir_after_lower condition identification =
    let others = without_bits identification (iir_bit condition) in
    if others == 0 then iir_none_bit else others

-- an IER write raises RDA only while bytes are held
abbrev pub rda_becomes_pending : (held : List ℕ) (enable identification : ℕ) → Bool
rda_becomes_pending held enable identification = not_empty held && becomes_pending Rda enable identification

abbrev pub raise_rda_while_held : (held : List ℕ) (enable identification : ℕ) → ℕ
raise_rda_while_held held enable identification =
    if not_empty held then iir_after_raise Rda enable identification else identification

-- ---- receiving bytes

-- the first bytes, as many as fit beside the held ones: the FIFO holds at most 64
abbrev pub bytes_that_fit : (held bytes : List ℕ) → List ℕ
bytes_that_fit held bytes = take (fifo_size - length held) bytes

-- an enqueue accepts the bytes that fit, and in loopback none; DLAB plays no part
abbrev pub enqueued_bytes : (s : State) (bytes : List ℕ) → List ℕ
enqueued_bytes s bytes = if is_loopback s.modem_control then [] else bytes_that_fit s.in_buffer bytes

-- received bytes follow those that are held, data ready is set, and RDA is raised. An empty list changes nothing
abbrev pub receive_bytes : (bytes : List ℕ) (s : State) → State
receive_bytes [] s = s
receive_bytes (byte ∷ bytes) s = record s {
  in_buffer = s.in_buffer ++ byte ∷ bytes;
  line_status = with_bits s.line_status lsr_dr_bit;
  interrupt_identification = iir_after_raise Rda s.interrupt_enable s.interrupt_identification;
}

-- ---- the response

-- the response to an enqueue: 0 in loopback or if no bytes are passed, else that the FIFO is full if it is, else the
-- trigger's refusal if there is one, and else how many bytes were added
abbrev pub enqueue_step_response : (s : State) (bytes : List ℕ) (asked : Asked) → Response
enqueue_step_response s bytes asked =
    if is_loopback s.modem_control || (length bytes == 0) then EnqueueOk 0
    else (if nat_le fifo_size (length s.in_buffer) then FifoFull
    else (if is_refused_at_once asked then TriggerRefused
    else EnqueueOk (length (enqueued_bytes s bytes))))

-- a character timeout responds the trigger's refusal, if there is one
abbrev pub timeout_step_response : (asked : Asked) → Response
timeout_step_response asked = if is_refused_at_once asked then TriggerRefused else TimeoutOk

-- the response to any call: a read shows the register at its offset
abbrev pub step_response : (s : State) (op : Op) (asked : Asked) (sent : Sent) → Response
step_response s (Read offset) asked sent =
    ByteRead (register_read (register_at (is_dlab s.line_control) offset) s)
step_response s (Write offset value) asked sent = recorded_write_response asked sent
step_response s (Enqueue bytes) asked sent = enqueue_step_response s bytes asked
step_response s CharacterTimeout asked sent = timeout_step_response asked
step_response s Restore asked sent = NoResponse

-- ---- the state afterwards

-- an RBR read lowers RDA, takes the oldest byte, and clears data ready if none is left
abbrev pub rbr_read : (s : State) → State
rbr_read s =
    let left = drop 1 s.in_buffer in
    record s {
      interrupt_identification = iir_after_lower Rda s.interrupt_identification;
      in_buffer = left;
      line_status = if not_empty left then s.line_status else without_bits s.line_status lsr_dr_bit;
    }

-- an RBR read takes a byte, and after an IIR read nothing is pending; no other read changes anything
abbrev pub read_step : (register : Register) (s : State) → State
read_step Data s = rbr_read s
read_step Iir s = record s { interrupt_identification = iir_none_bit }
read_step _ s = s

-- an IER write raises RDA if bytes are held, and then THRE, unless the trigger refused the first call. A condition that
-- was pending stays pending
abbrev pub ier_write : (enable : ℕ) (asked : Asked) (s : State) → State
ier_write enable asked s =
    let refused = rda_becomes_pending s.in_buffer enable s.interrupt_identification && is_refused_at_once asked in
    let identification = raise_rda_while_held s.in_buffer enable s.interrupt_identification in
    record s {
      interrupt_enable = enable;
      interrupt_identification = if refused then identification else iir_after_raise Thre enable identification;
    }

-- a THR write in loopback is received, if there is room; outside loopback it raises THRE, whatever became of the byte
abbrev pub thr_write : (value : ℕ) (s : State) → State
thr_write value s =
    if is_loopback s.modem_control then receive_bytes (bytes_that_fit s.in_buffer (value ∷ [])) s
    else record s { interrupt_identification = iir_after_raise Thre s.interrupt_enable s.interrupt_identification }

-- a write, by the register at its offset: IER keeps some bits, and IIR, LSR, MSR and unassigned offsets ignore
-- the write
abbrev pub write_step : (register : Register) (value : ℕ) (asked : Asked) (s : State) → State
write_step Dll value asked s = record s { baud_divisor_low = value }
write_step Dlm value asked s = record s { baud_divisor_high = value }
write_step Data value asked s = thr_write value s
write_step Ier value asked s = ier_write (only_bits value ier_bits) asked s
write_step Lcr value asked s = record s { line_control = value }
write_step Mcr value asked s = record s { modem_control = value }
write_step Scr value asked s = record s { scratch = value }
write_step _ value asked s = s

-- a character timeout raises RDA while bytes are held
abbrev pub character_timeout : (s : State) → State
character_timeout s = record s {
  interrupt_identification =
      raise_rda_while_held s.in_buffer s.interrupt_enable s.interrupt_identification;
}

-- the state after any call: an enqueue receives what it accepts, and a restore keeps the state
abbrev pub step : (s : State) (op : Op) (asked : Asked) → State
step s (Read offset) asked = read_step (register_at (is_dlab s.line_control) offset) s
step s (Write offset value) asked = write_step (register_at (is_dlab s.line_control) offset) value asked s
step s (Enqueue bytes) asked = receive_bytes (enqueued_bytes s bytes) s
step s CharacterTimeout asked = character_timeout s
step s Restore asked = s

-- ---- the events

-- an RBR read reports first that no byte is left, if none is, and then that the guest read
abbrev pub read_events : (register : Register) (held : List ℕ) → List Event
read_events Data held = (if not_empty (drop 1 held) then [] else in_buffer_empty ∷ []) ++ buffer_read ∷ []
read_events _ held = []

-- a byte that was sent is reported as out or as lost
abbrev pub sent_events : (sent : Sent) → List Event
sent_events Sent.Nothing = []
sent_events Sent.Out = out_byte ∷ []
sent_events Sent.Lost = tx_lost_byte ∷ []

-- the events that any call reports
abbrev pub step_events : (s : State) (op : Op) (sent : Sent) → List Event
step_events s (Read offset) sent = read_events (register_at (is_dlab s.line_control) offset) s.in_buffer
step_events s (Write offset value) sent = sent_events sent
step_events s _ sent = []

-- ---- how many trigger calls a call makes, if none is refused

-- what an operation means in a state
abbrev pub decode_in : (s : State) (op : Op) → DecodedOp
decode_in s op = decode (is_dlab s.line_control) (is_loopback s.modem_control) op

-- received bytes make one call if RDA becomes pending
abbrev pub arrival_calls : (bytes : List ℕ) (s : State) → ℕ
arrival_calls [] s = 0
arrival_calls (byte ∷ bytes) s = count_if (becomes_pending Rda s.interrupt_enable s.interrupt_identification)

-- an IER write makes one call for RDA, then one for THRE
abbrev pub ier_write_calls : (enable : ℕ) (s : State) → ℕ
ier_write_calls enable s =
    count_if (rda_becomes_pending s.in_buffer enable s.interrupt_identification)
    + count_if (becomes_pending Thre enable (raise_rda_while_held s.in_buffer enable s.interrupt_identification))

-- a character timeout makes one call if RDA becomes pending
abbrev pub timeout_calls : (s : State) → ℕ
timeout_calls s = count_if (rda_becomes_pending s.in_buffer s.interrupt_enable s.interrupt_identification)

abbrev pub decoded_calls : (kind : DecodedOp) (s : State) → ℕ
decoded_calls (IerWrite value) s = ier_write_calls (only_bits value ier_bits) s
decoded_calls (ThrWrite value) s = count_if (becomes_pending Thre s.interrupt_enable s.interrupt_identification)
decoded_calls (RxInput bytes) s = arrival_calls (bytes_that_fit s.in_buffer bytes) s
decoded_calls Timeout s = timeout_calls s
decoded_calls _ s = 0

abbrev pub step_calls : (s : State) (op : Op) → ℕ
step_calls s op = decoded_calls (decode_in s op) s

-- a byte goes to the writer
abbrev pub sends_byte : (s : State) (op : Op) → Bool
sends_byte s op = not_empty (sent_by (decode_in s op))

-- ---- which answers of the trigger, and which outcome of a byte, are possible

-- each call is answered, and a refusal ends the operation
abbrev pub answers_all : (calls : ℕ) (asked : Asked) → Bool
answers_all calls Asked.Nothing = calls == 0
answers_all calls Asked.Took = calls == 1
answers_all calls Asked.Refused = nat_le 1 calls
answers_all calls Asked.TookTook = calls == 2
answers_all calls Asked.TookRefused = calls == 2

-- the trigger's calls are answered, and there is an outcome exactly if a byte goes to the writer
abbrev pub answers_fit : (s : State) (op : Op) (asked : Asked) (sent : Sent) → Bool
answers_fit s op asked sent =
    answers_all (step_calls s op) asked && beq (is_sent sent) (sends_byte s op)

-- ---- one call of a port, as its contract states it: the effects that the caller has to carry out, and the state
-- after it. This is the state after a step without a refusal, whatever happens when the caller carries out the effects

-- a read gives the byte, and which events it reports; it asks for no interrupt
pub record IsUartRead (offset : ℕ) (effects : ReadEffects) (old new : State) : Type 0 where
  pub response : ByteRead effects.byte ≡ step_response old (Read offset) Asked.Nothing Sent.Nothing
  pub events : events_of_read effects ≡ step_events old (Read offset) Sent.Nothing
  pub state : new ≡ step old (Read offset) Asked.Nothing

-- a write, whatever becomes of its byte and of the interrupts
pub record IsUartWrite (offset value : ℕ) (effects : WriteEffects) (old new : State) : Type 0 where
  pub sends : effects.sends ≡ sends_byte old (Write offset value)
  pub interrupts : effects.interrupts ≡ step_calls old (Write offset value)
  pub state : new ≡ step old (Write offset value) Asked.Nothing

-- an enqueue: the bytes that have room are accepted, whatever becomes of the interrupt. The FIFO is reported full if
-- bytes are passed outside loopback while 64 are held
pub record IsUartEnqueue (bytes : List ℕ) (effects : EnqueueEffects) (old new : State) : Type 0 where
  pub accepted : effects.accepted ≡ length (enqueued_bytes old bytes)
  pub fifo_full :
      effects.fifo_full
      ≡ (not (is_loopback old.modem_control || (length bytes == 0)) && nat_le fifo_size (length old.in_buffer))
  pub interrupts : effects.interrupts ≡ step_calls old (Enqueue bytes)
  pub state : new ≡ step old (Enqueue bytes) Asked.Nothing

-- a character timeout, whatever becomes of the interrupt
pub record IsUartTimeout (due : ℕ) (old new : State) : Type 0 where
  pub interrupts : due ≡ step_calls old CharacterTimeout
  pub state : new ≡ step old CharacterTimeout Asked.Nothing

-- ---- trigger calls, by the bits of IIR

-- the bit goes from clear to set
abbrev pub turns_on : (bit old new : ℕ) → Bool
turns_on bit old new = not (has_bits old bit) && has_bits new bit

-- how many of the two pending bits turn on
abbrev pub turned_on_count : (old new : State) → ℕ
turned_on_count old new =
    count_if (turns_on (iir_bit Rda) old.interrupt_identification new.interrupt_identification)
    + count_if (turns_on (iir_bit Thre) old.interrupt_identification new.interrupt_identification)
