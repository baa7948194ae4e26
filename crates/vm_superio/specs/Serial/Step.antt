-- SPDX-License-Identifier: Apache-2.0 OR BSD-3-Clause
-- One call of a port, as its contract states it: its step, with the calls that each object had; why a restore is
-- refused; and what stands after a call that failed.
use Rattle.std.specs.Prelude.{◌≡◌, ℕ, ◌+◌, ◌==◌, length, List, IsTrue, Option, None, Result, is_some, ◌<◌, ◌≤◌, ◌-◌, ◌++◌, take}
use Rattle.std.specs.Bool.{OnFalse}
use Rattle.vm_superio.specs.Serial.{
  Error,
  SerialView,
  bytes_sent,
  outcome_of,
  turned_on_count,
  write_response,
  enqueue_response,
  timeout_response,
  refusal_in_result,
  FullFifo,
  Trigger,
  IOError,
  Asked,
  Sent,
  Op,
  Read,
  Write,
  Enqueue,
  CharacterTimeout,
  Restore,
  Response,
  ByteRead,
  NoResponse,
  Event,
  ends_in_refusal,
  count_if,
  has_bits,
  only_bits,
  State,
  fifo_size,
  Rda,
  Thre,
  iir_bit,
  step,
  step_response,
  step_events,
  answers_fit,
  sends_byte,
  conditions_due,
}
use Rattle.vm_superio.specs.Links.{Link, TriggerAnswer, Contents, answers_of, RefusesOwnState}
use Rattle.vm_superio.specs.Links.Writer.{SerialLinks, serial_links, WriterLink}

-- a call takes a port from `old` to `new` by one step. `asked` are the trigger's answers, and `sent` is the outcome of
-- the byte that was sent. If there is a refusal, it is the answer to the trigger's last call
pub record IsSerialStep
    {T E EV W : Type 0} (links : SerialLinks T E EV W) (op : Op) (asked : Asked) (sent : Sent) (reply : Response)
    (refusal : Option E) (old new : SerialView T EV W) : Type 0 where
  pub fits : IsTrue (answers_fit old.state op asked sent)
  pub response : reply ≡ step_response old.state op asked sent
  pub refused : is_some refusal ≡ ends_in_refusal asked
  pub state : new.state ≡ step old.state op asked
  pub trigger : links.trigger old.trigger (answers_of asked refusal) new.trigger
  pub events : links.events old.events (step_events old.state op sent) new.events
  pub out : WriterLink links.contents (outcome_of sent) (bytes_sent op sent) old.out new.out

-- the port with another writer, and nothing else changed
abbrev pub with_writer : {T EV W : Type 0} → (port : SerialView T EV W) (writer : W) → SerialView T EV W
with_writer port writer = record port { out = writer }

-- the port with another trigger, and nothing else changed
abbrev pub with_trigger : {T EV W : Type 0} → (port : SerialView T EV W) (trigger : T) → SerialView T EV W
with_trigger port trigger = record port { trigger = trigger }

-- the port with another events object, and nothing else changed
abbrev pub with_events : {T EV W : Type 0} → (port : SerialView T EV W) (object : EV) → SerialView T EV W
with_events port object = record port { events = object }

-- ---- what is pending

-- how many of the two conditions are pending
abbrev pub pending_count : (s : State) → ℕ
pending_count s =
    count_if (has_bits s.interrupt_identification (iir_bit Rda))
    + count_if (has_bits s.interrupt_identification (iir_bit Thre))

-- ---- what a call keeps

-- a write at one offset keeps what belongs to other offsets. The received bytes and DLL are at 0, IER and DLM at 1, LCR
-- at 3, MCR at 4 and SCR at 7. MSR never changes. IIR and LSR may change
pub record SameElsewhere (offset : ℕ) (old new : State) : Type 0 where
  pub held : OnFalse (offset == 0) (new.in_buffer ≡ old.in_buffer)
  pub divisor_low : OnFalse (offset == 0) (new.baud_divisor_low ≡ old.baud_divisor_low)
  pub divisor_high : OnFalse (offset == 1) (new.baud_divisor_high ≡ old.baud_divisor_high)
  pub modem_status : new.modem_status ≡ old.modem_status
  pub enable : OnFalse (offset == 1) (new.interrupt_enable ≡ old.interrupt_enable)
  pub line_control : OnFalse (offset == 3) (new.line_control ≡ old.line_control)
  pub modem_control : OnFalse (offset == 4) (new.modem_control ≡ old.modem_control)
  pub scratch : OnFalse (offset == 7) (new.scratch ≡ old.scratch)

-- the two bits of LSR that say that the transmitter is empty
abbrev pub transmitter : (s : State) → ℕ
transmitter s = only_bits s.line_status 0x60

-- ---- the calls

module _ {T E EV W : Type 0} (trigger : Link T (TriggerAnswer E)) (events : Link EV Event) (contents : Contents W) where
  -- a read calls no trigger and sends no byte
  abbrev pub IsSerialRead : (offset byte : ℕ) (old new : SerialView T EV W) → Type 0
  IsSerialRead offset byte old new =
      IsSerialStep (serial_links trigger events contents) (Read offset) Asked.Nothing Sent.Nothing
      (ByteRead byte) None old new

  -- a write. There is one answer of the trigger for each pending bit of IIR that it turns on
  pub record IsSerialWrite
      (offset value : ℕ) (result : Result (Unit {0}) (Error E)) (old new : SerialView T EV W) : Type 0 where
    pub asked : Asked
    pub sent : Sent
    pub step :
        IsSerialStep (serial_links trigger events contents) (Write offset value) asked sent
        (write_response result) (refusal_in_result result) old new
    pub calls : length (answers_of asked (refusal_in_result result)) ≡ turned_on_count old.state new.state

  -- an enqueue. There is one answer of the trigger for each pending bit of IIR that it turns on
  pub record IsSerialEnqueue
      (bytes : List ℕ) (result : Result ℕ (Error E)) (old new : SerialView T EV W) : Type 0 where
    pub asked : Asked
    pub sent : Sent
    pub step :
        IsSerialStep (serial_links trigger events contents) (Enqueue bytes) asked sent
        (enqueue_response result) (refusal_in_result result) old new
    pub calls : length (answers_of asked (refusal_in_result result)) ≡ turned_on_count old.state new.state

  -- a character timeout. There is one answer of the trigger for each pending bit of IIR that it turns on
  pub record IsSerialTimeout (result : Result (Unit {0}) (Error E)) (old new : SerialView T EV W) : Type 0 where
    pub asked : Asked
    pub step :
        IsSerialStep (serial_links trigger events contents) CharacterTimeout asked Sent.Nothing
        (timeout_response result) (refusal_in_result result) old new
    pub calls : length (answers_of asked (refusal_in_result result)) ≡ turned_on_count old.state new.state

  -- a retry of refused interrupts: except for its trigger, the port makes the step of a restore without answers
  abbrev pub IsSerialRetry : (old new : SerialView T EV W) → Type 0
  IsSerialRetry old new =
      IsSerialStep (serial_links trigger events contents) Restore Asked.Nothing Sent.Nothing
      NoResponse None (with_trigger old new.trigger) new

-- ---- why a restore is refused

-- why a restore failed, and which calls the trigger had. If the state holds more than 64 bytes, the trigger was not
-- called. If it holds at most 64, the reason is one for which a restore from a port's own state fails, too
abbrev pub RefusesRestore :
    {T E : Type 0} → (link : Link T (TriggerAnswer E)) (s : State) (error : Error E) (old new : T) → Type 0
RefusesRestore link s FullFifo old new = (fifo_size < length s.in_buffer) × (new ≡ old)
RefusesRestore link s error old new =
    (length s.in_buffer ≤ fifo_size) × RefusesOwnState link (conditions_due s) error old new

-- ---- the state after a call that failed

-- IIR shows a condition that it did not show before
abbrev pub ShowsMore : (old new : State) → Type 0
ShowsMore old new = 0 < turned_on_count old new

module _ {E : Type 0} where
  -- a write fails for one of two reasons. If the trigger refused a call, IIR shows the condition nonetheless. If the
  -- output failed, the write was one that sends its byte, and the registers are as after `Ok`
  abbrev pub WriteFate : (offset value : ℕ) (error : Error E) (old new : State) → Type 0
  WriteFate offset value (Trigger refusal) old new = ShowsMore old new
  WriteFate offset value (IOError fault) old new =
      IsTrue (sends_byte old (Write offset value)) × (new ≡ step old (Write offset value) Asked.Nothing)
  WriteFate offset value _ old new = ⊥

  -- an enqueue fails for one of two reasons. If the trigger refused a call, IIR shows RDA nonetheless, and the FIFO has
  -- gained the first bytes of the input: as many as the capacity has shrunk by. If the FIFO was full, it held 64 bytes
  abbrev pub EnqueueFate : (input : List ℕ) (error : Error E) (old new : State) → Type 0
  EnqueueFate input (Trigger refusal) old new =
      ShowsMore old new
      × (new.in_buffer
      ≡ old.in_buffer ++ take ((fifo_size - length old.in_buffer) - (fifo_size - length new.in_buffer)) input)
  EnqueueFate input FullFifo old new = fifo_size ≤ length old.in_buffer
  EnqueueFate input _ old new = ⊥

  -- a character timeout fails only if the trigger refused its call. IIR shows RDA nonetheless
  abbrev pub TimeoutFate : (error : Error E) (old new : State) → Type 0
  TimeoutFate (Trigger refusal) old new = ShowsMore old new
  TimeoutFate _ old new = ⊥
