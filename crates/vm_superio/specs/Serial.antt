-- SPDX-License-Identifier: Apache-2.0 OR BSD-3-Clause
-- The serial port: what a contract sees of it and of what its calls return, with the words of superio_core that the
-- modules below use. They hold the step of one call, and runs.
pub mod Run
pub mod Step
use Rattle.std.specs.Prelude.{
  ℕ,
  ◌==◌,
  if◌then◌else◌,
  Option,
  Some,
  None,
  Result,
  Ok,
  Err,
  List,
  ◌++◌,
  codes,
  option_map,
}
pub use Rattle.vm_superio.specs.declared.serial.errors.Error.{Error}
pub use Rattle.vm_superio.specs.declared.serial.errors.Error.TheVariants.{Trigger, IOError, FullFifo, Memory}
unfoldable pub use Rattle.superio_laws.specs.Serial.{has_bits, only_bits, with_bits}
pub use Rattle.superio_laws.specs.Serial.{
  answer_count,
  answers_all,
  RxInput,
  arrival_calls,
  Asked,
  becomes_pending,
  buffer_read,
  ByteRead,
  bytes_sent,
  bytes_that_fit,
  character_timeout,
  CharacterTimeout,
  Coherent,
  CoherentUart,
  Condition,
  count_if,
  ends_in_refusal,
  Enqueue,
  enqueued_bytes,
  EnqueueEffects,
  EnqueueOk,
  Event,
  events_of_read,
  fifo_size,
  FifoFull,
  fresh_state,
  identification_of,
  Ier,
  ier_bit,
  ier_bits,
  IerWrite,
  Iir,
  iir_bit,
  iir_none_bit,
  IirRead,
  in_buffer_empty,
  answers_fit,
  is_asserted,
  is_dlab,
  is_iir_read,
  irq_level,
  is_loopback,
  is_lost,
  is_rbr_read,
  is_refused_at_once,
  is_sent,
  IsUartEnqueue,
  IsUartRead,
  IsUartTimeout,
  IsUartWrite,
  decoded_calls,
  decode_in,
  decode,
  lcr_dlab_bit,
  lsr_dr_bit,
  NoResponse,
  not_empty,
  Op,
  DecodedOp,
  Other,
  out_byte,
  outcome_of,
  OutOfMemory,
  pending_in_order,
  iir_after_raise,
  raise_rda_while_held,
  rbr_read,
  RbrRead,
  Data,
  Rda,
  rda_becomes_pending,
  Read,
  read_events,
  decode_read,
  read_step,
  ReadEffects,
  receive_bytes,
  recorded_write_response,
  Register,
  register_at,
  register_read,
  Response,
  Restore,
  conditions_due,
  SameSettings,
  sends_byte,
  Sent,
  sent_by,
  sent_events,
  RdaCoversHeldBytes,
  State,
  state_of_uart,
  state_with,
  step,
  step_calls,
  step_events,
  step_response,
  thr_write,
  Thre,
  ThrWrite,
  Timeout,
  timeout_calls,
  TimeoutOk,
  Trace,
  trace_after,
  TraceEntry,
  TriggerRefused,
  turned_on_count,
  turns_on,
  tx_lost_byte,
  Unassigned,
  without_bits,
  Write,
  decode_write,
  write_step,
  WriteEffects,
  WriteOk,
  WriterFailed,
}

-- the state, and the objects that the port owns
pub record SerialView (T EV W : Type 0) : Type 0 where
  pub state : State
  pub trigger : T
  pub events : EV
  pub out : W

-- the response for an error of a write, an enqueue or a timeout. None of them returns `Memory`, because none takes
-- memory
abbrev pub failure_response : {E : Type 0} → (error : Error E) → Response
failure_response (Trigger refusal) = TriggerRefused
failure_response (IOError fault) = WriterFailed
failure_response FullFifo = FifoFull
failure_response Memory = OutOfMemory

abbrev pub write_response : {E : Type 0} → (answer : Result (Unit {0}) (Error E)) → Response
write_response (Ok done) = WriteOk
write_response (Err error) = failure_response error

abbrev pub enqueue_response : {E : Type 0} → (answer : Result ℕ (Error E)) → Response
enqueue_response (Ok count) = EnqueueOk count
enqueue_response (Err error) = failure_response error

abbrev pub timeout_response : {E : Type 0} → (answer : Result (Unit {0}) (Error E)) → Response
timeout_response (Ok done) = TimeoutOk
timeout_response (Err error) = failure_response error

abbrev pub refusal_in_error : {E : Type 0} → (error : Error E) → Option E
refusal_in_error (Trigger refusal) = Some refusal
refusal_in_error _ = None

abbrev pub refusal_in_result : {R E : Type 0} → (answer : Result R (Error E)) → Option E
refusal_in_result (Ok done) = None
refusal_in_result (Err error) = refusal_in_error error

-- ---- what an error of a serial port prints

-- the text of an error, given what the trigger's refusal prints. The text of a writer's fault is not known
abbrev pub serial_error_text : {E : Type 0} → (E → Option (List ℕ)) → Error E → Option (List ℕ)
serial_error_text output (Trigger cause) =
    option_map (λ text. codes "Failed to trigger interrupt: " ++ text) (output cause)
serial_error_text output (IOError cause) = None
serial_error_text output FullFifo = Some (codes "No space left in FIFO")
serial_error_text output Memory = Some (codes "Out of memory")

-- the most that a read acknowledges: both conditions at IIR, and one at RBR
abbrev pub acknowledged_at : (offset : ℕ) → ℕ
acknowledged_at offset = if offset == 2 then 2 else (if offset == 0 then 1 else 0)
