-- SPDX-License-Identifier: Apache-2.0 OR BSD-3-Clause
-- The laws by which steps and history agree: after any trace, both describe the same port.
pub mod Consequences
pub mod GuestDriver
pub mod Line
pub mod ListsOfOps
pub mod OneCall
pub mod UartRun
pub mod Transmit
use Rattle.std.specs.Prelude.{◌≡◌, Bool, List, [], ◌∷◌, IsTrue}
use Rattle.superio_laws.specs.Serial.{
  Asked,
  Sent,
  Op,
  Restore,
  TraceEntry,
  Response,
  NoResponse,
  Trace,
  sent_by,
  has_bits,
  lsr_dr_bit,
  State,
  not_empty,
  identification_of,
  Coherent,
  step,
  step_response,
  step_events,
  step_calls,
  answers_fit,
  conditions_due,
}
use Rattle.superio_laws.specs.Serial.{bytes_sent}
pub use Rattle.superio_laws.specs.Serial.History.Registers.{RegistersAgree}
use Rattle.superio_laws.specs.Serial.History.{
  calls_due,
  history_events,
  iir_after,
  lsr_after,
  state_of_history,
  history_response,
  ResponsesAre,
  decode_at,
  held_bytes,
  is_fitting_entry,
  is_fitting,
  conditions_due_after,
}
use Rattle.superio_laws.specs.Serial.{trace_after}

-- the state that the steps of a trace lead to
abbrev pub state_after : (start : State) (trace : Trace) → State
state_after start [] = start
state_after start (entry ∷ trace) = step (state_after start trace) entry.op entry.asked

-- ---- state and trace

-- the register law, from any start and over any trace: each register is its last effective write, and MSR stays
abbrev pub RegisterLaw : Type 0
RegisterLaw = (start : State) (trace : Trace) → RegistersAgree start trace (state_after start trace)

-- the held-bytes law, from any start and over any trace
abbrev pub HeldBytesLaw : Type 0
HeldBytesLaw = (start : State) (trace : Trace) → (state_after start trace).in_buffer ≡ held_bytes start trace

-- the LSR law, from a start whose LSR shows whether bytes are held
abbrev pub LineStatusLaw : Type 0
LineStatusLaw = (start : State) (trace : Trace)
    → has_bits start.line_status lsr_dr_bit ≡ not_empty start.in_buffer
    → (state_after start trace).line_status ≡ lsr_after start trace

-- the interrupt law, from a start whose IIR is 1, 2, 4 or 6, and over any trace: IIR shows the conditions that are
-- pending, the step admits an entry's answers and outcome exactly if the entry is fitting, and a restore makes the
-- calls that are due
pub record InterruptsAgree (start : State) (trace : Trace) (s : State) : Type 0 where
  pub pending : s.interrupt_identification ≡ iir_after start trace
  pub calls :
      (entry : TraceEntry) → answers_fit s entry.op entry.asked entry.sent ≡ is_fitting_entry start trace entry
  pub restoring : conditions_due s ≡ conditions_due_after start trace

abbrev pub InterruptLaw : Type 0
InterruptLaw = (start : State) (trace : Trace) (thre rda : Bool)
    → start.interrupt_identification ≡ identification_of thre rda
    → InterruptsAgree start trace (state_after start trace)

-- every step keeps a coherent state coherent
abbrev pub CoherenceLaw : Type 0
CoherenceLaw = (s : State) (op : Op) (asked : Asked) → Coherent s → Coherent (step s op asked)

-- from a coherent start, the history gives the state
abbrev pub StateLaw : Type 0
StateLaw = (start : State) (trace : Trace) → Coherent start
    → state_after start trace ≡ state_of_history start trace

-- a call responds as the history says: a read responds with the guest read
abbrev pub ResponseLaw : Type 0
ResponseLaw = (start : State) (trace : Trace) (entry : TraceEntry) → Coherent start
    → step_response (state_after start trace) entry.op entry.asked entry.sent
    ≡ history_response start trace entry.op entry.asked entry.sent

-- ---- one step, in the state of a history

-- a fitting call responds as the history says, leaves the state of the longer trace, and reports the events that the
-- history has at this point. If it sends a byte that is not lost, the writer took this byte
pub record StepAgrees (start : State) (trace : Trace) (entry : TraceEntry) : Type 0 where
  pub response :
      step_response (state_of_history start trace) entry.op entry.asked entry.sent
      ≡ history_response start trace entry.op entry.asked entry.sent
  pub state : step (state_of_history start trace) entry.op entry.asked ≡ state_of_history start (entry ∷ trace)
  pub events : step_events (state_of_history start trace) entry.op entry.sent ≡ history_events start trace entry
  pub output :
      bytes_sent entry.op entry.sent ≡ sent_by (decode_at start trace entry.op)

-- the history gives the trigger calls that a call makes as long as none is refused, and the trigger calls of a restore
pub record PrefixAgrees (start : State) (trace : Trace) : Type 0 where
  pub calls : (op : Op) → step_calls (state_of_history start trace) op ≡ calls_due start trace op
  pub restoring : conditions_due (state_of_history start trace) ≡ conditions_due_after start trace
  pub steps :
      (entry : TraceEntry) → IsTrue (answers_fit (state_of_history start trace) entry.op entry.asked entry.sent)
      → StepAgrees start trace entry

abbrev pub StepLaw : Type 0
StepLaw = (start : State) (trace : Trace) → Coherent start
    → PrefixAgrees start trace

-- ---- one call of a port whose state is that of a history

-- the call is fitting there, replies as the history says, and leaves the state of the trace with its entry added
pub record CallAgrees
    (start : State) (trace : Trace) (entry : TraceEntry) (reply : Response) (new : State) : Type 0 where
  pub fitting : IsTrue (is_fitting_entry start trace entry)
  pub response : reply ≡ history_response start trace entry.op entry.asked entry.sent
  pub state : new ≡ state_of_history start (entry ∷ trace)

-- a call agrees with the history if it does what its contract says of the step: which answers were possible, the reply,
-- and the state after the call
abbrev pub CallLaw : Type 0
CallLaw = (start : State) (trace : Trace) (entry : TraceEntry) (reply : Response) (old new : State)
    → Coherent start → old ≡ state_of_history start trace
    → IsTrue (answers_fit old entry.op entry.asked entry.sent)
    → reply ≡ step_response old entry.op entry.asked entry.sent → new ≡ step old entry.op entry.asked
    → CallAgrees start trace entry reply new

-- a retry in that state makes the trigger calls of a restore there, and counts as a restore. Its entry is fitting and
-- responds nothing, and it leaves the state of the trace with this entry added
pub record RetryAgrees (start : State) (trace : Trace) (s : State) : Type 0 where
  pub calls : conditions_due s ≡ conditions_due_after start trace
  pub counted :
      CallAgrees start trace (record { op = Restore; asked = Asked.Nothing; sent = Sent.Nothing }) NoResponse s

abbrev pub RetryLaw : Type 0
RetryLaw = (start : State) (trace : Trace) (s : State) → Coherent start → s ≡ state_of_history start trace
    → RetryAgrees start trace s

-- ---- a whole run

-- entries, oldest first and each with its response, that follow each other by steps
abbrev pub StepsFollow : (s : State) (calls : List (TraceEntry × Response)) (end : State) → Type 0
StepsFollow s [] end = end ≡ s
StepsFollow s (call ∷ later) end =
    IsTrue (answers_fit s call.0.op call.0.asked call.0.sent)
    × (call.1 ≡ step_response s call.0.op call.0.asked call.0.sent)
    × StepsFollow (step s call.0.op call.0.asked) later end

-- after `trace` the calls make a fitting trace with these responses, and end in its state, which is coherent
pub record RunAgrees
    (start : State) (trace : Trace) (calls : List (TraceEntry × Response)) (end : State) : Type 0 where
  pub fitting : IsTrue (is_fitting start (trace_after trace calls))
  pub responses : ResponsesAre start trace calls
  pub state : end ≡ state_of_history start (trace_after trace calls)
  pub coherent : Coherent end

abbrev pub WholeRunLaw : Type 0
WholeRunLaw = (start end : State) (calls : List (TraceEntry × Response)) → Coherent start
    → StepsFollow start calls end → RunAgrees start [] calls end
