-- SPDX-License-Identifier: Apache-2.0 OR BSD-3-Clause
-- The laws by which a port without objects and the history agree. The port never learns what came of its effects, such
-- as a refused interrupt, so the start and the operations alone determine every read, interrupt, event and byte sent.
use Rattle.std.specs.Prelude.{◌≡◌, ⊤, ℕ, ◌+◌, ◌*◌, ◌≤◌, not, ◌==◌, ◌&&◌, ◌||◌, nat_le, if◌then◌else◌, List, [], ◌∷◌, ◌++◌, length, take, drop, count_by, Bool, false}
use Rattle.superio_laws.specs.Serial.{
  turned_on_count,
  enqueued_bytes,
  RdaCoversHeldBytes,
  Rda,
  decode_in,
  Asked,
  Sent,
  events_of_read,
  Read,
  Write,
  Enqueue,
  CharacterTimeout,
  Restore,
  TraceEntry,
  Trace,
  Op,
  sent_by,
  is_iir_read,
  is_rbr_read,
  ReadEffects,
  WriteEffects,
  EnqueueEffects,
  State,
  fifo_size,
  not_empty,
  Coherent,
  conditions_due,
  IsUartRead,
  IsUartWrite,
  IsUartEnqueue,
  IsUartTimeout,
}
use Rattle.superio_laws.specs.Serial.History.{calls_due, history_events, guest_read, output, state_of_history, decode_at, loopback_after, accepted_by, held_bytes, conditions_due_after, decoded_ops, acknowledges}

-- a call with its effects
pub data UartCall : Type 0 where
  UartRead : (offset : ℕ) (effects : ReadEffects) → UartCall
  UartWrite : (offset value : ℕ) (effects : WriteEffects) → UartCall
  UartEnqueue : (bytes : List ℕ) (effects : EnqueueEffects) → UartCall
  UartTimeout : (interrupts : ℕ) → UartCall
  -- the struct was copied, or a refused interrupt is requested again: as often as is due
  UartRestore : (interrupts : ℕ) → UartCall

-- the call met its contract
abbrev pub IsUartCall : (call : UartCall) (old new : State) → Type 0
IsUartCall (UartRead offset effects) old new = IsUartRead offset effects old new
IsUartCall (UartWrite offset value effects) old new = IsUartWrite offset value effects old new
IsUartCall (UartEnqueue bytes effects) old new = IsUartEnqueue bytes effects old new
IsUartCall (UartTimeout interrupts) old new = IsUartTimeout interrupts old new
IsUartCall (UartRestore interrupts) old new = (interrupts ≡ length (conditions_due old)) × (new ≡ old)

-- calls that met their contracts, oldest first, lead from one state to another
abbrev pub UartCallsFollow : (s : State) (calls : List UartCall) (end : State) → Type 0
UartCallsFollow s [] end = end ≡ s
UartCallsFollow s (call ∷ later) end =
    (next : State) × IsUartCall call s next × UartCallsFollow next later end

-- ---- the trace

-- the call without its effects
abbrev pub op_of_call : (call : UartCall) → Op
op_of_call (UartRead offset effects) = Read offset
op_of_call (UartWrite offset value effects) = Write offset value
op_of_call (UartEnqueue bytes effects) = Enqueue bytes
op_of_call (UartTimeout interrupts) = CharacterTimeout
op_of_call (UartRestore interrupts) = Restore

abbrev pub ops_of_calls : (calls : List UartCall) → List Op
ops_of_calls [] = []
ops_of_calls (call ∷ later) = op_of_call call ∷ ops_of_calls later

-- an operation as an entry of a trace, with no answer and no outcome
abbrev pub without_results : (op : Op) → TraceEntry
without_results op = record { op = op; asked = Asked.Nothing; sent = Sent.Nothing }

-- the trace with further operations, oldest first
abbrev pub trace_with : (trace : Trace) (ops : List Op) → Trace
trace_with trace [] = trace
trace_with trace (op ∷ later) = trace_with (without_results op ∷ trace) later

-- ---- the law

-- what the history says of the effects at a point: the byte and the events of a read, whether a write's byte goes out,
-- how many bytes an enqueue takes, and how often to ask for the interrupt
abbrev pub EffectsAre : (start : State) (trace : Trace) (call : UartCall) → Type 0
EffectsAre start trace (UartRead offset effects) =
    (effects.byte ≡ guest_read start trace offset)
    × (events_of_read effects ≡ history_events start trace (without_results (Read offset)))
EffectsAre start trace (UartWrite offset value effects) =
    (effects.sends ≡ not_empty (sent_by (decode_at start trace (Write offset value))))
    × (effects.interrupts ≡ calls_due start trace (Write offset value))
EffectsAre start trace (UartEnqueue bytes effects) =
    (effects.accepted ≡ length (accepted_by (decode_at start trace (Enqueue bytes)) (held_bytes start trace)))
    × (effects.fifo_full
    ≡ (not (loopback_after start trace || (length bytes == 0)) && nat_le fifo_size (length (held_bytes start trace))))
    × (effects.interrupts ≡ calls_due start trace (Enqueue bytes))
EffectsAre start trace (UartTimeout interrupts) = interrupts ≡ calls_due start trace CharacterTimeout
EffectsAre start trace (UartRestore interrupts) = interrupts ≡ length (conditions_due_after start trace)

abbrev pub AllEffectsAre : (start : State) (trace : Trace) (calls : List UartCall) → Type 0
AllEffectsAre start trace [] = ⊤
AllEffectsAre start trace (call ∷ later) =
    EffectsAre start trace call × AllEffectsAre start (without_results (op_of_call call) ∷ trace) later

-- after `trace` the calls have these effects, and end in the state of the trace, which is coherent
pub record UartRunAgrees (start : State) (trace : Trace) (calls : List UartCall) (end : State) : Type 0 where
  pub effects : AllEffectsAre start trace calls
  pub state : end ≡ state_of_history start (trace_with trace (ops_of_calls calls))
  pub coherent : Coherent end

-- from a coherent struct, any sequence of calls has the effects that the history says, and ends in the state that the
-- trace of its operations leads to
abbrev pub UartRunLaw : Type 0
UartRunLaw = (start end : State) (calls : List UartCall) → Coherent start
    → UartCallsFollow start calls end → UartRunAgrees start [] calls end

-- ---- the output

-- the bytes that the caller was told to send, in order
abbrev pub byte_to_send : (call : UartCall) → List ℕ
byte_to_send (UartWrite offset value effects) = if effects.sends then value ∷ [] else []
byte_to_send _ = []

abbrev pub bytes_to_send : (calls : List UartCall) → List ℕ
bytes_to_send [] = []
bytes_to_send (call ∷ later) = byte_to_send call ++ bytes_to_send later

-- the bytes to send are the output of the history: the values of the THR writes outside loopback
abbrev pub UartOutputLaw : Type 0
UartOutputLaw = (start end : State) (calls : List UartCall) → Coherent start
    → UartCallsFollow start calls end
    → bytes_to_send calls ≡ output start [] (trace_with [] (ops_of_calls calls))

-- ---- interrupts

-- how often the caller was told to ask for the interrupt, without restores
abbrev pub interrupts_of : (call : UartCall) → ℕ
interrupts_of (UartRead offset effects) = 0
interrupts_of (UartWrite offset value effects) = effects.interrupts
interrupts_of (UartEnqueue bytes effects) = effects.interrupts
interrupts_of (UartTimeout interrupts) = interrupts
interrupts_of (UartRestore interrupts) = 0

abbrev pub interrupts_to_raise : (calls : List UartCall) → ℕ
interrupts_to_raise [] = 0
interrupts_to_raise (call ∷ later) = interrupts_of call + interrupts_to_raise later

-- the caller is told to ask at most twice, plus twice for each IIR read and once for each RBR read
abbrev pub UartBoundLaw : Type 0
UartBoundLaw = (start end : State) (calls : List UartCall) → Coherent start
    → UartCallsFollow start calls end
    → let kinds = decoded_ops start (trace_with [] (ops_of_calls calls)) in
    interrupts_to_raise calls ≤ 2 + 2 * count_by is_iir_read kinds + count_by is_rbr_read kinds

-- ---- one call, in any state

-- the interrupt is asked for once for each condition that becomes pending. A read makes none pending, and what a
-- restore asks for was pending before
abbrev pub UartTurnedOnLaw : Type 0
UartTurnedOnLaw = (call : UartCall) (old new : State) → IsUartCall call old new
    → interrupts_of call ≡ turned_on_count old new

-- an enqueue accepts the first bytes, which come last among those held, and leaves the others to the caller
pub record AcceptsFirst (bytes : List ℕ) (effects : EnqueueEffects) (old new : State) : Type 0 where
  pub first : take effects.accepted bytes ≡ enqueued_bytes old bytes
  pub held : new.in_buffer ≡ old.in_buffer ++ take effects.accepted bytes
  pub rest : take effects.accepted bytes ++ drop effects.accepted bytes ≡ bytes

abbrev pub UartAcceptsLaw : Type 0
UartAcceptsLaw = (bytes : List ℕ) (effects : EnqueueEffects) (old new : State) → IsUartEnqueue bytes effects old new
    → AcceptsFirst bytes effects old new

-- the call reads IIR, or RBR
abbrev pub acknowledges_rda : (call : UartCall) (s : State) → Bool
acknowledges_rda (UartRead offset effects) s = acknowledges Rda (decode_in s (Read offset))
acknowledges_rda call s = false

-- if RDA is pending whenever bytes are held and IER enables it, this stays so after every call that reads neither IIR
-- nor RBR
abbrev pub UartCoversLaw : Type 0
UartCoversLaw = (call : UartCall) (old new : State) → IsUartCall call old new → acknowledges_rda call old ≡ false
    → RdaCoversHeldBytes old → RdaCoversHeldBytes new
