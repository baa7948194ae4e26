-- SPDX-License-Identifier: Apache-2.0 OR BSD-3-Clause
-- The laws of a list of operations on a port without objects, oldest first, as a loop makes them. Each definition is a
-- fold or a sum over the steps, so that the invariant of a loop can say how far the loop has come.
use Rattle.std.specs.Prelude.{◌≡◌, ℕ, ◌+◌, ◌*◌, ◌≤◌, List, [], ◌∷◌, ◌++◌}
use Rattle.superio_laws.specs.Serial.{Asked, Op, State, Coherent, Trace, step, step_calls, decode_in, sent_by, is_iir_read, is_rbr_read, count_if}
use Rattle.superio_laws.specs.Serial.History.{state_of_history, accepted_by, read_out_by, accepted_bytes, read_out_bytes, output, calls_due}
use Rattle.superio_laws.specs.Serial.Laws.UartRun.{trace_with}

-- the state after some operations
abbrev pub state_by : (s : State) (ops : List Op) → State
state_by s [] = s
state_by s (op ∷ later) = state_by (step s op Asked.Nothing) later

-- the bytes that they read out of the FIFO, in order
abbrev pub read_out_in : (s : State) (ops : List Op) → List ℕ
read_out_in s [] = []
read_out_in s (op ∷ later) = read_out_by (decode_in s op) s.in_buffer ++ read_out_in (step s op Asked.Nothing) later

-- the bytes that the FIFO accepts from these operations, in order
abbrev pub accepted_in : (s : State) (ops : List Op) → List ℕ
accepted_in s [] = []
accepted_in s (op ∷ later) = accepted_by (decode_in s op) s.in_buffer ++ accepted_in (step s op Asked.Nothing) later

-- the bytes that they send, in order
abbrev pub sent_in : (s : State) (ops : List Op) → List ℕ
sent_in s [] = []
sent_in s (op ∷ later) = sent_by (decode_in s op) ++ sent_in (step s op Asked.Nothing) later

-- how often they ask for the interrupt. A restore, and a retry, count 0 here: they ask as often as is due
abbrev pub asked_in : (s : State) (ops : List Op) → ℕ
asked_in s [] = 0
asked_in s (op ∷ later) = step_calls s op + asked_in (step s op Asked.Nothing) later

-- how many conditions their reads may acknowledge: an IIR read two, and an RBR read one
abbrev pub acknowledged_in : (s : State) (ops : List Op) → ℕ
acknowledged_in s [] = 0
acknowledged_in s (op ∷ later) =
    2 * count_if (is_iir_read (decode_in s op)) + count_if (is_rbr_read (decode_in s op))
    + acknowledged_in (step s op Asked.Nothing) later

-- ---- from any start

-- the bytes read out, followed by those held, are those held at first, followed by those accepted. The interrupt is
-- asked for at most twice, plus twice for each IIR read and once for each RBR read
pub record ListAgrees (s : State) (ops : List Op) : Type 0 where
  pub in_order : read_out_in s ops ++ (state_by s ops).in_buffer ≡ s.in_buffer ++ accepted_in s ops
  pub bound : asked_in s ops ≤ 2 + acknowledged_in s ops

abbrev pub ListLaw : Type 0
ListLaw = (s : State) (ops : List Op) → ListAgrees s ops

-- a list in two parts: a loop that has made the first part goes on with the second
pub record ListJoins (s : State) (first second : List Op) : Type 0 where
  pub state : state_by s (first ++ second) ≡ state_by (state_by s first) second
  pub read_out : read_out_in s (first ++ second) ≡ read_out_in s first ++ read_out_in (state_by s first) second
  pub accepted : accepted_in s (first ++ second) ≡ accepted_in s first ++ accepted_in (state_by s first) second
  pub sent : sent_in s (first ++ second) ≡ sent_in s first ++ sent_in (state_by s first) second
  pub asked : asked_in s (first ++ second) ≡ asked_in s first + asked_in (state_by s first) second
  pub acknowledged :
      acknowledged_in s (first ++ second) ≡ acknowledged_in s first + acknowledged_in (state_by s first) second

abbrev pub ListJoinLaw : Type 0
ListJoinLaw = (s : State) (first second : List Op) → ListJoins s first second

-- ---- from a coherent start: the trace of the operations says the same

-- the interrupts that the history has due at the points of a trace
abbrev pub all_calls_due : (start : State) (trace : Trace) → ℕ
all_calls_due start [] = 0
all_calls_due start (entry ∷ trace) = calls_due start trace entry.op + all_calls_due start trace

pub record ListIsHistory (start : State) (ops : List Op) : Type 0 where
  pub state : state_by start ops ≡ state_of_history start (trace_with [] ops)
  pub read_out : read_out_in start ops ≡ read_out_bytes start (trace_with [] ops)
  pub accepted : accepted_in start ops ≡ accepted_bytes start (trace_with [] ops)
  pub sent : sent_in start ops ≡ output start [] (trace_with [] ops)
  pub asked : asked_in start ops ≡ all_calls_due start (trace_with [] ops)
  pub coherent : Coherent (state_by start ops)

abbrev pub ListHistoryLaw : Type 0
ListHistoryLaw = (start : State) (ops : List Op) → Coherent start → ListIsHistory start ops
