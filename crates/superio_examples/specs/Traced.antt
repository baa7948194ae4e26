-- SPDX-License-Identifier: Apache-2.0 OR BSD-3-Clause
-- Accesses as the entries of a trace, and a driver that only receives.
use Rattle.std.specs.Prelude.{◌≡◌, true, List, [], ◌∷◌, ◌++◌, IsTrue}
use Rattle.superio_laws.specs.Serial.{Coherent, Op, Read, State, Trace, TraceEntry, Write}
use Rattle.superio_laws.specs.Serial.History.{is_fitting, is_fitting_entry, state_of_history}
use Rattle.superio_laws.specs.Serial.Laws.GuestDriver.{Driver, IsDriverRun}
use Rattle.superio_examples.specs.declared.many_calls.Access.{Access}

abbrev pub op_of : (access : Access) → Op
op_of (Access.Read offset) = Read offset
op_of (Access.Write offset value) = Write offset value

-- the operations of a trace, oldest first
abbrev pub ops_of : (trace : Trace) → List Op
ops_of [] = []
ops_of (entry ∷ trace) = ops_of trace ++ entry.op ∷ []

-- an operation adds an entry that fits to a trace
pub record IsAdded (op : Op) (start : State) (trace : Trace) (new : State) : Type 0 where
  pub entry : TraceEntry
  pub is_op : entry.op ≡ op
  pub fitting : IsTrue (is_fitting_entry start trace entry)
  pub state : new ≡ state_of_history start (entry ∷ trace)

-- the operation does so after each trace from a coherent start that led to the port
abbrev pub AddsEntry : (op : Op) (old new : State) → Type 0
AddsEntry op old new = (start : State) (trace : Trace) → Coherent start → old ≡ state_of_history start trace
    → IsAdded op start trace new

-- operations in order have a trace that fits, and lead to the state that it describes
pub record IsTraced (ops : List Op) (start end : State) : Type 0 where
  pub trace : Trace
  pub in_order : ops_of trace ≡ ops
  pub fitting : IsTrue (is_fitting start trace)
  pub state : end ≡ state_of_history start trace

-- a driver that has no bytes of its own to send, and therefore counts as stopped
abbrev pub receiver : Driver
receiver = record { given_at = λ trace entry. []; sends_own = λ trace entry. true; is_stopped = λ trace. true }

-- a run of this driver is added to a trace
pub record IsRunAdded (start : State) (before : Trace) (new : State) : Type 0 where
  pub run : Trace
  pub is_run : IsDriverRun receiver start before run
  pub state : new ≡ state_of_history start (run ++ before)

abbrev pub AddsRun : (old new : State) → Type 0
AddsRun old new = (start : State) (before : Trace) → Coherent start → old ≡ state_of_history start before
    → IsRunAdded start before new
