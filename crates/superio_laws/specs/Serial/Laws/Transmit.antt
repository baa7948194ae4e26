-- SPDX-License-Identifier: Apache-2.0 OR BSD-3-Clause
-- The laws of the transmitter's interrupt: what asks a driver for more bytes, and what a refused trigger call
-- costs.
use Rattle.std.specs.Prelude.{◌≡◌, ℕ, ◌+◌, false, List, ◌∷◌, ◌++◌, not, ◌&&◌, IsTrue}
use Rattle.superio_laws.specs.Serial.{answer_count, count_if, is_refused_at_once, TraceEntry, Trace, IirRead, IerWrite, ThrWrite, has_bits, State, Rda, Thre, Condition, ier_bit}
use Rattle.superio_laws.specs.Serial.History.{ier_after, decode_at, is_raised, is_pending, is_call_due, is_fitting_entry, conditions_due_after}
use Rattle.superio_laws.specs.Serial.Laws.Line.{is_called}

-- an entry raises THRE, and calls the trigger once for it if it was not pending; a refused call counts
pub record AsksForMore (start : State) (before : Trace) (entry : TraceEntry) : Type 0 where
  pub raised : IsTrue (is_raised Thre start before entry)
  pub called :
      answer_count entry.asked
      ≡ count_if (is_call_due Rda start before entry) + count_if (not (is_pending Thre start before))

-- an IER write that enables THRE asks for more, unless the trigger refused its call for RDA
abbrev pub IerWriteAsksLaw : Type 0
IerWriteAsksLaw = (start : State) (before : Trace) (entry : TraceEntry) (value : ℕ)
    → IsTrue (is_fitting_entry start before entry)
    → decode_at start before entry.op ≡ IerWrite value → IsTrue (has_bits value (ier_bit Thre))
    → (is_call_due Rda start before entry && is_refused_at_once entry.asked) ≡ false
    → AsksForMore start before entry

-- each THR write outside loopback asks for more while IER enables THRE
abbrev pub ThrWriteAsksLaw : Type 0
ThrWriteAsksLaw = (start : State) (before : Trace) (entry : TraceEntry) (value : ℕ)
    → IsTrue (is_fitting_entry start before entry)
    → decode_at start before entry.op ≡ ThrWrite value
    → IsTrue (has_bits (ier_after start before) (ier_bit Thre))
    → AsksForMore start before entry

-- ---- a trigger that refuses

-- a retry calls the trigger for the condition
abbrev pub IsRetried : (condition : Condition) (start : State) (trace : Trace) → Type 0
IsRetried condition start trace =
    (first later : List Condition) × (conditions_due_after start trace ≡ first ++ condition ∷ later)

-- a retry calls the trigger for a condition as long as it is pending and enabled
abbrev pub RetriedLaw : Type 0
RetriedLaw = (condition : Condition) (start : State) (trace : Trace)
    → IsTrue (is_pending condition start trace) → IsTrue (has_bits (ier_after start trace) (ier_bit condition))
    → IsRetried condition start trace

-- an IER write that calls the trigger for RDA leaves RDA pending and enabled. So if the trigger refuses this call, and
-- the write therefore does not raise THRE, a retry still asks the driver
abbrev pub RefusedWriteLaw : Type 0
RefusedWriteLaw = (start : State) (before : Trace) (entry : TraceEntry) (value : ℕ)
    → decode_at start before entry.op ≡ IerWrite value → IsTrue (is_call_due Rda start before entry)
    → IsRetried Rda start (entry ∷ before)

-- ---- what is pending was called for

-- among these entries after `before`, newest first, there is one at which a trigger call for the condition is due.
-- If the entry is fitting, the trigger was called, and took the call or refused it
pub record CallsFor (condition : Condition) (start : State) (before newest : Trace) : Type 0 where
  pub later : Trace
  pub entry : TraceEntry
  pub earlier : Trace
  pub place : newest ≡ later ++ entry ∷ earlier
  pub due : IsTrue (is_call_due condition start (earlier ++ before) entry)
  pub called : IsTrue (is_fitting_entry start (earlier ++ before) entry) → IsTrue (is_called entry.asked)

-- a condition that is pending after a read of IIR was called for since
abbrev pub CalledSinceLaw : Type 0
CalledSinceLaw = (condition : Condition) (start : State) (after before : Trace) (iir : TraceEntry)
    → decode_at start before iir.op ≡ IirRead → IsTrue (is_pending condition start (after ++ iir ∷ before))
    → CallsFor condition start (iir ∷ before) after
