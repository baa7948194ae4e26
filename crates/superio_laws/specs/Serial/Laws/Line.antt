-- SPDX-License-Identifier: Apache-2.0 OR BSD-3-Clause
-- The laws of a character timeout, after which no byte waits without an interrupt; of a driver that takes bytes at
-- interrupts; and of the level of the interrupt line.
use Rattle.std.specs.Prelude.{
  ◌≡◌,
  false,
  ◌∷◌,
  IsTrue,
  ℕ,
  zero,
  suc,
  ◌≤◌,
  ◌<◌,
  List,
  ◌++◌,
  length,
  ◌⊎◌,
  Bool,
  true,
  not,
  ◌==◌,
  ◌&&◌,
  ◌||◌,
  IsFalse,
}
use Rattle.superio_laws.specs.Serial.{
  Asked,
  Sent,
  CharacterTimeout,
  TraceEntry,
  Trace,
  IirRead,
  Op,
  answer_count,
  DecodedOp,
  RbrRead,
  IerWrite,
  has_bits,
  only_bits,
  State,
  not_empty,
  ier_bits,
  Rda,
  Thre,
  Condition,
  ier_bit,
  identification_of,
  step,
  decode_in,
  answers_fit,
  is_asserted,
  irq_level,
}
use Rattle.superio_laws.specs.Serial.History.{
  ier_after,
  held_bytes,
  decode_at,
  read_out_bytes,
  is_pending,
  is_call_due,
  is_fitting,
  RdaFollowsTimeouts,
}
use Rattle.superio_laws.specs.Serial.Laws.{state_after}

abbrev pub timeout_entry : (asked : Asked) → TraceEntry
timeout_entry asked = record { op = CharacterTimeout; asked = asked; sent = Sent.Nothing }

-- in a trace: RDA is pending afterwards if bytes are held and IER enables it, even if the trigger refused
abbrev pub NoByteWaitsLaw : Type 0
NoByteWaitsLaw = (start : State) (trace : Trace) (asked : Asked)
    → IsTrue (not_empty (held_bytes start (timeout_entry asked ∷ trace)))
    → IsTrue (has_bits (ier_after start (timeout_entry asked ∷ trace)) (ier_bit Rda))
    → IsTrue (is_pending Rda start (timeout_entry asked ∷ trace))

-- if RDA was not pending before the timeout, the trigger is called
abbrev pub TimeoutCallsLaw : Type 0
TimeoutCallsLaw = (start : State) (trace : Trace) (asked : Asked)
    → IsTrue (not_empty (held_bytes start trace))
    → IsTrue (has_bits (ier_after start trace) (ier_bit Rda))
    → is_pending Rda start trace ≡ false
    → IsTrue (is_call_due Rda start trace (timeout_entry asked))

-- both hold for every timeout of a fitting trace, with the answers that the trace records
abbrev pub RdaFollowsTimeoutsLaw : Type 0
RdaFollowsTimeoutsLaw =
    (start : State) (trace : Trace) → IsTrue (is_fitting start trace) → RdaFollowsTimeouts start trace

-- ---- a driver that ends each run with a read of IIR, whatever else it does: its runs take all that is held

-- a run of such a driver. It is any list of entries after `before`, newest first, whoever made their calls. A byte is
-- read out in the run if one is held when it begins, and the run's last call reads IIR
pub record IsSimpleRun (start : State) (before run : Trace) : Type 0 where
  pub earlier : Trace
  pub last : TraceEntry
  pub ends : run ≡ last ∷ earlier
  pub reads_iir : decode_at start (earlier ++ before) last.op ≡ IirRead
  pub takes :
      IsTrue (not_empty (held_bytes start before))
      → length (read_out_bytes start before) < length (read_out_bytes start (run ++ before))

-- a character timeout right after such a run asks for the interrupt again if bytes are held and IER enables RDA
abbrev pub InterruptAfterRunLaw : Type 0
InterruptAfterRunLaw = (start : State) (before run : Trace) (asked : Asked) → IsSimpleRun start before run
    → IsTrue (not_empty (held_bytes start (run ++ before)))
    → IsTrue (has_bits (ier_after start (run ++ before)) (ier_bit Rda))
    → IsTrue (is_call_due Rda start (run ++ before) (timeout_entry asked))

-- `runs` such runs, each with a timeout right after it, lead from the trace `before` to the trace `after`
abbrev pub AreSimpleRuns : (start : State) (runs : ℕ) (before after : Trace) → Type 0
AreSimpleRuns start zero before after = after ≡ before
AreSimpleRuns start (suc others) before after =
    (run : Trace) × (asked : Asked) × IsSimpleRun start before run
    × AreSimpleRuns start others (timeout_entry asked ∷ run ++ before) after

-- after as many runs as bytes were held at first, all of these bytes are read out, in order
abbrev pub ReadOutAfterRunsLaw : Type 0
ReadOutAfterRunsLaw = (start : State) (runs : ℕ) (before after : Trace) → AreSimpleRuns start runs before after
    → length (held_bytes start before) ≤ runs
    → (more : List ℕ)
    × (read_out_bytes start after ≡ read_out_bytes start before ++ held_bytes start before ++ more)

-- ---- the level of the interrupt line and the trigger: the line rises where the trigger is called. This holds in any
-- state, coherent or not.

-- the trigger was called, whatever it answered
abbrev pub is_called : (asked : Asked) → Bool
is_called asked = not (answer_count asked == 0)

-- the level that an IER write of this value gives the conditions that are pending already
abbrev pub is_line_up_under : (value : ℕ) (s : State) → Bool
is_line_up_under value s = irq_level (record s { interrupt_enable = only_bits value ier_bits })

-- the level after a call, by what the call means and whether it called the trigger. An IIR read leaves the line down.
-- An RBR read leaves it up only for THRE. After an IER write the line is up if the new value enables a condition that
-- was pending, or if the trigger was called. After every other call it is up if it was up, or if the trigger was called
abbrev pub line_after : (kind : DecodedOp) (called : Bool) (s : State) → Bool
line_after IirRead called s = false
line_after RbrRead called s = is_asserted Thre s
line_after (IerWrite value) called s = called || is_line_up_under value s
line_after kind called s = called || irq_level s

abbrev pub LineAfterLaw : Type 0
LineAfterLaw = (s : State) (op : Op) (asked : Asked) (sent : Sent) → IsTrue (answers_fit s op asked sent)
    → irq_level (step s op asked) ≡ line_after (decode_in s op) (is_called asked) s

-- a call that calls the trigger leaves the line up, even if the trigger refuses
abbrev pub UpAfterCallLaw : Type 0
UpAfterCallLaw = (s : State) (op : Op) (asked : Asked) (sent : Sent) → IsTrue (answers_fit s op asked sent)
    → IsTrue (is_called asked) → IsTrue (irq_level (step s op asked))

-- an IER write enables a condition that is pending already. The trigger is not called again for the condition
abbrev pub EnablesPending : (kind : DecodedOp) (s : State) → Type 0
EnablesPending kind s = (value : ℕ) × (kind ≡ IerWrite value) × IsTrue (is_line_up_under value s)

-- where the line goes up, the trigger was called, or an IER write enabled a pending condition
abbrev pub GoesUpLaw : Type 0
GoesUpLaw = (s : State) (op : Op) (asked : Asked) (sent : Sent) → IsTrue (answers_fit s op asked sent)
    → IsFalse (irq_level s) → IsTrue (irq_level (step s op asked))
    → IsTrue (is_called asked) ⊎ EnablesPending (decode_in s op) s

-- a read of IIR or RBR, or an IER write
abbrev pub may_lower_line : (kind : DecodedOp) → Bool
may_lower_line IirRead = true
may_lower_line RbrRead = true
may_lower_line (IerWrite value) = true
may_lower_line kind = false

-- a call that is neither a read of IIR or RBR nor an IER write never lowers the line
abbrev pub StaysUpLaw : Type 0
StaysUpLaw = (s : State) (op : Op) (asked : Asked) (sent : Sent) → IsTrue (answers_fit s op asked sent)
    → IsFalse (may_lower_line (decode_in s op)) → IsTrue (irq_level s) → IsTrue (irq_level (step s op asked))

-- by the history: a condition is pending, and the last effective write of IER enables it
abbrev pub is_asserted_at : (condition : Condition) (start : State) (trace : Trace) → Bool
is_asserted_at condition start trace =
    is_pending condition start trace && has_bits (ier_after start trace) (ier_bit condition)

abbrev pub LineOfHistoryLaw : Type 0
LineOfHistoryLaw = (start : State) (trace : Trace) (thre rda : Bool)
    → start.interrupt_identification ≡ identification_of thre rda
    → irq_level (state_after start trace) ≡ (is_asserted_at Thre start trace || is_asserted_at Rda start trace)
