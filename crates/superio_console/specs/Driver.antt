-- SPDX-License-Identifier: Apache-2.0 OR BSD-3-Clause
-- The laws of a console and the guest's driver. The console's calls do the monitor's part of
-- `superio_laws::guest_driver`, so only the driver's rules are left to suppose.
use Rattle.std.specs.Prelude.{⊤, ℕ, ◌≡◌, Bool, false, List, [], ◌∷◌, ◌++◌, take, length, IsTrue}
use Rattle.superio_laws.specs.Serial.{State, fresh_state, not_empty, Coherent, Rda, Thre, Trace}
use Rattle.superio_laws.specs.Serial.History.{state_of_history}
use Rattle.superio_laws.specs.Serial.Laws.UartRun.{trace_with}
use Rattle.superio_laws.specs.Serial.Laws.GuestDriver.{
  Driver,
  has_to_send,
  EndsAtNone,
  IsDriverRun,
  TimeoutAfterNone,
  IsMonitored,
  SentInOrder,
  sent,
  left,
  after_runs,
  free_runs,
}
use Rattle.superio_console.specs.Console.{ConsoleState, Call, Turns, Resets, new_console, port_calls, after}
use Rattle.superio_console.specs.Laws.{
  after_calls,
  in_each,
  in_one,
  is_reset,
  is_enabled,
  is_shown,
  IsInterrupted,
  left_in_runs,
}

-- ---- a console at a trace

-- the port is in the state to which a trace leads from a coherent start
pub record IsAt (start : State) (before : Trace) (c : ConsoleState) : Type 0 where
  pub coherent : Coherent start
  pub port : c.port ≡ state_of_history start before

-- the entries of some calls, newest first: what they make of the port
abbrev pub newest : (calls : List Call) (c : ConsoleState) → Trace
newest calls c = trace_with [] (in_each port_calls calls c)

-- a console with a coherent port, such as one that was loaded with it, is at the empty trace
abbrev pub StartLaw : Type 0
StartLaw = (c : ConsoleState) → Coherent c.port → IsAt c.port [] c

-- a new console is at the empty trace
abbrev pub FirstLaw : Type 0
FirstLaw = (is_polled : Bool) → IsAt fresh_state [] (new_console is_polled)

-- after some calls a console is at the trace with their entries added
abbrev pub NextLaw : Type 0
NextLaw = (start : State) (before : Trace) (c : ConsoleState) (calls : List Call) → IsAt start before c
    → in_one is_reset calls c ≡ false → IsAt start (newest calls c ++ before) (after_calls calls c)

-- after a reset a console is at the empty trace of a new port
abbrev pub ResetLaw : Type 0
ResetLaw = (c : ConsoleState) → IsAt fresh_state [] (after Resets c)

-- ---- the monitor's part

-- after each read of IIR that shows nothing pending, the next call of the port is a character timeout
abbrev pub TimeoutLaw : Type 0
TimeoutLaw = (start : State) (before : Trace) (c : ConsoleState) (calls : List Call) → IsAt start before c
    → in_one is_reset calls c ≡ false → TimeoutAfterNone start before (newest calls c)

-- any calls without a reset, with a turn after them, do all that `superio_laws::guest_driver` asks of a monitor
abbrev pub MonitoredLaw : Type 0
MonitoredLaw = (driver : Driver) (start : State) (before : Trace) (c : ConsoleState) (calls : List Call)
    → IsAt start before c → in_one is_reset calls c ≡ false
    → IsMonitored driver start before (newest (calls ++ Turns ∷ []) c)

-- ---- each byte is through

-- after a run, an interrupt for RDA is on its way if bytes are held, and one for THRE if the driver has bytes left and
-- flow control does not stop it. If the run ends at none, bytes are held and IER enables RDA, then RDA is pending
-- already, before any turn
pub record IsServed (driver : Driver) (start : State) (before : Trace) (run : List Call) (c : ConsoleState)
    : Type 0 where
  pub to_take : IsTrue (not_empty (after_calls run c).port.in_buffer) → IsInterrupted Rda run c
  pub to_send : IsTrue (has_to_send driver start (newest run c ++ before)) → IsInterrupted Thre run c
  pub at_none :
      EndsAtNone driver start before (newest run c) → IsTrue (not_empty (after_calls run c).port.in_buffer)
      → IsTrue (is_enabled Rda (after_calls run c))
      → IsTrue (is_shown Rda (after_calls run c))

-- runs, in order: each is any list of the console's calls that has no reset and keeps the driver's rules, and each
-- begins where the run before it ends
abbrev pub AreRuns :
    (driver : Driver) (start : State) (before : Trace) (runs : List (List Call)) (c : ConsoleState) → Type 0
AreRuns driver start before [] c = ⊤
AreRuns driver start before (run ∷ later) c =
    (in_one is_reset run c ≡ false) × IsDriverRun driver start before (newest run c)
    × AreRuns driver start (newest run c ++ before) later (after_calls run c)

abbrev pub EachIsServed :
    (driver : Driver) (start : State) (before : Trace) (runs : List (List Call)) (c : ConsoleState) → Type 0
EachIsServed driver start before [] c = ⊤
EachIsServed driver start before (run ∷ later) c =
    IsServed driver start before run c
    × EachIsServed driver start (newest run c ++ before) later (after_calls run c)

-- the entries of each run
abbrev pub runs_of : (runs : List (List Call)) (c : ConsoleState) → List Trace
runs_of [] c = []
runs_of (run ∷ later) c = newest run c ∷ runs_of later (after_calls run c)

-- after each run, an interrupt is on its way for what is left. The bytes held before the runs are read out first, in
-- order, at least one in each run. If the driver sends its bytes in order, the bytes left before the runs are sent
-- first, at least one in each run in which flow control never stops it
pub record AllIsThrough
    (driver : Driver) (start : State) (before : Trace) (runs : List (List Call)) (c : ConsoleState)
    : Type 0 where
  pub interrupted : EachIsServed driver start before runs c
  pub taken : (more : List ℕ) × (left_in_runs runs c ≡ take (length runs) c.port.in_buffer ++ more)
  pub sent :
      let end : Trace = after_runs before (runs_of runs c) in
      SentInOrder driver start before → SentInOrder driver start end
      → (more : List ℕ) × (sent driver start end
      ≡ sent driver start before ++ take (free_runs driver before (runs_of runs c)) (left driver start before) ++ more)

-- if the runs keep the driver's rules, they read out and send the first bytes first, and after each run an interrupt is
-- on its way for what is left. The console's calls do the monitor's part
abbrev pub EachByteIsThroughLaw : Type 0
EachByteIsThroughLaw = (driver : Driver) (start : State) (before : Trace) (c : ConsoleState) (runs : List (List Call))
    → IsAt start before c → AreRuns driver start before runs c → AllIsThrough driver start before runs c
