-- SPDX-License-Identifier: Apache-2.0 OR BSD-3-Clause
-- The laws of a driver that takes received bytes and sends its own, over a port whose monitor makes character timeouts.
-- They are about runs, which are lists of the port's calls that keep the driver's rules. After each run, an interrupt
-- has been asked for if bytes are held or left to send, and the bytes that were there first have been moved first.
use Rattle.std.specs.Prelude.{
  ◌≡◌,
  ⊤,
  ℕ,
  ◌+◌,
  ◌<◌,
  ◌≤◌,
  Bool,
  false,
  not,
  ◌&&◌,
  ◌||◌,
  if◌then◌else◌,
  List,
  [],
  ◌∷◌,
  ◌++◌,
  length,
  take,
  drop,
  ◌⊎◌,
  IsTrue,
}
use Rattle.superio_laws.specs.Serial.{
  Asked,
  is_refused_at_once,
  count_if,
  TraceEntry,
  Trace,
  IirRead,
  IerWrite,
  ThrWrite,
  is_iir_read,
  is_rbr_read,
  sent_by,
  has_bits,
  State,
  not_empty,
  Rda,
  Thre,
  Condition,
  ier_bit,
}
use Rattle.superio_laws.specs.Serial.History.{
  ier_after,
  held_bytes,
  read_out_bytes,
  decode_at,
  is_call_due,
  is_pending,
  NoneAcknowledges,
}
use Rattle.superio_laws.specs.Serial.Laws.Line.{timeout_entry}
use Rattle.superio_laws.specs.Serial.Laws.Transmit.{IsRetried, CallsFor}

-- ---- a driver's own bytes

-- what a trace does not show of a driver
pub record Driver : Type 0 where
  -- the bytes that the driver is given to send, together with a call at this point
  pub given_at : Trace → TraceEntry → List ℕ
  -- a THR write at this point sends a byte of the driver's own, and not somebody else's, such as a message that the
  -- kernel prints by polling
  pub sends_own : Trace → TraceEntry → Bool
  -- flow control has stopped the driver at this point
  pub is_stopped : Trace → Bool

-- all bytes that the driver has been given so far, in order
abbrev pub given : (driver : Driver) (trace : Trace) → List ℕ
given driver [] = []
given driver (entry ∷ trace) = given driver trace ++ driver.given_at trace entry

-- the bytes that the driver has sent as its own so far, in order
abbrev pub sent : (driver : Driver) (start : State) (trace : Trace) → List ℕ
sent driver start [] = []
sent driver start (entry ∷ trace) =
    sent driver start trace
    ++ (if driver.sends_own trace entry then sent_by (decode_at start trace entry.op) else [])

-- the bytes left to send: if the driver has sent k bytes, these are the bytes given without the first k
abbrev pub left : (driver : Driver) (start : State) (trace : Trace) → List ℕ
left driver start trace = drop (length (sent driver start trace)) (given driver trace)

-- the driver has sent in order: if it has sent k bytes, these are the first k of the bytes that it was given
abbrev pub SentInOrder : (driver : Driver) (start : State) (trace : Trace) → Type 0
SentInOrder driver start trace = given driver trace ≡ sent driver start trace ++ left driver start trace

-- the driver can send: it has bytes left, and flow control does not stop it
abbrev pub has_to_send : (driver : Driver) (start : State) (trace : Trace) → Bool
has_to_send driver start trace = not_empty (left driver start trace) && not (driver.is_stopped trace)

-- an IER write that enables THRE and has no refused call for RDA. If that call is refused, the write does not raise
-- THRE, and a retry asks the driver instead (`RefusedWriteLaw`)
abbrev pub EnablesThre : (start : State) (before : Trace) (entry : TraceEntry) → Type 0
EnablesThre start before entry =
    (value : ℕ) × (decode_at start before entry.op ≡ IerWrite value) × IsTrue (has_bits value (ier_bit Thre))
    × ((is_call_due Rda start before entry && is_refused_at_once entry.asked) ≡ false)

-- a THR write outside loopback while IER enables THRE
abbrev pub SendsEnabled : (start : State) (before : Trace) (entry : TraceEntry) → Type 0
SendsEnabled start before entry =
    (value : ℕ) × (decode_at start before entry.op ≡ ThrWrite value)
    × IsTrue (has_bits (ier_after start before) (ier_bit Thre))

-- the driver becomes able to send, because it is given bytes or goes on after a stop, only at an entry that enables
-- THRE (`EnablesThre`), or that sends a byte while IER enables THRE (`SendsEnabled`). `newest` are the entries after
-- `before`, newest first
abbrev pub AsksWhenGiven : (driver : Driver) (start : State) (before newest : Trace) → Type 0
AsksWhenGiven driver start before newest =
    (later earlier : Trace) (entry : TraceEntry) → newest ≡ later ++ entry ∷ earlier
    → IsTrue (has_to_send driver start (entry ∷ earlier ++ before))
    → IsTrue (has_to_send driver start (earlier ++ before))
    ⊎ EnablesThre start (earlier ++ before) entry ⊎ SendsEnabled start (earlier ++ before) entry

-- ---- a driver's run

-- IIR is not read in these entries
abbrev pub NoIirRead : (start : State) (newest trace : Trace) → Type 0
NoIirRead start newest trace = NoneAcknowledges start is_iir_read newest trace

-- neither IIR nor RBR is read in these entries
abbrev pub NoIirOrRbrRead : (start : State) (newest trace : Trace) → Type 0
NoIirOrRbrRead start newest trace = NoneAcknowledges start (λ kind. is_iir_read kind || is_rbr_read kind) newest trace

-- in these entries the driver sends one of its own bytes, by a THR write outside loopback while IER enables THRE
pub record SendsOne (driver : Driver) (start : State) (before newest : Trace) : Type 0 where
  pub later : Trace
  pub entry : TraceEntry
  pub earlier : Trace
  pub value : ℕ
  pub place : newest ≡ later ++ entry ∷ earlier
  pub writes : decode_at start (earlier ++ before) entry.op ≡ ThrWrite value
  pub own : IsTrue (driver.sends_own (earlier ++ before) entry)
  pub enabled : IsTrue (has_bits (ier_after start (earlier ++ before)) (ier_bit Thre))

-- at some point of these entries the driver has no bytes left, or is stopped
abbrev pub Rests : (driver : Driver) (start : State) (before newest : Trace) → Type 0
Rests driver start before newest =
    (later earlier : Trace) × (newest ≡ later ++ earlier) × (has_to_send driver start (earlier ++ before) ≡ false)

-- a pass begins with a read of IIR, which is the newest entry of `before`. These entries follow it, and do not read IIR
-- again. The driver sends one of its bytes in them, or has none left or is stopped at some point
pub record IsPass (driver : Driver) (start : State) (before pass : Trace) : Type 0 where
  pub unread : NoIirRead start pass before
  pub sends : SendsOne driver start before pass ⊎ Rests driver start before pass

-- IIR shows nothing pending at this point
abbrev pub ShowsNone : (start : State) (trace : Trace) → Type 0
ShowsNone start trace = (is_pending Thre start trace ≡ false) × (is_pending Rda start trace ≡ false)

-- a run that ends at none, as with Linux and Xen: it has two or more reads of IIR, the last one shows nothing pending,
-- and nobody reads RBR after that. The last read ends the closing pass
pub record EndsAtNone (driver : Driver) (start : State) (before run : Trace) : Type 0 where
  pub tail : Trace
  pub none : TraceEntry
  pub pass : Trace
  pub iir : TraceEntry
  pub earlier : Trace
  pub place : run ≡ tail ++ none ∷ (pass ++ iir ∷ earlier)
  pub reads : decode_at start (earlier ++ before) iir.op ≡ IirRead
  pub is_pass : IsPass driver start (iir ∷ earlier ++ before) pass
  pub reads_none : decode_at start (pass ++ (iir ∷ earlier ++ before)) none.op ≡ IirRead
  pub shows_none : ShowsNone start (pass ++ (iir ∷ earlier ++ before))
  pub untouched : NoIirOrRbrRead start tail (none ∷ (pass ++ (iir ∷ earlier ++ before)))

-- a run that ends in a pass, as with a driver that reads IIR once
pub record EndsInPass (driver : Driver) (start : State) (before run : Trace) : Type 0 where
  pub pass : Trace
  pub iir : TraceEntry
  pub earlier : Trace
  pub place : run ≡ pass ++ iir ∷ earlier
  pub reads : decode_at start (earlier ++ before) iir.op ≡ IirRead
  pub is_pass : IsPass driver start (iir ∷ earlier ++ before) pass

-- a run that keeps the driver's rules. It is any list of entries after `before`, newest first, whoever made their
-- calls. A byte is read out in the run if one is held when it begins, and the run ends in one of the two ways
pub record IsDriverRun (driver : Driver) (start : State) (before run : Trace) : Type 0 where
  pub takes :
      IsTrue (not_empty (held_bytes start before))
      → length (read_out_bytes start before) < length (read_out_bytes start (run ++ before))
  pub ends : EndsAtNone driver start before run ⊎ EndsInPass driver start before run
  pub asks : AsksWhenGiven driver start before run

-- ---- the monitor's part

-- after each read of IIR in these entries that shows nothing pending, the next call is a character timeout
abbrev pub TimeoutAfterNone : (start : State) (before newest : Trace) → Type 0
TimeoutAfterNone start before newest =
    (after earlier : Trace) (read : TraceEntry) → newest ≡ after ++ read ∷ earlier
    → decode_at start (earlier ++ before) read.op ≡ IirRead → ShowsNone start (earlier ++ before)
    → (later : Trace) × (asked : Asked) × (after ≡ later ++ timeout_entry asked ∷ [])

-- these entries have a character timeout after which neither IIR nor RBR is read
pub record EndsInTimeout (start : State) (before newest : Trace) : Type 0 where
  pub later : Trace
  pub asked : Asked
  pub earlier : Trace
  pub place : newest ≡ later ++ timeout_entry asked ∷ earlier
  pub unread : NoIirOrRbrRead start later (timeout_entry asked ∷ earlier ++ before)

-- the monitor makes both kinds of timeout. It makes the second kind in a turn of its event loop, and only a run that
-- does not end at none needs it
pub record IsMonitored (driver : Driver) (start : State) (before run : Trace) : Type 0 where
  pub after_none : TimeoutAfterNone start before run
  pub in_loop : EndsAtNone driver start before run ⊎ EndsInTimeout start before run

-- ---- the driver is asked again

-- the interrupt is asked for: the condition is pending, and after each read of IIR in the run a trigger call for it was
-- due. While IER enables the condition, a retry calls the trigger for it, too
pub record IsAskedFor (condition : Condition) (start : State) (before run : Trace) : Type 0 where
  pub pending : IsTrue (is_pending condition start (run ++ before))
  pub called :
      (later earlier : Trace) (iir : TraceEntry) → run ≡ later ++ iir ∷ earlier
      → decode_at start (earlier ++ before) iir.op ≡ IirRead → CallsFor condition start (iir ∷ earlier ++ before) later
  pub retried :
      IsTrue (has_bits (ier_after start (run ++ before)) (ier_bit condition))
      → IsRetried condition start (run ++ before)

-- after each run, the interrupt for RDA is asked for if bytes are held, IER enables RDA, and the monitor makes its
-- timeouts. No other of these laws needs the timeouts
abbrev pub InterruptToReadLaw : Type 0
InterruptToReadLaw = (driver : Driver) (start : State) (before run : Trace) → IsDriverRun driver start before run
    → IsMonitored driver start before run
    → IsTrue (not_empty (held_bytes start (run ++ before)))
    → IsTrue (has_bits (ier_after start (run ++ before)) (ier_bit Rda))
    → IsAskedFor Rda start before run

-- after each run, the interrupt for THRE is asked for if the driver has bytes left and is not stopped
abbrev pub InterruptToSendLaw : Type 0
InterruptToSendLaw = (driver : Driver) (start : State) (before run : Trace) → IsDriverRun driver start before run
    → IsTrue (has_to_send driver start (run ++ before)) → IsAskedFor Thre start before run

-- ---- every byte is through

-- each of these runs keeps the driver's rules, and begins where the run before it ends
abbrev pub AreDriverRuns : (driver : Driver) (start : State) (before : Trace) (runs : List Trace) → Type 0
AreDriverRuns driver start before [] = ⊤
AreDriverRuns driver start before (run ∷ later) =
    IsDriverRun driver start before run × AreDriverRuns driver start (run ++ before) later

-- the trace after some runs
abbrev pub after_runs : (before : Trace) (runs : List Trace) → Trace
after_runs before [] = before
after_runs before (run ∷ later) = after_runs (run ++ before) later

-- the driver is stopped at no point of these entries
abbrev pub is_free : (driver : Driver) (before newest : Trace) → Bool
is_free driver before [] = not (driver.is_stopped before)
is_free driver before (entry ∷ newest) =
    is_free driver before newest && not (driver.is_stopped (entry ∷ newest ++ before))

-- how many of the runs are without a stop
abbrev pub free_runs : (driver : Driver) (before : Trace) (runs : List Trace) → ℕ
free_runs driver before [] = 0
free_runs driver before (run ∷ later) = count_if (is_free driver before run) + free_runs driver (run ++ before) later

-- n runs read out at least the first n of the bytes held before them, in order, or all if there are fewer
abbrev pub ReadOutInRunsLaw : Type 0
ReadOutInRunsLaw = (driver : Driver) (start : State) (before : Trace) (runs : List Trace)
    → AreDriverRuns driver start before runs
    → (more : List ℕ) × (read_out_bytes start (after_runs before runs)
    ≡ read_out_bytes start before ++ take (length runs) (held_bytes start before) ++ more)

-- if the driver sends in order, and is never stopped in n of the runs, they send at least the first n of the bytes left
-- before them, in order, or all if there are fewer
abbrev pub SentInRunsLaw : Type 0
SentInRunsLaw = (driver : Driver) (start : State) (before : Trace) (runs : List Trace)
    → AreDriverRuns driver start before runs
    → SentInOrder driver start before → SentInOrder driver start (after_runs before runs)
    → (more : List ℕ) × (sent driver start (after_runs before runs)
    ≡ sent driver start before ++ take (free_runs driver before runs) (left driver start before) ++ more)

-- ---- a handler of Linux's shape

-- at some point of these entries no byte is held, and neither RBR nor IIR is read after that, because the driver reads
-- bytes only until LSR shows that none is left
pub record TakesUntilNone (start : State) (before newest : Trace) : Type 0 where
  pub later : Trace
  pub earlier : Trace
  pub place : newest ≡ later ++ earlier
  pub none : held_bytes start (earlier ++ before) ≡ []
  pub unread : NoIirOrRbrRead start later (earlier ++ before)

-- at least `most` bytes are read out in these entries
abbrev pub TakesMost : (start : State) (most : ℕ) (before newest : Trace) → Type 0
TakesMost start most before newest =
    length (read_out_bytes start before) + most ≤ length (read_out_bytes start (newest ++ before))

-- a run of a handler like Linux's. It ends at none, and in its closing pass bytes are taken until none is held, or
-- until `most` are taken. Linux takes at most 256
pub record IsHandlerRun (most : ℕ) (driver : Driver) (start : State) (before run : Trace) : Type 0 where
  pub ends : EndsAtNone driver start before run
  pub asks : AsksWhenGiven driver start before run
  pub some : 0 < most
  pub takes :
      TakesUntilNone start (ends.iir ∷ ends.earlier ++ before) ends.pass
      ⊎ TakesMost start most (ends.iir ∷ ends.earlier ++ before) ends.pass

-- such a run keeps the driver's rules
abbrev pub HandlerRunLaw : Type 0
HandlerRunLaw = (most : ℕ) (driver : Driver) (start : State) (before run : Trace)
    → IsHandlerRun most driver start before run → IsDriverRun driver start before run

-- when the handler reads that nothing is pending, it has sent all its bytes, unless it is stopped. If IER then enables
-- RDA, it has also taken all bytes, unless the closing pass took `most`: what that pass left waits for the character
-- timeout
abbrev pub HandlerEndsLaw : Type 0
HandlerEndsLaw = (most : ℕ) (driver : Driver) (start : State) (before run : Trace)
    → (is : IsHandlerRun most driver start before run)
    → let opened : Trace = is.ends.iir ∷ is.ends.earlier ++ before in let end : Trace = is.ends.pass ++ opened in
    (has_to_send driver start end ≡ false)
    × (IsTrue (has_bits (ier_after start end) (ier_bit Rda))
    → (held_bytes start end ≡ []) ⊎ TakesMost start most opened is.ends.pass)
