-- SPDX-License-Identifier: Apache-2.0 OR BSD-3-Clause
-- The laws of a console, over any list of calls, in any order, from any state.
use Rattle.std.specs.Prelude.{⊤, ℕ, ◌+◌, ◌-◌, ◌==◌, ◌<◌, ◌^◌, ◌≡◌, ◌⊎◌, Bool, true, false, not, ◌&&◌, ◌||◌, min, nat_lt, List, [], ◌∷◌, ◌++◌, length, take, IsTrue}
use Rattle.superio_laws.specs.Serial.{has_bits, fifo_size, not_empty, irq_level, conditions_due, ier_bit, iir_bit, Condition, Rda, Thre, is_iir_read, iir_none_bit, is_loopback, RdaCoversHeldBytes, Read, Write, ByteRead, decode_in, Trace}
use Rattle.superio_laws.specs.Serial.History.{byte_read, accepted_by, raises_thre}
use Rattle.superio_laws.specs.Serial.Laws.{state_after}
use Rattle.superio_laws.specs.Serial.Laws.UartRun.{trace_with}
use Rattle.superio_console.specs.OutputRing.{output_size}
use Rattle.superio_console.specs.Console.{ConsoleState, Call, Reads, Writes, Receives, Consumes, Turns, Refuses, Resets, Suspends, SetsPolled, Wants, new_console, wants_of, shown_at, retries, port_calls, sent_at, after, interrupts_of, wakes}

-- ---- several calls, oldest first

abbrev pub after_calls : (calls : List Call) (c : ConsoleState) → ConsoleState
after_calls [] c = c
after_calls (call ∷ later) c = after_calls later (after call c)

-- what each call has, one after the other
abbrev pub in_each : {A : Type 0} → (of : Call → ConsoleState → List A) (calls : List Call) (c : ConsoleState) → List A
in_each of [] c = []
in_each of (call ∷ later) c = of call c ++ in_each of later (after call c)

-- one of the calls has it
abbrev pub in_one : (of : Call → ConsoleState → Bool) (calls : List Call) (c : ConsoleState) → Bool
in_one of [] c = false
in_one of (call ∷ later) c = of call c || in_one of later (after call c)

abbrev pub is_reset : (call : Call) (c : ConsoleState) → Bool
is_reset Resets c = true
is_reset call c = false

-- ---- the port

-- the trace of the port under these calls, for the laws of superio_laws
abbrev pub trace_of : (calls : List Call) (c : ConsoleState) → Trace
trace_of calls c = trace_with [] (in_each port_calls calls c)

-- without a reset the port is the one to which the steps of this trace lead
abbrev pub PortLaw : Type 0
PortLaw = (calls : List Call) (c : ConsoleState) → in_one is_reset calls c ≡ false
    → (after_calls calls c).port ≡ state_after c.port (trace_of calls c)

-- ---- waking the event loop

-- the new wants name something that the old ones did not: input, output or a turn
abbrev pub NamesMore : (old new : Wants) → Type 0
NamesMore old new =
    ((old.input ≡ 0) × (0 < new.input))
    ⊎ ((old.output ≡ false) × (new.output ≡ true))
    ⊎ ((old.turn ≡ false) × (new.turn ≡ true))

-- if the wants name something in the end that they did not name at first, one of the calls said to wake the loop
abbrev pub WakeLaw : Type 0
WakeLaw = (calls : List Call) (c : ConsoleState) → NamesMore (wants_of c) (wants_of (after_calls calls c))
    → IsTrue (in_one wakes calls c)

-- a call says to wake the loop only if the wants name something more after it
abbrev pub NoNeedlessWakeLaw : Type 0
NoNeedlessWakeLaw = (call : Call) (c : ConsoleState)
    → IsTrue (wakes call c) → NamesMore (wants_of c) (wants_of (after call c))

-- `consume`, the reader's call, never has to wake the loop
abbrev pub ConsumeLaw : Type 0
ConsumeLaw = (count : ℕ) (c : ConsoleState) → wakes (Consumes count) c ≡ false

-- ---- no byte waits

-- a guest's read of IIR
abbrev pub reads_iir : (call : Call) (c : ConsoleState) → Bool
reads_iir (Reads offset) c = is_iir_read (decode_in c.port (Read offset))
reads_iir call c = false

-- after a turn, and after a read of IIR that shows that nothing is pending, IIR shows RDA if bytes are held and IER
-- enables it
abbrev pub CoveredLaw : Type 0
CoveredLaw = (c : ConsoleState) → RdaCoversHeldBytes (after Turns c).port
    × ((offset : ℕ) → IsTrue (reads_iir (Reads offset) c) → IsTrue (has_bits (shown_at offset c.port) iir_none_bit)
    → RdaCoversHeldBytes (after (Reads offset) c).port)

-- the loop is told to come back while bytes are held and IER enables RDA
abbrev pub HeldLaw : Type 0
HeldLaw = (c : ConsoleState) → IsTrue (not_empty c.port.in_buffer)
    → IsTrue (has_bits c.port.interrupt_enable (ier_bit Rda)) → IsTrue (wants_of c).turn

-- after a refusal, too, the loop is told to come back, as long as the line is up because a condition is pending and
-- enabled
abbrev pub RefusedLaw : Type 0
RefusedLaw = (c : ConsoleState) → IsTrue c.is_refused → IsTrue (irq_level c.port) → IsTrue (wants_of c).turn

-- after a refusal a turn, and a write at the offset of IER, ask once for each condition that is then pending and
-- enabled
abbrev pub RetryLaw : Type 0
RetryLaw = (c : ConsoleState) → IsTrue c.is_refused
    → (interrupts_of Turns c ≡ length (conditions_due (after Turns c).port))
    × ((value : ℕ) → interrupts_of (Writes 1 value) c ≡ length (conditions_due (after (Writes 1 value) c).port))

-- a turn, or a write at the offset of IER, that asks for an interrupt
abbrev pub asks_again : (call : Call) (c : ConsoleState) → Bool
asks_again call c = retries call && not (length (conditions_due (after call c).port) == 0)

-- a refusal is forgotten only at a call that asks again (`asks_again`), at a read of IIR, after which nothing is
-- pending, and at a reset
abbrev pub KeptLaw : Type 0
KeptLaw = (calls : List Call) (c : ConsoleState) → IsTrue c.is_refused → in_one is_reset calls c ≡ false
    → in_one reads_iir calls c ≡ false → in_one asks_again calls c ≡ false → IsTrue (after_calls calls c).is_refused

-- ---- what is pending was asked for

abbrev pub asks : (call : Call) (c : ConsoleState) → Bool
asks call c = not (interrupts_of call c == 0)

-- if a condition is pending in the end and was not pending at first, one of the calls asked for an interrupt. So a
-- driver that has read IIR, which ends both conditions, is interrupted again for each condition that becomes pending
abbrev pub AskedLaw : Type 0
AskedLaw = (condition : Condition) (calls : List Call) (c : ConsoleState) → in_one is_reset calls c ≡ false
    → has_bits c.port.interrupt_identification (iir_bit condition) ≡ false
    → IsTrue (has_bits (after_calls calls c).port.interrupt_identification (iir_bit condition))
    → IsTrue (in_one asks calls c)

-- ---- the guest is interrupted

-- the monitor was told that an interrupt was refused
abbrev pub is_refusal : (call : Call) (c : ConsoleState) → Bool
is_refusal Refuses c = true
is_refusal call c = false

-- one of these calls asked for an interrupt, and since then the guest did not read IIR, and no interrupt was refused.
-- So a monitor that raises what calls ask for has raised it, and the guest has not answered it yet
pub record IsRaised (calls : List Call) (c : ConsoleState) : Type 0 where
  pub earlier : List Call
  pub call : Call
  pub later : List Call
  pub place : calls ≡ earlier ++ call ∷ later
  pub asked : 0 < interrupts_of call (after_calls earlier c)
  pub unread : in_one reads_iir later (after call (after_calls earlier c)) ≡ false
  pub taken : in_one is_refusal later (after call (after_calls earlier c)) ≡ false

abbrev pub is_enabled : (condition : Condition) (c : ConsoleState) → Bool
is_enabled condition c = has_bits c.port.interrupt_enable (ier_bit condition)

-- IIR has the condition's bit
abbrev pub is_shown : (condition : Condition) (c : ConsoleState) → Bool
is_shown condition c = has_bits c.port.interrupt_identification (iir_bit condition)

-- an interrupt is still to come. If IER enables the condition, the loop is told to make a turn, and this turn asks. If
-- IER masks the condition, any write that enables it asks
pub record IsDue (condition : Condition) (c : ConsoleState) : Type 0 where
  pub wanted : IsTrue (is_enabled condition c) → IsTrue (wants_of c).turn
  pub turn : IsTrue (is_enabled condition c) → 0 < interrupts_of Turns c
  pub unmasked :
      is_enabled condition c ≡ false → (write : Call) → IsTrue (is_enabled condition (after write c))
      → 0 < interrupts_of write c

-- after these calls an interrupt for the condition is on its way. If the interrupt controller is edge-triggered, an
-- interrupt was raised, or is due. If it is level-triggered and IER enables the condition, the line is up, or the loop
-- is told to make a turn, which leaves the line up
pub record IsInterrupted (condition : Condition) (calls : List Call) (c : ConsoleState) : Type 0 where
  pub edge : IsRaised calls c ⊎ IsDue condition (after_calls calls c)
  pub level :
      let end : ConsoleState = after_calls calls c in
      IsTrue (is_enabled condition end)
      → IsTrue (irq_level end.port) ⊎ (IsTrue (wants_of end).turn × IsTrue (irq_level (after Turns end).port))

-- if a condition is pending in the end and was not pending at first, for example because IIR had just been read, an
-- interrupt for the condition is on its way
abbrev pub PendingLaw : Type 0
PendingLaw = (condition : Condition) (calls : List Call) (c : ConsoleState) → in_one is_reset calls c ≡ false
    → is_shown condition c ≡ false → IsTrue (is_shown condition (after_calls calls c)) → IsInterrupted condition calls c

-- if bytes are held in the end and RDA was not pending at first, an interrupt for RDA is on its way, whatever the guest
-- did and whatever arrived
abbrev pub WaitingLaw : Type 0
WaitingLaw = (calls : List Call) (c : ConsoleState) → in_one is_reset calls c ≡ false
    → is_shown Rda c ≡ false → IsTrue (not_empty (after_calls calls c).port.in_buffer) → IsInterrupted Rda calls c

-- a THR write outside loopback while IER enables THRE, or an IER write that enables it
abbrev pub asks_for_thre : (call : Call) (c : ConsoleState) → Bool
asks_for_thre (Writes offset value) c =
    raises_thre (decode_in c.port (Write offset value)) c.port.interrupt_enable false
asks_for_thre call c = false

-- after such a write THRE is pending until IIR is read or the machine is reset. So a driver that has sent a byte is
-- interrupted to send the next
abbrev pub SendLaw : Type 0
SendLaw = (write : Call) (rest : List Call) (c : ConsoleState) → IsTrue (asks_for_thre write c)
    → in_one reads_iir rest (after write c) ≡ false → in_one is_reset rest (after write c) ≡ false
    → IsTrue (is_shown Thre (after_calls rest (after write c)))

-- ---- input

-- the byte that a read of RBR takes from the FIFO and shows. A reset takes all that are held
abbrev pub left_at : (call : Call) (c : ConsoleState) → List ℕ
left_at (Reads offset) c =
    byte_read (decode_in c.port (Read offset)) c.port.in_buffer (ByteRead (shown_at offset c.port))
left_at Resets c = c.port.in_buffer
left_at call c = []

-- the input that goes in: the first bytes, as many as the wants name
abbrev pub received_at : (call : Call) (c : ConsoleState) → List ℕ
received_at (Receives bytes) c = take (wants_of c).input bytes
received_at call c = []

-- the byte that comes back to the guest in loopback
abbrev pub looped_at : (call : Call) (c : ConsoleState) → List ℕ
looped_at (Writes offset value) c = accepted_by (decode_in c.port (Write offset value)) c.port.in_buffer
looped_at call c = []

-- each byte of a list is in one of two others, and these have their bytes in the list's order
abbrev pub IsSplit : (all first second : List ℕ) → Type 0
IsSplit [] first second = (first ≡ []) × (second ≡ [])
IsSplit (byte ∷ all) first second =
    ((others : List ℕ) × (first ≡ byte ∷ others) × IsSplit all others second)
    ⊎ ((others : List ℕ) × (second ≡ byte ∷ others) × IsSplit all first others)

-- what left the FIFO, followed by what is held, is what was held, followed by what arrived: input and looped bytes,
-- each in order
pub record KeepsInput (left received looped : List ℕ) (old new : ConsoleState) : Type 0 where
  pub arrived : List ℕ
  pub sources : IsSplit arrived received looped
  pub in_order : left ++ new.port.in_buffer ≡ old.port.in_buffer ++ arrived

abbrev pub InputLaw : Type 0
InputLaw = (calls : List Call) (c : ConsoleState)
    → KeepsInput (in_each left_at calls c) (in_each received_at calls c) (in_each looped_at calls c) c
    (after_calls calls c)

-- ---- when input goes in

-- a write at the offset of IER after which it enables RDA and not THRE
abbrev pub is_ready_write : (call : Call) (c : ConsoleState) → Bool
is_ready_write (Writes offset value) c =
    let enable : ℕ = (after (Writes offset value) c).port.interrupt_enable in
    (offset == 1) && has_bits enable (ier_bit Rda) && not (has_bits enable (ier_bit Thre))
is_ready_write call c = false

-- the monitor says that the guest polls
abbrev pub lets_poll : (call : Call) (c : ConsoleState) → Bool
lets_poll (SetsPolled is_polled) c = is_polled
lets_poll call c = false

-- no input goes in before such a write, unless the monitor says first that the guest polls
abbrev pub NoneBefore : (c : ConsoleState) → Type 0
NoneBefore c = (calls : List Call) → in_one is_ready_write calls c ≡ false → in_one lets_poll calls c ≡ false
    → in_each received_at calls c ≡ []

-- this is so from a new console on, and from a reset on, unless the guest polls
abbrev pub GateLaw : Type 0
GateLaw = NoneBefore (new_console false)
    × ((c : ConsoleState) → c.is_polled ≡ false → NoneBefore (after Resets c))

-- after a suspend no input goes in before such a write or a reset, even if the guest polls
abbrev pub SleepLaw : Type 0
SleepLaw = (calls : List Call) (c : ConsoleState)
    → in_one is_ready_write calls (after Suspends c) ≡ false → in_one is_reset calls (after Suspends c) ≡ false
    → in_each received_at calls (after Suspends c) ≡ []

-- the wants name all the room of the FIFO, outside loopback
abbrev pub NamesRoom : (c : ConsoleState) → Type 0
NamesRoom c = is_loopback c.port.modem_control ≡ false → (wants_of c).input ≡ fifo_size - length c.port.in_buffer

abbrev pub closes_gate : (call : Call) (c : ConsoleState) → Bool
closes_gate Resets c = true
closes_gate Suspends c = true
closes_gate call c = false

-- from such a write on, until a reset or a suspend, the wants name all this room
abbrev pub OpenLaw : Type 0
OpenLaw = (write : Call) (rest : List Call) (c : ConsoleState) → IsTrue (is_ready_write write c)
    → in_one closes_gate rest (after write c) ≡ false → NamesRoom (after_calls rest (after write c))

-- if the guest polls and does not sleep, the wants always name it
abbrev pub PolledLaw : Type 0
PolledLaw = (c : ConsoleState) → IsTrue c.is_polled → c.is_asleep ≡ false → NamesRoom c

-- ---- a driver that takes at least one byte in each run

-- the bytes that leave the FIFO in these runs, in order. A run is any list of calls, and each begins where the run
-- before it ends
abbrev pub left_in_runs : (runs : List (List Call)) (c : ConsoleState) → List ℕ
left_in_runs [] c = []
left_in_runs (run ∷ later) c = in_each left_at run c ++ left_in_runs later (after_calls run c)

-- if a byte is held when a run begins, at least one byte leaves the FIFO in this run, by a read of RBR or by a reset
abbrev pub EachTakes : (runs : List (List Call)) (c : ConsoleState) → Type 0
EachTakes [] c = ⊤
EachTakes (run ∷ later) c =
    (IsTrue (not_empty c.port.in_buffer) → IsTrue (not_empty (in_each left_at run c)))
    × EachTakes later (after_calls run c)

-- if each run takes a byte in this way, the bytes held at first leave the FIFO first, in order, at least one in each
-- run, whatever arrives meanwhile
abbrev pub TakenLaw : Type 0
TakenLaw = (runs : List (List Call)) (c : ConsoleState) → EachTakes runs c
    → (more : List ℕ) × (left_in_runs runs c ≡ take (length runs) c.port.in_buffer ++ more)

-- ---- output

-- the bytes that the reader takes
abbrev pub taken_at : (call : Call) (c : ConsoleState) → List ℕ
taken_at (Consumes count) c = take count c.output
taken_at call c = []

-- the bytes that the guest sent are kept or dropped. What the reader took, followed by what waits, is what waited,
-- followed by the bytes kept. The bytes dropped are counted, up to 2^64 - 1
pub record KeepsOutput (taken sent : List ℕ) (old new : ConsoleState) : Type 0 where
  pub kept : List ℕ
  pub dropped : List ℕ
  pub sources : IsSplit sent kept dropped
  pub in_order : taken ++ new.output ≡ old.output ++ kept
  pub counted : new.dropped ≡ min (old.dropped + length dropped) (2 ^ 64 - 1)

-- a byte is sent while 4,096 wait
abbrev pub finds_no_room : (call : Call) (c : ConsoleState) → Bool
finds_no_room call c = not_empty (sent_at call c) && not (nat_lt (length c.output) output_size)

-- if no byte is sent while 4,096 wait, none is dropped
abbrev pub RoomLaw : Type 0
RoomLaw = (calls : List Call) (c : ConsoleState) → in_one finds_no_room calls c ≡ false
    → (in_each taken_at calls c ++ (after_calls calls c).output ≡ c.output ++ in_each sent_at calls c)
    × ((after_calls calls c).dropped ≡ c.dropped)

abbrev pub OutputLaw : Type 0
OutputLaw = (calls : List Call) (c : ConsoleState) → c.dropped < 2 ^ 64
    → KeepsOutput (in_each taken_at calls c) (in_each sent_at calls c) c (after_calls calls c)
