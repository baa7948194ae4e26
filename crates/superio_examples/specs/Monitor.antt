-- SPDX-License-Identifier: Apache-2.0 OR BSD-3-Clause
-- A whole machine as one value: what an event does to it, what is replied, and what a list of events does.
use Rattle.std.specs.Prelude.{
  ◌≡◌,
  ℕ,
  ◌+◌,
  ◌-◌,
  ◌^◌,
  Bool,
  true,
  false,
  ◌==◌,
  ◌&&◌,
  ◌||◌,
  min,
  if◌then◌else◌,
  List,
  [],
  ◌∷◌,
  ◌++◌,
  length,
  map,
  Option,
  Some,
  None,
  unwrap_or,
}
use Rattle.std.specs.Option.{option_map, option_map_or}
use Rattle.superio_laws.specs.Serial.{State, Trace, irq_level}
use Rattle.superio_laws.specs.Serial.Laws.GuestDriver.{Driver}
use Rattle.superio_laws.specs.Rtc.{
  RtcState,
  rtc_irq_level,
  clock_step,
  clock_response,
  Access,
  read,
  write,
  fresh_clock,
  state_of_clock,
}
use Rattle.superio_console.specs.Console.{
  ConsoleState,
  state_of,
  new_console,
  wants_of,
  work_of,
  Call,
  Reads,
  Writes,
  Receives,
  Consumes,
  Turns,
  Refuses,
  Resets,
  Suspends,
  after,
  shown_at,
  sent_at,
  is_open,
}
use Rattle.superio_console.specs.declared.Work.{Work}
use Rattle.superio_console.specs.Laws.{
  in_each,
  in_one,
  is_reset,
  is_ready_write,
  lets_poll,
  finds_no_room,
  left_at,
  looped_at,
  taken_at,
  KeepsInput,
}
use Rattle.superio_console.specs.Driver.{IsAt, AreRuns, AllIsThrough}
use Rattle.superio_examples.specs.Bus.{serial_offset, other_byte, is_reset as is_reset_command, Keyboard}
use Rattle.superio_examples.specs.Mmio.{is_inside}
use Rattle.superio_examples.specs.declared.monitor.Answer.{Answer}
use Rattle.superio_examples.specs.declared.monitor.Answer.TheVariants as answer
pub use Rattle.superio_examples.specs.declared.monitor.MachineEvent.{MachineEvent}
use Rattle.superio_examples.specs.declared.monitor.MachineEvent.TheVariants.{
  PortRead,
  PortWrite,
  MemoryRead,
  MemoryWrite,
  Typed,
  Drained,
  Moment,
  Timer,
  Refused,
  Suspended,
}
use Rattle.superio_examples.specs.declared.monitor.MachineReply.{MachineReply}
pub use Rattle.superio_examples.specs.declared.monitor.Monitor.{Monitor}

-- ---- the machine

pub record Machine : Type 0 where
  pub console : ConsoleState
  pub clock : RtcState
  -- the host's time, in seconds since 1970
  pub moment : ℕ

abbrev pub machine_of : (monitor : Monitor) → Machine
machine_of monitor = record {
  console = state_of monitor.console;
  clock = state_of_clock monitor.clock;
  moment = monitor.moment;
}

abbrev pub new_machine : (is_polled : Bool) → Machine
new_machine is_polled = record { console = new_console is_polled; clock = fresh_clock; moment = 0 }

-- ---- what an event calls

-- the reset command of the controller
abbrev pub asks_reset : (event : MachineEvent) → Bool
asks_reset (PortWrite port value) = is_reset_command port value
asks_reset _ = false

-- the call that an event makes to the console at COM1. A reset is for the port alone: the clock goes on
abbrev pub call_of : (event : MachineEvent) → Option Call
call_of (PortRead port) = option_map Reads (serial_offset 0x3F8 port)
call_of (PortWrite port value) =
    if is_reset_command port value then Some Resets
    else option_map (λ offset. Writes offset value) (serial_offset 0x3F8 port)
call_of (Typed byte) = Some (Receives (byte ∷ []))
call_of (Drained count) = Some (Consumes count)
call_of Timer = Some Turns
call_of Refused = Some Refuses
call_of Suspended = Some Suspends
call_of _ = None

-- the offset of the clock at an address of its window in memory. A timer reads RTCMIS
abbrev pub clock_offset : (address : ℕ) → Option ℕ
clock_offset address = if is_inside 0x09010000 address then Some (address - 0x09010000) else None

abbrev pub access_of : (event : MachineEvent) (now : ℕ) → Option Access
access_of (MemoryRead address) now = option_map (λ offset. read offset now) (clock_offset address)
access_of (MemoryWrite address value) now = option_map (λ offset. write offset value now) (clock_offset address)
access_of Timer now = Some (read 0x018 now)
access_of _ now = None

-- ---- what becomes of the machine

abbrev pub console_after : (call : Option Call) (c : ConsoleState) → ConsoleState
console_after None c = c
console_after (Some call) c = after call c

abbrev pub clock_after : (event : MachineEvent) (m : Machine) → RtcState
clock_after event m = option_map_or (clock_step m.clock) (access_of event m.moment) m.clock

abbrev pub moment_after : (event : MachineEvent) (m : Machine) → ℕ
moment_after (Moment moment) m = moment
moment_after _ m = m.moment

abbrev pub after_event : (event : MachineEvent) (m : Machine) → Machine
after_event event m = record {
  console = console_after (call_of event) m.console;
  clock = clock_after event m;
  moment = moment_after event m;
}

-- ---- what is replied

-- the controller shows 0, as a keyboard that never answers
abbrev pub port_shown : (port : ℕ) (s : State) → ℕ
port_shown port s =
    option_map_or (λ offset. shown_at offset s) (serial_offset 0x3F8 port) (other_byte Keyboard.Silent port)

-- an invalid read shows 0
abbrev pub memory_shown : (address : ℕ) (m : Machine) → ℕ
memory_shown address m =
    option_map_or (λ offset. unwrap_or (clock_response m.clock (read offset m.moment)) 0) (clock_offset address) 0

abbrev pub answer_to : (event : MachineEvent) (m : Machine) → Answer
answer_to (PortRead port) m = answer.Shows (port_shown port m.console.port)
answer_to (PortWrite port value) m = if is_reset_command port value then answer.Reset else answer.Done
answer_to (MemoryRead address) m = answer.Shows (memory_shown address m)
answer_to (Typed byte) m = if (wants_of m.console).input == 0 then answer.Full else answer.Done
answer_to _ m = answer.Done

-- nothing is left to do
abbrev pub no_work : (c : ConsoleState) → Work
no_work c = record { interrupts = 0; is_up = irq_level c.port; wakes = false }

abbrev pub work_by : (event : MachineEvent) (m : Machine) → Work
work_by (Drained count) m = no_work m.console
work_by Suspended m = no_work m.console
work_by event m = option_map_or (λ call. work_of call m.console) (call_of event) (no_work m.console)

abbrev pub reply_to : (event : MachineEvent) (m : Machine) → MachineReply
reply_to event m = record {
  answer = answer_to event m;
  work = work_by event m;
  clock_line = rtc_irq_level (clock_after event m);
}

-- what an event answers, what it leaves to do, and what becomes of the machine
pub record Acts (event : MachineEvent) (answered : Answer) (left : Work) (old new : Machine) : Type 0 where
  pub answer : answered ≡ answer_to event old
  pub work : left ≡ work_by event old
  pub machine : new ≡ after_event event old

-- ---- several events, in order

abbrev pub after_events : (events : List MachineEvent) (m : Machine) → Machine
after_events [] m = m
after_events (event ∷ events) m = after_events events (after_event event m)

abbrev pub replies_to : (events : List MachineEvent) (m : Machine) → List MachineReply
replies_to [] m = []
replies_to (event ∷ events) m = reply_to event m ∷ replies_to events (after_event event m)

-- the calls of the console
abbrev pub call_then : (call : Option Call) (calls : List Call) → List Call
call_then None calls = calls
call_then (Some call) calls = call ∷ calls

abbrev pub calls_of : (events : List MachineEvent) → List Call
calls_of [] = []
calls_of (event ∷ events) = call_then (call_of event) (calls_of events)

-- ---- the claims

-- a reply asks for a reset
abbrev pub is_reset_answer : (answer : Answer) → Bool
is_reset_answer answer.Reset = true
is_reset_answer _ = false

abbrev pub is_reset_reply : (reply : MachineReply) → Bool
is_reset_reply reply = is_reset_answer reply.answer

-- the typed byte, unless its source keeps it
abbrev pub accepted_by : (event : MachineEvent) (answer : Answer) → List ℕ
accepted_by (Typed byte) answer.Full = []
accepted_by (Typed byte) _ = byte ∷ []
accepted_by _ _ = []

-- what was typed, without the bytes that were answered `Full`
abbrev pub accepted : (events : List MachineEvent) (replies : List MachineReply) → List ℕ
accepted (event ∷ events) (reply ∷ replies) = accepted_by event reply.answer ++ accepted events replies
accepted _ _ = []

-- bytes pass through the FIFO in order. First come the bytes that were held at first, and behind them the accepted
-- input and the bytes that the guest looped back, each of the two in order. What left the FIFO, by reads or by resets,
-- followed by what is held, is this list
abbrev pub InputInOrder : (events : List MachineEvent) (replies : List MachineReply) (old new : Machine) → Type 0
InputInOrder events replies old new =
    KeepsInput (in_each left_at (calls_of events) old.console) (accepted events replies)
    (in_each looped_at (calls_of events) old.console) old.console new.console

-- a call after which input may go in: a write that shows that a driver is ready, the monitor's word that the guest
-- polls, or a reset of a guest that polls
abbrev pub may_open : (call : Call) (c : ConsoleState) → Bool
may_open call c = is_ready_write call c || lets_poll call c || (is_reset call c && c.is_polled)

-- if no input may go in at first, no byte is accepted before such a call
abbrev pub KeepsOut : (events : List MachineEvent) (replies : List MachineReply) (old : Machine) → Type 0
KeepsOut events replies old =
    is_open old.console ≡ false → in_one may_open (calls_of events) old.console ≡ false → accepted events replies ≡ []

-- the byte that the guest sends is kept if fewer than 4,096 wait, and otherwise dropped
abbrev pub kept_at : (call : Call) (c : ConsoleState) → List ℕ
kept_at call c = if finds_no_room call c then [] else sent_at call c

abbrev pub dropped_at : (call : Call) (c : ConsoleState) → List ℕ
dropped_at call c = if finds_no_room call c then sent_at call c else []

-- what sinks took, followed by what waits, is what waited at first, followed by what was kept. The dropped bytes are
-- counted, up to 2^64 - 1
pub record KeepsOutput (calls : List Call) (old new : ConsoleState) : Type 0 where
  pub in_order : in_each taken_at calls old ++ new.output ≡ old.output ++ in_each kept_at calls old
  pub counted : new.dropped ≡ min (old.dropped + length (in_each dropped_at calls old)) (2 ^ 64 - 1)

abbrev pub OutputInOrder : (events : List MachineEvent) (old new : Machine) → Type 0
OutputInOrder events old new = KeepsOutput (calls_of events) old.console new.console

-- the console's law, for runs of events: each run is any list of events that keeps the driver's rules, and begins where
-- the run before it ends
abbrev pub EachByteIsThrough : Type 0
EachByteIsThrough =
    (driver : Driver) (start : State) (before : Trace) (runs : List (List MachineEvent)) (m : Machine)
    → IsAt start before m.console → AreRuns driver start before (map calls_of runs) m.console
    → AllIsThrough driver start before (map calls_of runs) m.console
