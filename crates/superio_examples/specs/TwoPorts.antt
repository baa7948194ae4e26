-- SPDX-License-Identifier: Apache-2.0 OR BSD-3-Clause
-- A machine of two ports, a clock and the reset command: what events do to it, and the calls that each device gets.
use Rattle.std.specs.Prelude.{ℕ, ◌+◌, Bool, false, ◌==◌, ◌||◌, List, [], ◌∷◌, unwrap_or}
use Rattle.superio_core.specs.I8042.{is_reset_command}
use Rattle.superio_laws.specs.Serial.{Asked, State, Op, Read, Write, Enqueue, CharacterTimeout, count_if, is_dlab, register_at, register_read, state_of_uart, step, step_calls}
use Rattle.superio_laws.specs.Rtc.{RtcState, read, write, clock_response, clock_step, state_of_clock}
use Rattle.superio_examples.specs.declared.two_ports.PortCall.{PortCall}
use Rattle.superio_examples.specs.declared.two_ports.PortCall.TheVariants as call
use Rattle.superio_examples.specs.declared.two_ports.Event.{Event}
use Rattle.superio_examples.specs.declared.two_ports.Event.TheVariants.{First, Second, ClockRead, ClockWrite, Command, Moment}
use Rattle.superio_examples.specs.declared.two_ports.TwoPorts.{TwoPorts}

pub record Machine : Type 0 where
  pub first : State
  pub second : State
  pub clock : RtcState
  -- the host's time, in seconds since 1970
  pub moment : ℕ

abbrev pub machine_of : (machine : TwoPorts) → Machine
machine_of machine = record {
  first = state_of_uart machine.first;
  second = state_of_uart machine.second;
  clock = state_of_clock machine.clock;
  moment = machine.moment;
}

abbrev pub op_of : (made : PortCall) → Op
op_of (call.Read offset) = Read offset
op_of (call.Write offset value) = Write offset value
op_of (call.Typed byte) = Enqueue (byte ∷ [])
op_of call.Turn = CharacterTimeout

-- ---- one event

abbrev pub after_event : (event : Event) (m : Machine) → Machine
after_event (First made) m = record m { first = step m.first (op_of made) Asked.Nothing }
after_event (Second made) m = record m { second = step m.second (op_of made) Asked.Nothing }
after_event (ClockRead offset) m = record m { clock = clock_step m.clock (read offset m.moment) }
after_event (ClockWrite offset value) m = record m { clock = clock_step m.clock (write offset value m.moment) }
after_event (Command offset value) m = m
after_event (Moment moment) m = record m { moment = moment }

-- what a read shows
abbrev pub shown_by_port : (made : PortCall) (s : State) → ℕ
shown_by_port (call.Read offset) s = register_read (register_at (is_dlab s.line_control) offset) s
shown_by_port _ s = 0

abbrev pub shown_by : (event : Event) (m : Machine) → ℕ
shown_by (First made) m = shown_by_port made m.first
shown_by (Second made) m = shown_by_port made m.second
shown_by (ClockRead offset) m = unwrap_or (clock_response m.clock (read offset m.moment)) 0
shown_by _ m = 0

abbrev pub asked_by : (event : Event) (m : Machine) → ℕ
asked_by (First made) m = step_calls m.first (op_of made)
asked_by (Second made) m = step_calls m.second (op_of made)
asked_by _ m = 0

abbrev pub is_reset : (event : Event) → Bool
is_reset (Command offset value) = is_reset_command offset value
is_reset _ = false

-- a write of RTCLR or of RTCCR
abbrev pub sets_clock : (event : Event) → Bool
sets_clock (ClockWrite offset value) = (offset == 0x008) || (offset == 0x00C)
sets_clock _ = false

-- ---- several events, in order

abbrev pub after_events : (events : List Event) (m : Machine) → Machine
after_events [] m = m
after_events (event ∷ events) m = after_events events (after_event event m)

abbrev pub asked_in_all : (events : List Event) (m : Machine) → ℕ
asked_in_all [] m = 0
asked_in_all (event ∷ events) m = asked_by event m + asked_in_all events (after_event event m)

abbrev pub resets_in : (events : List Event) → ℕ
resets_in [] = 0
resets_in (event ∷ events) = count_if (is_reset event) + resets_in events

-- the calls of each port
abbrev pub ops_on_first : (events : List Event) → List Op
ops_on_first [] = []
ops_on_first (First made ∷ events) = op_of made ∷ ops_on_first events
ops_on_first (_ ∷ events) = ops_on_first events

abbrev pub ops_on_second : (events : List Event) → List Op
ops_on_second [] = []
ops_on_second (Second made ∷ events) = op_of made ∷ ops_on_second events
ops_on_second (_ ∷ events) = ops_on_second events
