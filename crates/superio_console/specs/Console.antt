-- SPDX-License-Identifier: Apache-2.0 OR BSD-3-Clause
-- A serial port with the monitor's end of its line: what a call does to it, what it leaves to do, and what the event
-- loop polls for.
use Rattle.std.specs.Prelude.{ℕ, ◌+◌, ◌-◌, ◌^◌, Bool, true, false, ◌==◌, ◌&&◌, ◌||◌, not, nat_lt, min, if◌then◌else◌, List, [], ◌∷◌, ◌++◌, length, take, drop}
use Rattle.superio_laws.specs.Serial.{
  has_bits,
  State,
  fifo_size,
  fresh_state,
  not_empty,
  register_read,
  irq_level,
  conditions_due,
  state_of_uart,
  register_at,
  is_dlab,
  is_loopback,
  ier_bit,
  Rda,
  Thre,
  Op,
  Read,
  Write,
  Enqueue,
  CharacterTimeout,
  sent_by,
  Asked,
  iir_none_bit,
  step,
  step_calls,
  decode_in,
}
use Rattle.superio_console.specs.OutputRing.{output_size, waiting_in}
pub use Rattle.superio_console.specs.declared.Console.{Console}
pub use Rattle.superio_console.specs.declared.Wants.{Wants}
pub use Rattle.superio_console.specs.declared.Work.{Work}

-- ---- the state

pub record ConsoleState : Type 0 where
  pub port : State
  -- what the guest sent, oldest first, until its reader takes it
  pub output : List ℕ
  -- how many bytes of output found no room
  pub dropped : ℕ
  -- the guest polls, so input goes in before a driver is ready
  pub is_polled : Bool
  -- the guest's driver has shown that it is ready, since the last reset or suspend
  pub is_ready : Bool
  -- the guest sleeps in memory, and has not shown since that its driver is ready
  pub is_asleep : Bool
  -- an interrupt was refused; none was asked for again since, and IIR was not read
  pub is_refused : Bool

abbrev pub state_of : (console : Console) → ConsoleState
state_of console = record {
  port = state_of_uart console.port;
  output = waiting_in console.output;
  dropped = console.dropped;
  is_polled = not (console.is_polled == 0);
  is_ready = not (console.is_ready == 0);
  is_asleep = not (console.is_asleep == 0);
  is_refused = not (console.is_refused == 0);
}

abbrev pub new_console : (is_polled : Bool) → ConsoleState
new_console is_polled = record {
  port = fresh_state;
  output = [];
  dropped = 0;
  is_polled = is_polled;
  is_ready = false;
  is_asleep = false;
  is_refused = false;
}

-- ---- what the event loop polls for

-- IER enables RDA and not THRE. A driver leaves it so once it has tested its port and wants input; no test of a port
-- does
abbrev pub shows_ready : (enable : ℕ) → Bool
shows_ready enable = has_bits enable (ier_bit Rda) && not (has_bits enable (ier_bit Thre))

-- input may go in: the driver is ready or the guest polls, and the guest does not sleep
abbrev pub is_open : (c : ConsoleState) → Bool
is_open c = (c.is_ready || c.is_polled) && not c.is_asleep

-- how many bytes of input may go in now: none while input has to wait, none in loopback, and otherwise all that fit in
-- the FIFO
abbrev pub input_room : (c : ConsoleState) → ℕ
input_room c = if is_open c && not (is_loopback c.port.modem_control) then fifo_size - length c.port.in_buffer else 0

-- bytes are held, and IER enables RDA
abbrev pub has_waiting_input : (s : State) → Bool
has_waiting_input s = not_empty s.in_buffer && has_bits s.interrupt_enable (ier_bit Rda)

-- the event loop has to come back: bytes are held for a driver that wants them, so that a character timeout may be due,
-- or an interrupt was refused and the line is still up
abbrev pub owes_turn : (c : ConsoleState) → Bool
owes_turn c = has_waiting_input c.port || (c.is_refused && irq_level c.port)

abbrev pub wants_of : (c : ConsoleState) → Wants
wants_of c = record { input = input_room c; output = not_empty c.output; turn = owes_turn c }

-- the new wants name something that the old ones do not: input, output or a turn
abbrev pub names_more : (old new : Wants) → Bool
names_more old new =
    ((old.input == 0) && not (new.input == 0)) || (not old.output && new.output) || (not old.turn && new.turn)

-- ---- the calls

pub data Call : Type 0 where
  Reads : (offset : ℕ) → Call
  Writes : (offset value : ℕ) → Call
  Receives : (bytes : List ℕ) → Call
  Consumes : (count : ℕ) → Call
  Turns : Call
  Refuses : Call
  Resets : Call
  Suspends : Call
  SetsPolled : (is_polled : Bool) → Call

-- what a guest's read shows
abbrev pub shown_at : (offset : ℕ) (s : State) → ℕ
shown_at offset s = register_read (register_at (is_dlab s.line_control) offset) s

-- a guest reads IIR, which answers that nothing is pending
abbrev pub answers_none : (offset byte : ℕ) → Bool
answers_none offset byte = (offset == 2) && has_bits byte iir_none_bit

-- a turn of the event loop, and a write at the offset of IER, ask again for what was refused
abbrev pub retries : (call : Call) → Bool
retries Turns = true
retries (Writes offset value) = offset == 1
retries call = false

-- what a call does to the port: steps of superio_core, in order. A read of IIR that shows nothing pending is followed
-- by a character timeout, and each turn makes a character timeout, too. Input goes in as far as it fits
abbrev pub port_calls : (call : Call) (c : ConsoleState) → List Op
port_calls (Reads offset) c =
    Read offset ∷ (if answers_none offset (shown_at offset c.port) then CharacterTimeout ∷ [] else [])
port_calls (Writes offset value) c = Write offset value ∷ []
port_calls (Receives bytes) c = Enqueue (take (input_room c) bytes) ∷ []
port_calls Turns c = CharacterTimeout ∷ []
port_calls call c = []

-- steps, in order
abbrev pub steps : (ops : List Op) (s : State) → State
steps [] s = s
steps (op ∷ ops) s = steps ops (step s op Asked.Nothing)

-- the interrupts that these steps ask for
abbrev pub steps_calls : (ops : List Op) (s : State) → ℕ
steps_calls [] s = 0
steps_calls (op ∷ ops) s = step_calls s op + steps_calls ops (step s op Asked.Nothing)

-- a reset makes a new port
abbrev pub port_after : (call : Call) (c : ConsoleState) → State
port_after Resets c = fresh_state
port_after call c = steps (port_calls call c) c.port

-- the byte that a write sends: a THR write outside loopback sends its value
abbrev pub sent_at : (call : Call) (c : ConsoleState) → List ℕ
sent_at (Writes offset value) c = sent_by (decode_in c.port (Write offset value))
sent_at call c = []

-- bytes that are sent wait, or are dropped if there is no room
abbrev pub output_after_byte : (byte : ℕ) (output : List ℕ) → List ℕ
output_after_byte byte output = if nat_lt (length output) output_size then output ++ byte ∷ [] else output

abbrev pub dropped_after_byte : (output : List ℕ) (dropped : ℕ) → ℕ
dropped_after_byte output dropped =
    if nat_lt (length output) output_size then dropped else min (dropped + 1) (2 ^ 64 - 1)

abbrev pub output_with : (bytes output : List ℕ) → List ℕ
output_with [] output = output
output_with (byte ∷ bytes) output = output_with bytes (output_after_byte byte output)

abbrev pub dropped_with : (bytes output : List ℕ) (dropped : ℕ) → ℕ
dropped_with [] output dropped = dropped
dropped_with (byte ∷ bytes) output dropped =
    dropped_with bytes (output_after_byte byte output) (dropped_after_byte output dropped)

-- the reader takes the oldest bytes
abbrev pub output_after : (call : Call) (c : ConsoleState) → List ℕ
output_after (Consumes count) c = drop count c.output
output_after call c = output_with (sent_at call c) c.output

-- a write at the offset of IER that leaves IER as a ready driver does
abbrev pub opens_gate : (call : Call) (c : ConsoleState) → Bool
opens_gate (Writes offset value) c =
    (offset == 1) && shows_ready (port_after (Writes offset value) c).interrupt_enable
opens_gate call c = false

-- the driver is ready from such a write on, until a reset or a suspend
abbrev pub ready_after : (call : Call) (c : ConsoleState) → Bool
ready_after Resets c = false
ready_after Suspends c = false
ready_after call c = c.is_ready || opens_gate call c

-- the guest sleeps from a suspend on, until a reset or such a write
abbrev pub asleep_after : (call : Call) (c : ConsoleState) → Bool
asleep_after Resets c = false
asleep_after Suspends c = true
asleep_after call c = c.is_asleep && not (opens_gate call c)

-- whether the guest polls is what the monitor said last
abbrev pub polled_after : (call : Call) (c : ConsoleState) → Bool
polled_after (SetsPolled is_polled) c = is_polled
polled_after call c = c.is_polled

-- a refusal is over once a call asks again: as soon as a condition is pending and enabled in a call that retries. A
-- read of IIR ends it too, since nothing is pending then
abbrev pub refused_after : (call : Call) (c : ConsoleState) → Bool
refused_after Refuses c = true
refused_after Resets c = false
refused_after (Reads offset) c = if offset == 2 then false else c.is_refused
refused_after call c =
    if retries call then c.is_refused && (length (conditions_due (port_after call c)) == 0) else c.is_refused

abbrev pub after : (call : Call) (c : ConsoleState) → ConsoleState
after call c = record {
  port = port_after call c;
  output = output_after call c;
  dropped = dropped_with (sent_at call c) c.output c.dropped;
  is_polled = polled_after call c;
  is_ready = ready_after call c;
  is_asleep = asleep_after call c;
  is_refused = refused_after call c;
}

-- ---- the work that a call leaves

-- how often to ask for the interrupt: as often as the port's steps say. After a refusal, a call that retries asks once
-- for each condition that is pending and enabled
abbrev pub interrupts_of : (call : Call) (c : ConsoleState) → ℕ
interrupts_of Resets c = 0
interrupts_of call c =
    if c.is_refused && retries call then length (conditions_due (port_after call c))
    else steps_calls (port_calls call c) c.port

abbrev pub wakes : (call : Call) (c : ConsoleState) → Bool
wakes call c = names_more (wants_of c) (wants_of (after call c))

abbrev pub work_of : (call : Call) (c : ConsoleState) → Work
work_of call c = record {
  interrupts = interrupts_of call c;
  is_up = irq_level (port_after call c);
  wakes = wakes call c;
}
