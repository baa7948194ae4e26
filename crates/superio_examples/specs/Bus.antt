-- SPDX-License-Identifier: Apache-2.0 OR BSD-3-Clause
-- The ports of a PC's bus: which device each belongs to, and what an access does there.
use Rattle.std.specs.Prelude.{◌≡◌, ℕ, ◌+◌, ◌-◌, ◌%◌, Bool, ◌&&◌, ◌||◌, ◌==◌, nat_le, nat_lt, if◌then◌else◌, List, [], ◌∷◌, Option, Some, None, Result, Ok, Err}
use Rattle.std.specs.Result.{result_and}
use Rattle.std.specs.Bool.{OnTrue, OnFalse}
use Rattle.vm_superio.specs.Links.{Link, TriggerAnswer, Contents}
use Rattle.vm_superio.specs.Serial.{SerialView, Event}
use Rattle.vm_superio.specs.Serial.Step.{IsSerialRead, IsSerialWrite}
use Rattle.superio_examples.specs.declared.bus.Bus.{Bus}
pub use Rattle.superio_examples.specs.declared.bus.Keyboard.{Keyboard}
use Rattle.superio_examples.specs.declared.bus.BusError.{BusError}
use Rattle.superio_examples.specs.declared.bus.BusError.TheVariants.{Serial, Reset}

-- the offset at a serial port that has the eight ports from `base` on
abbrev pub serial_offset : (base port : ℕ) → Option ℕ
serial_offset base port = if nat_le base port && nat_lt port (base + 8) then Some (port - base) else None

-- what a read of the controller's two ports shows: 0 if the keyboard never answers. Otherwise bit 0x01, output full, is
-- set, and bit 0x02, input full, is clear
abbrev pub controller_byte : (keyboard : Keyboard) → ℕ
controller_byte Keyboard.Silent = 0
controller_byte Keyboard.Absent = 0xFD

-- what a read shows at a port that is not the serial port's. The controller has a port for data and one for commands
abbrev pub other_byte : (keyboard : Keyboard) (port : ℕ) → ℕ
other_byte keyboard port = if (port == 0x60) || (port == 0x64) then controller_byte keyboard else 0xFF

-- a write at such a port resets the machine: the command 0xFE at port 0x64
abbrev pub is_reset : (port value : ℕ) → Bool
is_reset port value = (port == 0x64) && (value == 0xFE)

-- the lengths that an access of a guest has
abbrev pub is_width : (length : ℕ) → Bool
is_width length = (length == 1) || (length == 2) || (length == 4)

-- the last port is followed by the first
abbrev pub next_port : (port : ℕ) → ℕ
next_port port = (port + 1) % 0x10000

module _ {T E EV W R F : Type 0} (trigger : Link T (TriggerAnswer E)) (events : Link EV Event) (contents : Contents W)
    (reset : Link R (TriggerAnswer F)) where
  -- a byte is read from the serial port, or without a change
  abbrev pub ReadsAt : (offset : Option ℕ) (port byte : ℕ) (old new : Bus T EV W R E F) → Type 0
  ReadsAt (Some offset) port byte old new =
      IsSerialRead trigger events contents offset byte old.serial new.serial
      × (new ≡ record old { serial = new.serial })
  ReadsAt None port byte old new = (byte ≡ other_byte old.keyboard port) × (new ≡ old)

  abbrev pub ReadsByte : (port byte : ℕ) (old new : Bus T EV W R E F) → Type 0
  ReadsByte port byte old new = ReadsAt (serial_offset old.base port) port byte old new

  -- bytes are read at ports that follow each other
  abbrev pub ReadsBytes : (port : ℕ) (bytes : List ℕ) (old new : Bus T EV W R E F) → Type 0
  ReadsBytes port [] old new = new ≡ old
  ReadsBytes port (byte ∷ bytes) old new =
      (between : Bus T EV W R E F) × ReadsByte port byte old between × ReadsBytes (next_port port) bytes between new

  -- the bus forwards a write to the serial port, and returns its result: an error is the serial port's
  abbrev pub ForwardsWrite :
      (offset value : ℕ) (result : Result (Unit {0}) (BusError E F)) (old new : SerialView T EV W) → Type 0
  ForwardsWrite offset value (Ok done) old new = IsSerialWrite trigger events contents offset value (Ok tt) old new
  ForwardsWrite offset value (Err (Serial error)) old new =
      IsSerialWrite trigger events contents offset value (Err error) old new
  ForwardsWrite offset value (Err (Reset refusal)) old new = ⊥

  -- the reset trigger is called once, and the bus returns its result: an error is the trigger's refusal
  abbrev pub ForwardsReset : (result : Result (Unit {0}) (BusError E F)) (old new : R) → Type 0
  ForwardsReset (Ok done) old new = reset old (Ok tt ∷ []) new
  ForwardsReset (Err (Reset refusal)) old new = reset old (Err refusal ∷ []) new
  ForwardsReset (Err (Serial error)) old new = ⊥

  -- a byte is written to the serial port, as the reset command, or without a change
  abbrev pub WritesAt :
      (offset : Option ℕ) (port value : ℕ) (result : Result (Unit {0}) (BusError E F)) (old new : Bus T EV W R E F)
      → Type 0
  WritesAt (Some offset) port value result old new =
      ForwardsWrite offset value result old.serial new.serial × (new ≡ record old { serial = new.serial })
  WritesAt None port value result old new =
      OnTrue (is_reset port value) (ForwardsReset result old.controller new.controller)
      × OnFalse (is_reset port value) ((result ≡ Ok tt) × (new.controller ≡ old.controller))
      × (new ≡ record old { controller = new.controller })

  abbrev pub WritesByte :
      (port value : ℕ) (result : Result (Unit {0}) (BusError E F)) (old new : Bus T EV W R E F) → Type 0
  WritesByte port value result old new = WritesAt (serial_offset old.base port) port value result old new

  -- bytes are written at ports that follow each other, and the result is the first error, if there is one
  abbrev pub WritesBytes :
      (port : ℕ) (values : List ℕ) (result : Result (Unit {0}) (BusError E F)) (old new : Bus T EV W R E F) → Type 0
  WritesBytes port [] result old new = (result ≡ Ok tt) × (new ≡ old)
  WritesBytes port (value ∷ values) result old new =
      (first rest : Result (Unit {0}) (BusError E F)) × (between : Bus T EV W R E F)
      × WritesByte port value first old between × WritesBytes (next_port port) values rest between new
      × (result ≡ result_and first rest)
