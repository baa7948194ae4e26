-- SPDX-License-Identifier: Apache-2.0 OR BSD-3-Clause
-- A saved state as bytes: its encoding, the checks that other bytes fail, and the laws that join the two.
use Rattle.std.specs.Prelude.{ℕ, Bool, if◌then◌else◌, List, [], ◌∷◌, ◌++◌, length, ◌==◌, not, ◌+◌, nat_le, nat_lt, drop, slice_index, Option, Some, None, codes, ◌≡◌, ◌<◌, ◌≤◌, ◌^◌, FitsSigned}
use Rattle.std.specs.Int.{w16, w32, w64, to_le_bytes, cast_unsigned, cast_signed, from_le_bytes}
use Rattle.std.specs.Option.{option_or}
use Rattle.std.specs.Str.{bytes_eq}
use Rattle.superio_core.specs.declared.rtc_pl031.encoding.RtcState.{RtcState}
use Rattle.superio_core.specs.Serial.{State, register_bytes, register_count}
use Rattle.superio_core.specs.Sizes.{fifo_size, header_size}
pub use Rattle.superio_core.specs.declared.saved.SavedStateError.{SavedStateError}
pub use Rattle.superio_core.specs.declared.saved.SavedStateError.TheVariants.{TooShort, NotASavedState, OtherDevice, UnknownVersion, WrongLength, TooManyBytes, InvalidArmed, InvalidFlags}

-- the letters SIOS, with which each saved state begins
abbrev pub magic : List ℕ
magic = 0x53 ∷ 0x49 ∷ 0x4F ∷ 0x53 ∷ []

-- the device's kind. The i8042 controller has no state
abbrev pub serial_kind : ℕ
serial_kind = 1

abbrev pub clock_kind : ℕ
clock_kind = 2

-- a serial port with the monitor's end of its line
abbrev pub console_kind : ℕ
console_kind = 3

-- the version of this encoding
abbrev pub version : ℕ
version = 1

-- the magic, the kind, the version, and in two bytes the length of what follows
abbrev pub header : (kind length : ℕ) → List ℕ
header kind length = magic ++ kind ∷ version ∷ to_le_bytes w16 length

-- the header, and then what the device keeps
abbrev pub encoding : (kind : ℕ) (contents : List ℕ) → List ℕ
encoding kind contents = header kind (length contents) ++ contents

-- ---- the serial port

-- the registers, and the received bytes that no guest has read, oldest first
abbrev pub serial_contents : (state : State) → List ℕ
serial_contents state = register_bytes state ++ state.in_buffer

abbrev pub serial_encoding : (state : State) → List ℕ
serial_encoding state = encoding serial_kind (serial_contents state)

-- ---- the clock

-- 1 if an alarm is set, otherwise 0
abbrev pub flag : (set : Bool) → ℕ
flag set = if set then 1 else 0

-- four registers of four bytes, the offset of eight bytes in two's complement, and the alarm
abbrev pub clock_contents : (state : RtcState) → List ℕ
clock_contents state =
    to_le_bytes w32 state.lr ++ to_le_bytes w32 state.mr ++ to_le_bytes w32 state.imsc ++ to_le_bytes w32 state.ris
    ++ to_le_bytes w64 (cast_unsigned w64 state.offset) ++ flag state.armed ∷ []

abbrev pub clock_encoding : (state : RtcState) → List ℕ
clock_encoding state = encoding clock_kind (clock_contents state)

-- the numbers of a saved clock, at their places
abbrev pub numbers_in : (bytes : List ℕ) → RtcState
numbers_in bytes = record {
  lr = from_le_bytes w32 (drop 8 bytes);
  mr = from_le_bytes w32 (drop 12 bytes);
  imsc = from_le_bytes w32 (drop 16 bytes);
  ris = from_le_bytes w32 (drop 20 bytes);
  offset = cast_signed w64 (from_le_bytes w64 (drop 24 bytes));
  armed = slice_index bytes 32 == 1;
}

-- ---- the checks of bytes that are read as a saved state, in order: the first that fails is the error

-- there is a header; it has the magic, the kind of this device and the version of this encoding; and its length is the
-- number of bytes after it
abbrev pub header_fault : (kind : ℕ) (bytes : List ℕ) → Option SavedStateError
header_fault kind (m0 ∷ m1 ∷ m2 ∷ m3 ∷ its_kind ∷ its_version ∷ low ∷ high ∷ contents) =
    if not (bytes_eq (m0 ∷ m1 ∷ m2 ∷ m3 ∷ []) magic) then Some NotASavedState
    else (if not (its_kind == kind) then Some OtherDevice
    else (if not (its_version == version) then Some (UnknownVersion its_version)
    else (if not (from_le_bytes w16 (low ∷ high ∷ []) == length contents) then Some WrongLength
    else None)))
header_fault kind _ = Some TooShort

-- what follows the header of a port: the registers, and at most 64 received bytes
abbrev pub serial_contents_fault : (contents : List ℕ) → Option SavedStateError
serial_contents_fault contents =
    if nat_lt (length contents) register_count then Some WrongLength
    else (if nat_lt (register_count + fifo_size) (length contents) then Some TooManyBytes else None)

abbrev pub serial_fault : (bytes : List ℕ) → Option SavedStateError
serial_fault bytes = option_or (header_fault serial_kind bytes) (serial_contents_fault (drop header_size bytes))

-- what follows the header of a clock: 25 bytes, the last of them 0 or 1
abbrev pub clock_contents_fault : (contents : List ℕ) → Option SavedStateError
clock_contents_fault contents =
    if not (length contents == 25) then Some WrongLength
    else (if nat_le (slice_index contents 24) 1 then None else Some InvalidArmed)

abbrev pub clock_fault : (bytes : List ℕ) → Option SavedStateError
clock_fault bytes = option_or (header_fault clock_kind bytes) (clock_contents_fault (drop header_size bytes))

-- ---- what an error of a saved state prints

abbrev pub saved_state_error_text : (error : SavedStateError) → Option (List ℕ)
saved_state_error_text TooShort = Some (codes "Too short for a saved state")
saved_state_error_text NotASavedState = Some (codes "Not a saved state")
saved_state_error_text OtherDevice = Some (codes "The saved state of another device")
saved_state_error_text (UnknownVersion _) = Some (codes "A saved state of an unknown version")
saved_state_error_text WrongLength = Some (codes "A saved state of the wrong length")
saved_state_error_text TooManyBytes = Some (codes "More than 64 received bytes")
saved_state_error_text InvalidArmed = Some (codes "An alarm that is neither set nor clear")
saved_state_error_text InvalidFlags = Some (codes "A flag that no console has")

-- ---- the laws of the encoding: an encoding passes each check, and no two states share one

-- the numbers that the fields of a clock can have
pub record IsClock (state : RtcState) : Type 0 where
  pub lr : state.lr < 2 ^ 32
  pub mr : state.mr < 2 ^ 32
  pub imsc : state.imsc < 2 ^ 32
  pub ris : state.ris < 2 ^ 32
  pub offset : FitsSigned w64 state.offset

-- the encoding of a port that holds at most 64 bytes passes each check, whatever its registers hold. So does the
-- encoding of a clock
abbrev pub SerialEncodingLaw : Type 0
SerialEncodingLaw = (state : State) → length state.in_buffer ≤ fifo_size → serial_fault (serial_encoding state) ≡ None

abbrev pub ClockEncodingLaw : Type 0
ClockEncodingLaw = (state : RtcState) → clock_fault (clock_encoding state) ≡ None

-- states that have the same encoding are one state
abbrev pub OneSerialStateLaw : Type 0
OneSerialStateLaw = (a b : State) → serial_encoding a ≡ serial_encoding b → a ≡ b

abbrev pub OneClockStateLaw : Type 0
OneClockStateLaw = (a b : RtcState) → IsClock a → IsClock b → clock_encoding a ≡ clock_encoding b → a ≡ b
