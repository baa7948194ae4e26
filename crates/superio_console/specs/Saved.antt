-- SPDX-License-Identifier: Apache-2.0 OR BSD-3-Clause
-- A saved console as bytes: its encoding, the checks that other bytes fail, and the laws that join the two.
use Rattle.std.specs.Prelude.{ℕ, Bool, if◌then◌else◌, List, [], ◌∷◌, ◌++◌, length, ◌||◌, ◌+◌, nat_lt, drop, slice_index, Option, Some, None, ◌≡◌, ◌<◌, ◌≤◌, ◌^◌}
use Rattle.std.specs.Int.{w16, w64, to_le_bytes, from_le_bytes}
use Rattle.std.specs.Option.{option_or}
use Rattle.superio_core.specs.declared.saved.SavedStateError.{SavedStateError}
use Rattle.superio_core.specs.declared.saved.SavedStateError.TheVariants.{WrongLength, InvalidFlags}
use Rattle.superio_core.specs.Saved.{header, encoding, header_fault, console_kind, serial_encoding, serial_fault}
use Rattle.superio_core.specs.Sizes.{fifo_size, header_size}
use Rattle.superio_console.specs.OutputRing.{output_size}
use Rattle.superio_console.specs.Console.{ConsoleState}

-- the flags and the two counts
abbrev pub prefix_size : ℕ
prefix_size = 11

-- the longest encoding of a console: the header, the flags and the counts, the most output that waits, and the longest
-- encoding of a port
abbrev pub console_saved_max : ℕ
console_saved_max = 4196

-- a bit of this value if it is set
abbrev pub bit_if : (set : Bool) (bit : ℕ) → ℕ
bit_if set bit = if set then bit else 0

-- the four flags in one byte: polled, ready, asleep and refused, from the lowest bit on
abbrev pub flags_of : (c : ConsoleState) → ℕ
flags_of c = bit_if c.is_polled 1 + bit_if c.is_ready 2 + bit_if c.is_asleep 4 + bit_if c.is_refused 8

-- the flags, how many bytes were dropped, how many bytes of output wait, these bytes, and the encoding of the port
abbrev pub console_contents : (c : ConsoleState) → List ℕ
console_contents c =
    flags_of c ∷ to_le_bytes w64 c.dropped ++ to_le_bytes w16 (length c.output) ++ c.output ++ serial_encoding c.port

-- the bytes of an encoding before the output, if `waiting` bytes of output wait and the port has `port` bytes
abbrev pub console_prefix : (c : ConsoleState) (waiting port : ℕ) → List ℕ
console_prefix c waiting port =
    header console_kind (prefix_size + waiting + port) ++ flags_of c ∷ to_le_bytes w64 c.dropped
    ++ to_le_bytes w16 waiting

abbrev pub console_encoding : (c : ConsoleState) → List ℕ
console_encoding c = encoding console_kind (console_contents c)

-- ---- the checks of bytes that are read as a saved console, in order: the first that fails is the error

-- how many bytes of output the contents say that they have
abbrev pub output_count : (contents : List ℕ) → ℕ
output_count contents = from_le_bytes w16 (slice_index contents 9 ∷ slice_index contents 10 ∷ [])

-- there are flags and two counts, and then at most 4,096 bytes of output, as many as their count says
abbrev pub is_cut : (contents : List ℕ) → Bool
is_cut contents =
    nat_lt (length contents) prefix_size || nat_lt output_size (output_count contents)
    || nat_lt (length contents) (prefix_size + output_count contents)

-- the port's bytes come after the output
abbrev pub console_contents_fault : (contents : List ℕ) → Option SavedStateError
console_contents_fault contents =
    if is_cut contents then Some WrongLength
    else (if nat_lt 15 (slice_index contents 0) then Some InvalidFlags
    else serial_fault (drop (prefix_size + output_count contents) contents))

abbrev pub console_fault : (bytes : List ℕ) → Option SavedStateError
console_fault bytes = option_or (header_fault console_kind bytes) (console_contents_fault (drop header_size bytes))

-- ---- the laws of the encoding: an encoding passes each check, and no two states share one

-- the numbers that a console can have
pub record IsConsole (c : ConsoleState) : Type 0 where
  pub held : length c.port.in_buffer ≤ fifo_size
  pub waiting : length c.output ≤ output_size
  pub dropped : c.dropped < 2 ^ 64

abbrev pub ConsoleEncodingLaw : Type 0
ConsoleEncodingLaw = (c : ConsoleState) → IsConsole c → console_fault (console_encoding c) ≡ None

-- states that have the same encoding are one state, so they answer any later calls alike
abbrev pub OneConsoleStateLaw : Type 0
OneConsoleStateLaw = (a b : ConsoleState) → IsConsole a → IsConsole b → console_encoding a ≡ console_encoding b → a ≡ b
