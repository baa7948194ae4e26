-- SPDX-License-Identifier: Apache-2.0 OR BSD-3-Clause
-- Lemmas on the encoding of a saved state. Other crates' proofs use the public ones too.
use Rattle.std.proofs.Common.{◌≡◌, ℕ, suc, ◌-◌, ◌<◌, ◌^◌, Bool, true, false, ap, sym, ◌∙◌, arith, refl, List, drop, ◌==◌, Some, None, IfOk, Result, Ok, Err, ℤ, pos, negsuc, FitsSigned, length, [], ◌∷◌, take, ◌++◌, replicate, slice_index_or, ◌%◌, ◌/◌, to_z, of_z}
use Rattle.std.specs.Result.{result_err}
use Rattle.std.specs.Int.{w64, w32, w16, to_le_bytes, from_le_bytes, cast_unsigned, cast_signed}
use Rattle.std.proofs.lemmas.Int.{to_z-of_z}
use Rattle.std.proofs.lemmas.Nat.{from_le_bytes-to_le_bytes_4, from_le_bytes-to_le_bytes_8}
use Rattle.superio_core.specs.declared.rtc_pl031.encoding.RtcState.{RtcState}
use Rattle.superio_core.specs.Saved.{SavedStateError, magic, serial_kind, version, header, encoding, flag, numbers_in, clock_encoding, clock_fault, IsClock, SerialEncodingLaw}
use Rattle.superio_core.specs.Saved.{ClockEncodingLaw, OneSerialStateLaw, OneClockStateLaw, serial_encoding, serial_fault, TooShort, NotASavedState, OtherDevice, UnknownVersion, WrongLength, TooManyBytes, InvalidArmed}
use Rattle.superio_core.specs.Rtc.{fresh_clock}
use Rattle.superio_core.specs.Serial.{state_of_bytes, fresh_state, State}

flag-back : (set : Bool) → (flag set == 1) ≡ set
flag-back true = refl
flag-back false = refl

offset-bits : (offset : ℤ) → FitsSigned w64 offset → cast_unsigned w64 offset < 2 ^ 64
offset-bits (pos n) fits = let small : n < 2 ^ 63 = fits.sfits in omega arith
offset-bits (negsuc n) fits = omega arith

-- a number is read from its place, whatever comes after it
number-back : (n : ℕ) (rest : List ℕ) → n < 2 ^ 32 → from_le_bytes w32 (to_le_bytes w32 n ++ rest) ≡ n
number-back n rest fits = from_le_bytes-to_le_bytes_4 n fits

offset-back : (offset : ℤ) (rest : List ℕ) → FitsSigned w64 offset
    → cast_signed w64 (from_le_bytes w64 (to_le_bytes w64 (cast_unsigned w64 offset) ++ rest)) ≡ offset
offset-back offset rest fits =
    ap (cast_signed w64) (from_le_bytes-to_le_bytes_8 (cast_unsigned w64 offset) (offset-bits offset fits))
    ∙ to_z-of_z w64 offset fits

-- so the numbers are the numbers of the state that has this encoding
pub numbers_in-encoding : (state : RtcState) → IsClock state → numbers_in (clock_encoding state) ≡ state
numbers_in-encoding state fits = search (number-back, offset-back, flag-back)

pub one_clock_state : OneClockStateLaw
one_clock_state a b a_fits b_fits same =
    sym (numbers_in-encoding a a_fits) ∙ ap numbers_in same ∙ numbers_in-encoding b b_fits

pub one_serial_state : OneSerialStateLaw
one_serial_state a b same = ap (λ (bytes : List ℕ). state_of_bytes (drop 8 bytes)) same

pub serial_encoding_has_no_fault : SerialEncodingLaw
serial_encoding_has_no_fault state few = grind arith

clock_encoding_has_no_fault-by : (set : Bool) (state : RtcState) → state.armed ≡ set → clock_fault (clock_encoding state) ≡ None
clock_encoding_has_no_fault-by true state is = rw is refl
clock_encoding_has_no_fault-by false state is = rw is refl

pub clock_encoding_has_no_fault : ClockEncodingLaw
clock_encoding_has_no_fault state = clock_encoding_has_no_fault-by state.armed state refl

-- what is read of the encoding of a state is this state
pub clock_encoding_read : (bytes : List ℕ) (result : Result RtcState SavedStateError) → IfOk result IsClock →
    IfOk result (λ state. bytes ≡ clock_encoding state) → result_err result ≡ clock_fault bytes →
    (state : RtcState) → IsClock state → bytes ≡ clock_encoding state → result ≡ Ok state
clock_encoding_read bytes (Ok found) numbers encoding fault state fits is = ap Ok (one_clock_state found state numbers fits (sym encoding ∙ is))
clock_encoding_read bytes (Err error) numbers encoding fault state fits is =
    let none : Some error ≡ None = fault ∙ ap clock_fault is ∙ clock_encoding_has_no_fault state in cc

-- ---- bytes that are made of arrays. The search joins only some at once without these lemmas

-- an array of four bytes, and what follows it
pub four_bytes-then : (a : List ℕ) (a0 a1 a2 a3 : ℕ) (rest more : List ℕ) → a ≡ a0 ∷ a1 ∷ a2 ∷ a3 ∷ [] → rest ≡ more →
    ◌≡◌ {A = List ℕ} (slice_index_or a 0 0 ∷ slice_index_or a 1 0 ∷ slice_index_or a 2 0 ∷ slice_index_or a 3 0 ∷ rest)
    (a0 ∷ a1 ∷ a2 ∷ a3 ∷ more)
four_bytes-then a a0 a1 a2 a3 rest more is is_rest = rw (is, is_rest) refl

-- an array of eight
pub eight_bytes-then : (a : List ℕ) (a0 a1 a2 a3 a4 a5 a6 a7 : ℕ) (rest more : List ℕ) →
    a ≡ a0 ∷ a1 ∷ a2 ∷ a3 ∷ a4 ∷ a5 ∷ a6 ∷ a7 ∷ [] → rest ≡ more →
    ◌≡◌ {A = List ℕ} (slice_index_or a 0 0 ∷ slice_index_or a 1 0 ∷ slice_index_or a 2 0 ∷ slice_index_or a 3 0
    ∷ slice_index_or a 4 0 ∷ slice_index_or a 5 0 ∷ slice_index_or a 6 0 ∷ slice_index_or a 7 0 ∷ rest)
    (a0 ∷ a1 ∷ a2 ∷ a3 ∷ a4 ∷ a5 ∷ a6 ∷ a7 ∷ more)
eight_bytes-then a a0 a1 a2 a3 a4 a5 a6 a7 rest more is is_rest = rw (is, is_rest) refl

pub ruleset bytes_of_arrays = (four_bytes-then, eight_bytes-then)

-- ---- bytes that are taken apart piece by piece. The search goes from one to the next by these lemmas

-- an encoding, if what follows its header is known
pub encoding-then : (kind : ℕ) (bytes contents more : List ℕ) (low high : ℕ) → bytes ≡ encoding kind contents → contents ≡ more →
    length more % 256 ≡ low → length more / 256 % 256 ≡ high →
    bytes ≡ 0x53 ∷ 0x49 ∷ 0x4F ∷ 0x53 ∷ kind ∷ 1 ∷ low ∷ high ∷ more
encoding-then kind bytes contents more low high is_encoding is is_low is_high =
    is_encoding ∙ ap (encoding kind) is
    ∙ ap (λ n. 0x53 ∷ 0x49 ∷ 0x4F ∷ 0x53 ∷ kind ∷ 1 ∷ n ∷ length more / 256 % 256 ∷ more) is_low
    ∙ ap (λ n. 0x53 ∷ 0x49 ∷ 0x4F ∷ 0x53 ∷ kind ∷ 1 ∷ low ∷ n ∷ more) is_high

-- a number, and what follows it
pub number-then : (bytes rest more : List ℕ) (n same : ℕ) → bytes ≡ to_le_bytes w32 n ++ rest → n ≡ same → rest ≡ more →
    bytes ≡ to_le_bytes w32 same ++ more
number-then bytes rest more n same split is_same is = split ∙ ap (λ l. to_le_bytes w32 n ++ l) is ∙ ap (λ k. to_le_bytes w32 k ++ more) is_same

-- an offset that was stored in 64 bits, and what follows it
pub offset-then : (bytes rest more : List ℕ) (offset : ℤ) → FitsSigned w64 offset →
    bytes ≡ to_le_bytes w64 (cast_unsigned w64 offset) ++ rest → rest ≡ more →
    bytes ≡ to_le_bytes w64 (cast_unsigned w64 (to_z w64 (of_z w64 offset))) ++ more
offset-then bytes rest more offset fits split is =
    split ∙ ap (λ l. to_le_bytes w64 (cast_unsigned w64 offset) ++ l) is
    ∙ ap (λ x. to_le_bytes w64 (cast_unsigned w64 x) ++ more) (sym (to_z-of_z w64 offset fits))

-- a slice of one byte
pub one_byte : (bytes : List ℕ) → length bytes ≡ 1 → bytes ≡ slice_index_or bytes 0 0 ∷ []
one_byte [] is = grind arith
one_byte (byte ∷ []) is = refl
one_byte (byte ∷ next ∷ more) is = grind arith

-- ---- what the laws rest on

pub ruleset one_state_of_an_encoding_laws = (one_serial_state, one_clock_state)

pub ruleset encodings_are_read_laws = (serial_encoding_has_no_fault, clock_encoding_has_no_fault)

-- ---- worked examples of the checks, in order. docs/SAVED-STATES.md has those of the encoding, which scripts try

-- two bytes are held, and received data is pending
abbrev two_held : State
two_held = record fresh_state {
  interrupt_enable = 0x01;
  interrupt_identification = 0x04;
  line_status = 0x61;
  scratch = 0x5A;
  in_buffer = 0x61 ∷ 0x62 ∷ [];
}

-- guest time is an hour behind, and an alarm is set
abbrev hour_behind : RtcState
hour_behind = record fresh_clock { lr = 0x65920080; offset = negsuc 3599; mr = 0x659200BC; imsc = 1; armed = true }

-- all bytes but the last
abbrev without_last : (bytes : List ℕ) → List ℕ
without_last bytes = take (length bytes - 1) bytes

good : serial_fault (serial_encoding two_held) ≡ None
good = refl

seven_bytes : serial_fault (take 7 (serial_encoding two_held)) ≡ Some TooShort
seven_bytes = refl

header_alone : serial_fault (take 8 (serial_encoding two_held)) ≡ Some WrongLength
header_alone = refl

other_letter : serial_fault (0x73 ∷ drop 1 (serial_encoding two_held)) ≡ Some NotASavedState
other_letter = refl

clock_at_port : serial_fault (clock_encoding hour_behind) ≡ Some OtherDevice
clock_at_port = refl

next_version : serial_fault (magic ++ serial_kind ∷ suc version ∷ []) ≡ Some TooShort
next_version = refl

next_version_whole : serial_fault (magic ++ serial_kind ∷ suc version ∷ to_le_bytes w16 0) ≡ Some (UnknownVersion (suc version))
next_version_whole = refl

byte_after_the_end : serial_fault (serial_encoding two_held ++ 0x63 ∷ []) ≡ Some WrongLength
byte_after_the_end = refl

-- eight bytes are too few for the registers, though the header says eight
eight_registers : serial_fault (header serial_kind 8 ++ replicate 8 0) ≡ Some WrongLength
eight_registers = refl

full_port : serial_fault (header serial_kind 73 ++ replicate 73 0) ≡ None
full_port = refl

-- the law speaks of full ports too
full_encoding : SerialEncodingLaw → (state : State) → length state.in_buffer ≡ 64 → serial_fault (serial_encoding state) ≡ None
full_encoding law state full = law state (omega (arith, full))

one_more_byte : serial_fault (header serial_kind 74 ++ replicate 74 0) ≡ Some TooManyBytes
one_more_byte = refl

armed_twice : clock_fault (without_last (clock_encoding hour_behind) ++ 0x02 ∷ []) ≡ Some InvalidArmed
armed_twice = refl
