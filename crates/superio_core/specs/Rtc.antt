-- SPDX-License-Identifier: Apache-2.0 OR BSD-3-Clause
-- The clock PL031: its registers, what an access is, which register it reaches, what a read of it shows, and what a
-- write does to the state of a clock. The step of an access and the history of all accesses both rest on this map.
pub mod Step
use Rattle.std.specs.Prelude.{ℕ, ◌-◌, ◌/◌, ◌%◌, ◌^◌, ℤ, pos, negsuc, ◌+ℤ◌, ◌-ℤ◌, Bool, true, false, ◌==◌, ◌&&◌, nat_lt, nat_le, if◌then◌else◌, List, [], ◌∷◌, slice_index, Option, Some, None, bit_and, not}
use Rattle.std.specs.Int.{w32, to_le_bytes, from_le_bytes}
use Rattle.superio_core.specs.Bits.{with_bits, without_bits}
pub use Rattle.superio_core.specs.declared.rtc_pl031.encoding.RtcState.{RtcState}
pub use Rattle.superio_core.specs.declared.rtc_pl031.ClockRegister.{ClockRegister}
pub use Rattle.superio_core.specs.declared.rtc_pl031.ClockRegister.TheVariants.{Dr, Mr, Lr, Cr, Imsc, Ris, Mis, Icr, Id, Reserved}
pub use Rattle.superio_core.specs.declared.rtc_pl031.Pl031.{Pl031}

-- the state of a fresh clock
abbrev pub fresh_clock : RtcState
fresh_clock = record { lr = 0; offset = pos 0; mr = 0; imsc = 0; ris = 0; armed = false }

-- an access by the guest: its offset, for a write the value, and its moment in seconds since 1970
pub data Access : Type 0 where
  read : (offset now : ℕ) → Access
  write : (offset value now : ℕ) → Access

-- the moment of an access
abbrev pub moment_of : (access : Access) → ℕ
moment_of (read _ now) = now
moment_of (write _ _ now) = now

-- a write of four bytes, lowest byte first
abbrev pub write_of : (offset : ℕ) (bytes : List ℕ) (now : ℕ) → Access
write_of offset bytes now = write offset (from_le_bytes w32 bytes) now

-- the bytes of the peripheral and PrimeCell identification
abbrev pub identification_bytes : List ℕ
identification_bytes = 0x31 ∷ 0x10 ∷ 0x04 ∷ 0x00 ∷ 0x0D ∷ 0xF0 ∷ 0x05 ∷ 0xB1 ∷ []

-- the register at an offset: RTCDR, RTCMR, RTCLR, RTCCR, RTCIMSC, RTCRIS, RTCMIS, RTCICR, or a byte of the
-- identification. Each of these bytes is at four offsets
abbrev pub clock_register_at : (offset : ℕ) → ClockRegister
clock_register_at offset =
    if offset == 0x000 then Dr else
    if offset == 0x004 then Mr else
    if offset == 0x008 then Lr else
    if offset == 0x00C then Cr else
    if offset == 0x010 then Imsc else
    if offset == 0x014 then Ris else
    if offset == 0x018 then Mis else
    if offset == 0x01C then Icr else
    if nat_le 0xFE0 offset && nat_le offset 0xFFF
    then Id (slice_index identification_bytes ((offset - 0xFE0) / 4)) else
    Reserved

abbrev pub is_readable : (register : ClockRegister) → Bool
is_readable Icr = false
is_readable Reserved = false
is_readable _ = true

abbrev pub is_writable : (register : ClockRegister) → Bool
is_writable Mr = true
is_writable Lr = true
is_writable Cr = true
is_writable Imsc = true
is_writable Icr = true
is_writable _ = false

-- the host's time at a moment: the low 32 bits
abbrev pub host_time : (now : ℕ) → ℕ
host_time now = now % 2 ^ 32

-- guest time at a host's time: the counter if 32 bits hold it, otherwise the host's time
abbrev pub guest_time : (counter : ℤ) (time : ℕ) → ℕ
guest_time (pos counter) time = if nat_lt counter (2 ^ 32) then counter else time
guest_time (negsuc _) time = time

-- the number that a read of a register shows, if it may be read
abbrev pub clock_register_read : (register : ClockRegister) (guest : ℕ) (state : RtcState) → Option ℕ
clock_register_read Dr guest state = Some guest
clock_register_read Mr guest state = Some state.mr
clock_register_read Lr guest state = Some state.lr
clock_register_read Cr guest state = Some 1
clock_register_read Imsc guest state = Some state.imsc
clock_register_read Ris guest state = Some state.ris
clock_register_read Mis guest state = Some (bit_and state.ris state.imsc)
clock_register_read Icr guest state = None
clock_register_read (Id byte) guest state = Some byte
clock_register_read Reserved guest state = None

-- the four bytes that a read leaves: the number that it shows, lowest byte first, or else the bytes that were there
abbrev pub bytes_left : (response : Option ℕ) (bytes : List ℕ) → List ℕ
bytes_left (Some number) bytes = to_le_bytes w32 number
bytes_left None bytes = bytes

-- ---- the state of a clock

-- an alarm is set if `armed` is not 0; any struct has a state
abbrev pub state_of_clock : (clock : Pl031) → RtcState
state_of_clock clock = record {
  lr = clock.lr;
  offset = clock.offset;
  mr = clock.mr;
  imsc = clock.imsc;
  ris = clock.ris;
  armed = not (clock.armed == 0);
}

-- ---- what a write does

-- guest time at a host's time
abbrev pub guest_time_in : (state : RtcState) (time : ℕ) → ℕ
guest_time_in state time = guest_time (pos time +ℤ state.offset) time

-- a match write sets an alarm if guest time has yet to reach the value. If guest time is the value, it raises the
-- interrupt at once
abbrev pub match_write : (state : RtcState) (value time : ℕ) → RtcState
match_write state value time =
    let guest = guest_time_in state time in
    record state {
      mr = value;
      ris = if value == guest then with_bits state.ris 1 else state.ris;
      armed = nat_lt guest value;
    }

-- the state that a write leaves, at the host's time
abbrev pub after_write : (state : RtcState) (register : ClockRegister) (value time : ℕ) → RtcState
after_write state Mr value time = match_write state value time
after_write state Lr value time = record state { lr = value; offset = pos value -ℤ pos time }
after_write state Cr value time = if value == 1 then record state { lr = 0; offset = pos 0 } else state
after_write state Imsc value time = record state { imsc = value % 2 }
after_write state Icr value time = record state { ris = without_bits state.ris value }
after_write state _ value time = state
