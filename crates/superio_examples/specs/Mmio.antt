-- SPDX-License-Identifier: Apache-2.0 OR BSD-3-Clause
-- A clock's window in a guest's memory.
use Rattle.std.specs.Prelude.{◌≡◌, ℕ, ◌+◌, ◌-◌, ◌%◌, Bool, ◌&&◌, ◌||◌, ◌==◌, nat_le, nat_lt, not, if◌then◌else◌, List, [], ◌∷◌, length, take, drop, replicate}
use Rattle.vm_superio.specs.Links.{Link}
use Rattle.vm_superio.specs.Rtc.{RtcEvent, invalid_read, invalid_write, ClockDevice, clock_events}
use Rattle.superio_laws.specs.Rtc.{read, write_of, host_time, bytes_left, after_alarm, clock_response, clock_step}

-- an address is in the 4,096 bytes from `base` on
abbrev pub is_inside : (base address : ℕ) → Bool
is_inside base address = nat_le base address && nat_lt address (base + 0x1000)

-- where a read of this length begins in the four bytes of a register
abbrev pub place_in : (offset length : ℕ) → ℕ
place_in offset length = if length == 4 then 0 else offset % 4

-- a read of four bytes, or of one or two that lie in a register
abbrev pub is_read : (base address length : ℕ) → Bool
is_read base address length =
    is_inside base address
    && ((length == 4) || (length == 1) || ((length == 2) && nat_le ((address - base) % 4) 2))

-- a write of four bytes
abbrev pub is_write : (base address length : ℕ) → Bool
is_write base address length = is_inside base address && (length == 4)

-- any other access in the window
abbrev pub is_other_read : (base address length : ℕ) → Bool
is_other_read base address length = is_inside base address && not (is_read base address length)

abbrev pub is_other_write : (base address length : ℕ) → Bool
is_other_write base address length = is_inside base address && not (is_write base address length)

module _ {EV : Type 0} (link : Link EV RtcEvent) where
  -- the clock reads the register around the offset. The bytes were cleared, and get the register's part from the offset
  -- on
  pub record ReadsClock (offset now : ℕ) (bytes : List ℕ) (old new : ClockDevice EV) : Type 0 where
    pub bytes_read :
        let place = place_in offset (length bytes) in
        let register = bytes_left (clock_response old.state (read (offset - place) now)) (replicate 4 0) in
        bytes ≡ take (length bytes) (drop place register)
    pub state : new.state ≡ after_alarm old.state (host_time now)
    pub events : link old.events (clock_events (read (offset - place_in offset (length bytes)) now)) new.events

  -- the clock's write at its offset
  pub record WritesClock (offset : ℕ) (bytes : List ℕ) (now : ℕ) (old new : ClockDevice EV) : Type 0 where
    pub state : new.state ≡ clock_step old.state (write_of offset bytes now)
    pub events : link old.events (clock_events (write_of offset bytes now)) new.events

  -- an invalid access changes no register, and reports one event. Like any access it begins with the alarm
  pub record IsInvalidRead (now : ℕ) (old new : ClockDevice EV) : Type 0 where
    pub state : new.state ≡ after_alarm old.state (host_time now)
    pub events : link old.events (invalid_read ∷ []) new.events

  pub record IsInvalidWrite (now : ℕ) (old new : ClockDevice EV) : Type 0 where
    pub state : new.state ≡ after_alarm old.state (host_time now)
    pub events : link old.events (invalid_write ∷ []) new.events
