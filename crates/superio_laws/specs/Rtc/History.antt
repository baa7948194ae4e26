-- SPDX-License-Identifier: Apache-2.0 OR BSD-3-Clause
-- The history of a clock: what its registers hold, by a search of its accesses alone. A trace is a list of accesses,
-- newest first. It keeps no state.
use Rattle.std.specs.Prelude.{ℕ, ◌+◌, ◌%◌, ℤ, pos, ◌+ℤ◌, ◌-ℤ◌, Bool, false, not, ◌==◌, ◌&&◌, ◌||◌, nat_lt, nat_le, is_some, if◌then◌else◌, List, [], ◌∷◌, Option, Some, None, unwrap_or, bit_or}
use Rattle.std.specs.List.{list_any}
use Rattle.std.specs.Option.{option_or, option_map_or}
use Rattle.superio_core.specs.declared.rtc_pl031.encoding.RtcState.{RtcState}
use Rattle.superio_core.specs.Rtc.{Access, read, write, clock_register_at, host_time, guest_time, clock_register_read}
use Rattle.std.specs.Int.{bit_at}
use Rattle.superio_core.specs.Bits.{with_bits, without_bits}

-- the value that `find` gives for the newest access that has one
abbrev pub newest_found : {A : Type 0} → (find : Access → Option A) (trace : List Access) → Option A
newest_found find [] = None
newest_found find (access ∷ trace) = option_or (find access) (newest_found find trace)

-- the value that an access writes at an offset
abbrev pub value_written : (offset : ℕ) (access : Access) → Option ℕ
value_written offset (read _ _) = None
value_written offset (write at value _) = if at == offset then Some value else None

-- ---- the counter

-- how the counter was set: to a value loaded at a host's time, or back to the host's time
pub data Setting : Type 0 where
  load : (value time : ℕ) → Setting
  reset : Setting

-- a write to RTCLR, at 0x008, loads its value, and a write of 1 to RTCCR, at 0x00C, resets
abbrev pub setting_of : (access : Access) → Option Setting
setting_of (read _ _) = None
setting_of (write offset value now) =
    if offset == 0x008 then Some (load value (host_time now)) else
    if (offset == 0x00C) && (value == 1) then Some reset else
    None

-- the counter at a host's time, by its last setting: the loaded value and the seconds since, or the host's time, or
-- with no setting the host's time and the offset of the start
abbrev pub counter_by : (setting : Option Setting) (start : RtcState) (time : ℕ) → ℤ
counter_by (Some (load value load_time)) start time = pos (value + time) -ℤ pos load_time
counter_by (Some reset) start time = pos time
counter_by None start time = pos time +ℤ start.offset

abbrev pub counter : (start : RtcState) (trace : List Access) (time : ℕ) → ℤ
counter start trace time = counter_by (newest_found setting_of trace) start time

-- the load register, by the last setting
abbrev pub load_by : (setting : Option Setting) (start : RtcState) → ℕ
load_by (Some (load value _)) start = value
load_by (Some reset) start = 0
load_by None start = start.lr

-- ---- the interrupt bits

-- the bits that an access clears: a write to RTCICR, at 0x01C, clears the bits of its value
abbrev pub cleared_by : (access : Access) → ℕ
cleared_by access = unwrap_or (value_written 0x01C access) 0

-- the bits that any access of the trace cleared
abbrev pub cleared_bits : (trace : List Access) → ℕ
cleared_bits [] = 0
cleared_bits (access ∷ trace) = bit_or (cleared_by access) (cleared_bits trace)

-- ---- the alarm

-- the host's time at an access
abbrev pub time_of : (access : Access) → ℕ
time_of (read _ now) = host_time now
time_of (write _ _ now) = host_time now

-- guest time at an access, before its own effect
abbrev pub guest_time_at : (start : RtcState) (trace : List Access) (access : Access) → ℕ
guest_time_at start trace access = guest_time (counter start trace (time_of access)) (time_of access)

-- a match write: the value that an access writes to RTCMR, at 0x004
abbrev pub match_written : (access : Access) → Option ℕ
match_written access = value_written 0x004 access

-- the match: the value of the last match write, or the start's
abbrev pub match_value : (start : RtcState) (trace : List Access) → ℕ
match_value start trace = unwrap_or (newest_found match_written trace) start.mr

-- the last match write wrote a value that guest time had not yet reached. If there was no match write, the start has an
-- alarm
abbrev pub is_alarm_set : (start : RtcState) (trace : List Access) → Bool
is_alarm_set start [] = start.armed
is_alarm_set start (access ∷ trace) =
    option_map_or (λ value. nat_lt (guest_time_at start trace access) value) (match_written access)
    (is_alarm_set start trace)

-- the guest times of the accesses since the last match write or, without one, since the start
abbrev pub guest_times_since_match : (start : RtcState) (trace : List Access) → List ℕ
guest_times_since_match start [] = []
guest_times_since_match start (access ∷ trace) =
    if is_some (match_written access) then []
    else guest_time_at start trace access ∷ guest_times_since_match start trace

-- one of these guest times is at the match or past it
abbrev pub is_reached : (start : RtcState) (trace : List Access) → Bool
is_reached start trace =
    list_any (λ guest. nat_le (match_value start trace) guest) (guest_times_since_match start trace)

-- an alarm is set and was not reached
abbrev pub is_armed : (start : RtcState) (trace : List Access) → Bool
is_armed start trace = is_alarm_set start trace && not (is_reached start trace)

-- an access raises the interrupt if it is a match write of guest time itself, or reaches the alarm
abbrev pub raises_alarm : (start : RtcState) (trace : List Access) (access : Access) → Bool
raises_alarm start trace access =
    option_map_or (λ value. value == guest_time_at start trace access) (match_written access) false
    || (is_armed start trace && nat_le (match_value start trace) (guest_time_at start trace access))

-- some access raised the interrupt, and no write to RTCICR cleared bit 0 there or later
abbrev pub is_alarm_raised : (start : RtcState) (trace : List Access) → Bool
is_alarm_raised start [] = false
is_alarm_raised start (access ∷ trace) =
    not (bit_at (cleared_by access) 0 == 1) && (raises_alarm start trace access || is_alarm_raised start trace)

-- ---- the clock

-- the offset is how far the counter is ahead of the host's time, which is the counter when the host's time is 0. The
-- mask is bit 0 of the last write to RTCIMSC, at 0x010. A raw bit is set if the start has it and no write to RTCICR had
-- it, and bit 0 is set also if the alarm raised it
abbrev pub clock_of_history : (start : RtcState) (trace : List Access) → RtcState
clock_of_history start trace = record {
  lr = load_by (newest_found setting_of trace) start;
  offset = counter start trace 0;
  mr = match_value start trace;
  imsc = option_map_or (λ value. value % 2) (newest_found (value_written 0x010) trace) start.imsc;
  ris = with_bits (without_bits start.ris (cleared_bits trace)) (if is_alarm_raised start trace then 1 else 0);
  armed = is_armed start trace;
}

-- the number that a read shows at its moment. If the read itself reaches the alarm, the number shows that already. A
-- write responds nothing
abbrev pub clock_history_response : (start : RtcState) (trace : List Access) (access : Access) → Option ℕ
clock_history_response start trace (read offset now) =
    clock_register_read (clock_register_at offset) (guest_time_at start trace (read offset now))
    (clock_of_history start (read offset now ∷ trace))
clock_history_response start trace (write _ _ _) = None
