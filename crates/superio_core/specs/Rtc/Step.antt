-- SPDX-License-Identifier: Apache-2.0 OR BSD-3-Clause
-- The step of one access to the clock, in any state: its response, and the state that it leaves. After that, when the
-- alarm is due.
use Rattle.std.specs.Prelude.{ℕ, ◌%◌, pos, ◌+ℤ◌, ◌==◌, ◌&&◌, Bool, nat_le, false, if◌then◌else◌, List, [], ◌∷◌, Option, None, ◌≡◌, ◌+◌, ◌^◌, ◌<◌, ◌≤◌, ℤ, true, Some, bit_and}
use Rattle.superio_core.specs.Rtc.{RtcState, Access, read, write, clock_register_at, host_time, guest_time, guest_time_in, clock_register_read, after_write}
use Rattle.superio_core.specs.Bits.{with_bits}

-- an alarm is set, and guest time has reached the match
abbrev pub is_alarm_reached : (state : RtcState) (time : ℕ) → Bool
is_alarm_reached state time = state.armed && nat_le state.mr (guest_time_in state time)

-- every access begins with the alarm: if it is reached, the raw interrupt is raised and the alarm is off
abbrev pub after_alarm : (state : RtcState) (time : ℕ) → RtcState
after_alarm state time =
    if is_alarm_reached state time
    then record state { ris = with_bits state.ris 1; armed = false }
    else state

-- the number that a read shows at its moment; a write responds nothing
abbrev pub clock_response : (state : RtcState) (access : Access) → Option ℕ
clock_response state (read offset now) =
    let found = after_alarm state (host_time now) in
    clock_register_read (clock_register_at offset) (guest_time_in found (host_time now)) found
clock_response state (write _ _ _) = None

-- the state that an access leaves. A read itself changes no register but, like any access, may find the alarm reached
abbrev pub clock_step : (state : RtcState) (access : Access) → RtcState
clock_step state (read _ now) = after_alarm state (host_time now)
clock_step state (write offset value now) =
    let time = host_time now in
    after_write (after_alarm state time) (clock_register_at offset) value time

-- the state to which a trace of accesses leads. The trace has the newest access first
abbrev pub state_after_accesses : (start : RtcState) (trace : List Access) → RtcState
state_after_accesses start [] = start
state_after_accesses start (access ∷ trace) = clock_step (state_after_accesses start trace) access

-- ---- when the alarm is due if the guest makes no access, and whether the interrupt line is up

-- the interrupt line is up: bit 0 of what RTCMIS shows. The other bits of RTCMIS belong to no interrupt
abbrev pub rtc_irq_level : (state : RtcState) → Bool
rtc_irq_level state = bit_and state.ris state.imsc % 2 == 1

-- the alarm is due `seconds` seconds after the moment `now`: an access then finds it reached, and no earlier one does
pub record IsDueIn (state : RtcState) (now seconds : ℕ) : Type 0 where
  pub reached : is_alarm_reached state (host_time (now + seconds)) ≡ true
  pub not_sooner : (sooner : ℕ) → sooner < seconds → is_alarm_reached state (host_time (now + sooner)) ≡ false

-- how many seconds after a moment the alarm is due; `None` if no access at a later moment finds it reached
abbrev pub IsAlarmDue : (state : RtcState) (now : ℕ) (due : Option ℕ) → Type 0
IsAlarmDue state now (Some seconds) = IsDueIn state now seconds
IsAlarmDue state now None = (later : ℕ) → is_alarm_reached state (host_time (now + later)) ≡ false

-- guest time has reached a value, at a host's time
abbrev pub Reached : (offset : ℤ) (value time : ℕ) → Type 0
Reached offset value time = value ≤ guest_time (pos time +ℤ offset) time

-- guest time has not reached the value, at a host's time
abbrev pub NotReached : (offset : ℤ) (value time : ℕ) → Type 0
NotReached offset value time = guest_time (pos time +ℤ offset) time < value

-- the first of the host's times from `from` up to the largest at which guest time has reached a value
pub record IsFirst (offset : ℤ) (value from first : ℕ) : Type 0 where
  pub in_order : from ≤ first
  pub in_range : first < 2 ^ 32
  pub come : Reached offset value first
  pub not_before : (time : ℕ) → from ≤ time → time < first → NotReached offset value time

abbrev pub FirstAtOrAfter : (offset : ℤ) (value from : ℕ) (found : Option ℕ) → Type 0
FirstAtOrAfter offset value from (Some first) = IsFirst offset value from first
FirstAtOrAfter offset value from None = (time : ℕ) → from ≤ time → time < 2 ^ 32 → NotReached offset value time

-- guest time first reaches the value `seconds` seconds after the moment `now`. The host's time may wrap to 0 in between
pub record IsComeIn (offset : ℤ) (value now seconds : ℕ) : Type 0 where
  pub come : Reached offset value (host_time (now + seconds))
  pub not_sooner : (sooner : ℕ) → sooner < seconds → NotReached offset value (host_time (now + sooner))
  pub bound : seconds < 2 ^ 32

abbrev pub SecondsUntil : (offset : ℤ) (value now : ℕ) (due : Option ℕ) → Type 0
SecondsUntil offset value now (Some seconds) = IsComeIn offset value now seconds
SecondsUntil offset value now None = (later : ℕ) → NotReached offset value (host_time (now + later))
