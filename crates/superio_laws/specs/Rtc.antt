-- SPDX-License-Identifier: Apache-2.0 OR BSD-3-Clause
-- The laws that join the step of an access and the history of a clock.
pub mod History
use Rattle.std.specs.Prelude.{
  if◌then◌else◌,
  List,
  [],
  ◌∷◌,
  ◌≡◌,
  ℕ,
  ◌+◌,
  ◌^◌,
  ◌<◌,
  ◌≤◌,
  Bool,
  true,
  false,
  ◌==◌,
  ◌&&◌,
  ◌||◌,
  Option,
  Some,
  None,
  pos,
  ◌+ℤ◌,
}
use Rattle.std.specs.Int.{bit_at, w32, to_le_bytes}
use Rattle.std.specs.List.{list_any}
pub use Rattle.superio_core.specs.declared.rtc_pl031.encoding.RtcState.{RtcState}
pub use Rattle.superio_core.specs.declared.rtc_pl031.Pl031.{Pl031}
pub use Rattle.superio_core.specs.declared.rtc_pl031.ClockRegister.{ClockRegister}
pub use Rattle.superio_core.specs.declared.rtc_pl031.ClockRegister.TheVariants.{
  Dr,
  Mr,
  Lr,
  Cr,
  Imsc,
  Ris,
  Mis,
  Icr,
  Id,
  Reserved,
}
pub use Rattle.superio_core.specs.Rtc.{
  Access,
  read,
  write,
  clock_register_at,
  is_readable,
  is_writable,
  write_of,
  moment_of,
  bytes_left,
  host_time,
  guest_time,
  guest_time_in,
  clock_register_read,
  after_write,
  fresh_clock,
  state_of_clock,
}
pub use Rattle.superio_core.specs.Rtc.Step.{
  clock_response,
  clock_step,
  state_after_accesses,
  IsDueIn,
  IsAlarmDue,
  after_alarm,
  is_alarm_reached,
  rtc_irq_level,
}
pub use Rattle.superio_laws.specs.Rtc.History.{
  counter,
  clock_of_history,
  clock_history_response,
  cleared_by,
  match_written,
  raises_alarm,
  is_alarm_raised,
  Setting,
  load,
  reset,
  setting_of,
  load_by,
  counter_by,
  newest_found,
  value_written,
  cleared_bits,
  guest_time_at,
  match_value,
  is_alarm_set,
  guest_times_since_match,
  is_reached,
  is_armed,
}

-- ---- a clock that was set

-- guest time is a value at one moment and goes on from there, at every moment at which 32 bits hold both times
abbrev pub GoesOnFrom : (state : RtcState) (value now : ℕ) → Type 0
GoesOnFrom state value now =
    (seconds : ℕ) → now + seconds < 2 ^ 32 → value + seconds < 2 ^ 32
    → guest_time_in state (host_time (now + seconds)) ≡ value + seconds

-- ---- the laws by which the steps and the history of a clock agree

-- for each history of the state before an access, the access responds as the history says
abbrev pub RespondsByHistory : (state : RtcState) (access : Access) (response : Option ℕ) → Type 0
RespondsByHistory state access response =
    (start : RtcState) (trace : List Access) → state ≡ clock_of_history start trace
    → response ≡ clock_history_response start trace access

-- a read leaves the bytes that the history says
abbrev pub ReadsByHistory : (state : RtcState) (offset now : ℕ) (old new : List ℕ) → Type 0
ReadsByHistory state offset now old new =
    (start : RtcState) (trace : List Access) → state ≡ clock_of_history start trace
    → new ≡ bytes_left (clock_history_response start trace (read offset now)) old

-- the state after an access is the state of the longer trace
abbrev pub GoesOnByHistory : (old : RtcState) (access : Access) (new : RtcState) → Type 0
GoesOnByHistory old access new =
    (start : RtcState) (trace : List Access) → old ≡ clock_of_history start trace
    → new ≡ clock_of_history start (access ∷ trace)

-- the clock is its history, at each access and so over any accesses from any state. At each moment the counter is the
-- host's time and the offset together
pub record ClockIsHistory : Type 0 where
  pub response_follows :
      (state : RtcState) (access : Access) → RespondsByHistory state access (clock_response state access)
  pub state_follows : (state : RtcState) (access : Access) → GoesOnByHistory state access (clock_step state access)
  pub all_responses :
      (start : RtcState) (trace : List Access) (access : Access)
      → clock_response (state_after_accesses start trace) access ≡ clock_history_response start trace access
  pub all_states :
      (start : RtcState) (trace : List Access) → state_after_accesses start trace ≡ clock_of_history start trace
  pub offset_is :
      (start : RtcState) (trace : List Access) (time : ℕ)
      → pos time +ℤ (clock_of_history start trace).offset ≡ counter start trace time

-- whether some access of the trace cleared a bit
abbrev pub is_cleared : (trace : List Access) (bit : ℕ) → Bool
is_cleared trace bit = list_any (λ access. bit_at (cleared_by access) bit == 1) trace

-- a raw interrupt bit is as at the start, unless an access of the trace cleared it. Bit 0 is also set if the alarm
-- raised it, and no access cleared it then or later
abbrev pub RawBitsByHistory : Type 0
RawBitsByHistory =
    (start : RtcState) (trace : List Access) (bit : ℕ)
    → bit_at (clock_of_history start trace).ris bit
    ≡ (if (bit == 0) && is_alarm_raised start trace then 1
    else (if is_cleared trace bit then 0 else bit_at start.ris bit))

-- after a trace, each access at a moment raises the interrupt
abbrev pub RaisesAt : (start : RtcState) (trace : List Access) (moment : ℕ) → Type 0
RaisesAt start trace moment =
    (access : Access) → moment_of access ≡ moment → raises_alarm start trace access ≡ true

-- after a trace, no access at a moment raises the interrupt, unless it writes a match itself
abbrev pub RaisesNothingAt : (start : RtcState) (trace : List Access) (moment : ℕ) → Type 0
RaisesNothingAt start trace moment =
    (access : Access) → moment_of access ≡ moment → match_written access ≡ None
    → raises_alarm start trace access ≡ false

-- an alarm that is due raises the interrupt then, by the history, and not sooner. An alarm that is never due raises it
-- at no later moment. An earlier read changes nothing, so the alarm stays due
pub record AlarmDueByHistory : Type 0 where
  pub raised :
      (start : RtcState) (trace : List Access) (now seconds : ℕ)
      → IsDueIn (clock_of_history start trace) now seconds → RaisesAt start trace (now + seconds)
  pub not_sooner :
      (start : RtcState) (trace : List Access) (now seconds : ℕ)
      → IsDueIn (clock_of_history start trace) now seconds
      → (sooner : ℕ) → sooner < seconds → RaisesNothingAt start trace (now + sooner)
  pub never :
      (start : RtcState) (trace : List Access) (now : ℕ)
      → IsAlarmDue (clock_of_history start trace) now None
      → (later : ℕ) → RaisesNothingAt start trace (now + later)
  pub waits :
      (state : RtcState) (now seconds : ℕ) → IsDueIn state now seconds
      → (offset sooner : ℕ) → sooner < seconds → clock_step state (read offset (now + sooner)) ≡ state

-- a clock that was set shows the written value plus the seconds that have passed since, if 32 bits hold both times.
-- `bytes` are the bytes written, and `shown` the bytes that a read leaves
abbrev pub SetTimeLaw : Type 0
SetTimeLaw = (before after : RtcState) (value now seconds : ℕ) (bytes shown : List ℕ)
    → bytes ≡ to_le_bytes w32 value → after ≡ clock_step before (write_of 0x008 bytes now)
    → shown ≡ bytes_left (clock_response after (read 0x000 (now + seconds))) []
    → now + seconds < 2 ^ 32 → value + seconds < 2 ^ 32
    → shown ≡ to_le_bytes w32 (value + seconds)

-- ---- guest time from one moment to another

-- a clock goes on from its counter, if the counter is not negative
abbrev pub CounterLaw : Type 0
CounterLaw = (state : RtcState) (value now : ℕ) → pos now +ℤ state.offset ≡ pos value → GoesOnFrom state value now

-- after a write of RTCLR a clock goes on from the written value, whatever its time was
abbrev pub SetClockLaw : Type 0
SetClockLaw = (state : RtcState) (value now : ℕ) → GoesOnFrom (clock_step state (write 0x008 value now)) value now

-- RTCDR shows guest time
abbrev pub GuestTimeLaw : Type 0
GuestTimeLaw = (state : RtcState) (now : ℕ)
    → clock_response state (read 0x000 now) ≡ Some (guest_time_in state (host_time now))

-- the accesses that may set guest time: writes of RTCLR, and of RTCCR
abbrev pub may_set_time : (access : Access) → Bool
may_set_time (read _ _) = false
may_set_time (write offset _ _) = (offset == 0x008) || (offset == 0x00C)

-- no other access changes how far guest time is ahead of the host's, and no trace of others does
abbrev pub KeepsTimeLaw : Type 0
KeepsTimeLaw = (state : RtcState) (access : Access) → may_set_time access ≡ false
    → (clock_step state access).offset ≡ state.offset

abbrev pub KeepsTimeInTraceLaw : Type 0
KeepsTimeInTraceLaw = (state : RtcState) (trace : List Access) → list_any may_set_time trace ≡ false
    → (state_after_accesses state trace).offset ≡ state.offset

-- as long as guest time stays as far ahead of the host's, a clock goes on as before. So guest time never goes back from
-- one moment to a later one, while 32 bits hold it and the moment
pub record TimeGoesOn (state after : RtcState) (value now : ℕ) : Type 0 where
  pub goes_on : GoesOnFrom after value now
  pub not_back :
      (earlier later : ℕ) → earlier ≤ later → now + later < 2 ^ 32 → value + later < 2 ^ 32
      → guest_time_in state (host_time (now + earlier)) ≤ guest_time_in after (host_time (now + later))

abbrev pub TimeGoesOnLaw : Type 0
TimeGoesOnLaw = (state after : RtcState) (value now : ℕ) → after.offset ≡ state.offset → GoesOnFrom state value now
    → TimeGoesOn state after value now
