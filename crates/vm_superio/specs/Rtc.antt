-- SPDX-License-Identifier: Apache-2.0 OR BSD-3-Clause
-- The PL031 clock: the events that an access reports, and the clock with its events object.
use Rattle.std.specs.Prelude.{if◌then◌else◌, List, [], ◌∷◌}
pub use Rattle.superio_core.specs.Rtc.{Access, read, write, clock_register_at, is_readable, is_writable}
use Rattle.superio_core.specs.declared.rtc_pl031.encoding.RtcState.{RtcState}

-- a read at an offset that cannot be read, or a write at one that takes no write
pub data RtcEvent : Type 0 where
  invalid_read : RtcEvent
  invalid_write : RtcEvent

-- ---- a clock with its events object, and the events that an access reports

-- a clock: its registers, and the events object that it owns
pub record ClockDevice (EV : Type 0) : Type 0 where
  pub state : RtcState
  pub events : EV

-- the clock with another events object, and nothing else changed
abbrev pub with_clock_events : {EV : Type 0} → (clock : ClockDevice EV) (object : EV) → ClockDevice EV
with_clock_events clock object = record clock { events = object }

-- the events that an access reports: one if its register takes no such access
abbrev pub clock_events : (access : Access) → List RtcEvent
clock_events (read offset now) = if is_readable (clock_register_at offset) then [] else invalid_read ∷ []
clock_events (write offset value now) = if is_writable (clock_register_at offset) then [] else invalid_write ∷ []
