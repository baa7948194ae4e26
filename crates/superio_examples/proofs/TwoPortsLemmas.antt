-- SPDX-License-Identifier: Apache-2.0 OR BSD-3-Clause
-- What the events do to each device are the calls that the device gets.
use Rattle.std.proofs.Common.{◌≡◌, ◌+◌, false, List, [], ◌∷◌, refl, ◌∙◌, arith}
use Rattle.std.specs.List.{list_any}
use Rattle.superio_laws.specs.Serial.Laws.ListsOfOps.{state_by, asked_in}
use Rattle.superio_laws.specs.Rtc.{read, write}
use Rattle.superio_laws.proofs.Lemmas.Rtc.{keeps_time_law, neither}
use Rattle.superio_examples.specs.declared.two_ports.Event.{Event}
use Rattle.superio_examples.specs.declared.two_ports.Event.TheVariants.{First, Second, ClockRead, ClockWrite}
use Rattle.superio_examples.specs.TwoPorts.{Machine, after_event, after_events, asked_in_all, ops_on_first, ops_on_second, sets_clock}

pub first-run : (events : List Event) (m : Machine) → (after_events events m).first ≡ state_by m.first (ops_on_first events)
first-run [] m = refl
first-run (First made ∷ events) m = first-run events (after_event (First made) m)
first-run (event ∷ events) m = first-run events (after_event event m)

pub second-run : (events : List Event) (m : Machine) → (after_events events m).second ≡ state_by m.second (ops_on_second events)
second-run [] m = refl
second-run (Second made ∷ events) m = second-run events (after_event (Second made) m)
second-run (event ∷ events) m = second-run events (after_event event m)

pub asked-run : (events : List Event) (m : Machine)
    → asked_in_all events m ≡ asked_in m.first (ops_on_first events) + asked_in m.second (ops_on_second events)
asked-run [] m = refl
asked-run (First made ∷ events) m = omega (arith, asked-run events (after_event (First made) m))
asked-run (Second made ∷ events) m = omega (arith, asked-run events (after_event (Second made) m))
asked-run (event ∷ events) m = omega (arith, asked-run events (after_event event m))

-- unless an event sets the clock, guest time stays as far ahead of the host's
pub offset-run : (events : List Event) (m : Machine) → list_any sets_clock events ≡ false
    → (after_events events m).clock.offset ≡ m.clock.offset
offset-run [] m none = refl
offset-run (ClockRead offset ∷ events) m none =
    offset-run events (after_event (ClockRead offset) m) none ∙ keeps_time_law m.clock (read offset m.moment) refl
offset-run (ClockWrite offset value ∷ events) m none =
    let both = neither (sets_clock (ClockWrite offset value)) (list_any sets_clock events) none in
    offset-run events (after_event (ClockWrite offset value) m) both.1 ∙ keeps_time_law m.clock (write offset value m.moment) both.0
offset-run (event ∷ events) m none = offset-run events (after_event event m) none
