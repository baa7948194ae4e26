-- SPDX-License-Identifier: Apache-2.0 OR BSD-3-Clause
-- What the events that are left add to what was done is what all of them do.
use Rattle.std.specs.Prelude.{◌≡◌, ◌+◌, ◌*◌, ◌≤◌, drop}
use Rattle.superio_examples.specs.TwoPorts.{machine_of, after_events, asked_in_all, resets_in}
use Rattle.superio_examples.proofs.two_ports.TwoPorts.run.Given as goal

abbrev pub invariant-loop-event : goal.invariant-loop-event
invariant-loop-event l =
    let left = drop l.event-index l.events in
    record {
      machine : after_events left (machine_of l.self) ≡ after_events l.events (machine_of l.fn.self);
      asked : l.asked + asked_in_all left (machine_of l.self) ≡ asked_in_all l.events (machine_of l.fn.self);
      resets : l.resets + resets_in left ≡ resets_in l.events;
      few_asked : l.asked ≤ 2 * l.event-index;
      few_resets : l.resets ≤ l.event-index;
    }
