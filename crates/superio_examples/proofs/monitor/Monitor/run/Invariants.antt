-- SPDX-License-Identifier: Apache-2.0 OR BSD-3-Clause
-- What the events that are left make of the machine, after the replies so far, is what all make of the first machine.
use Rattle.std.proofs.Common.{◌≡◌, ◌++◌, length, drop, vec_len, vec_capacity}
use Rattle.superio_examples.specs.Monitor.{machine_of, after_events, replies_to}
use Rattle.superio_examples.proofs.monitor.Monitor.run.Given as goal

abbrev pub invariant-loop-event : goal.invariant-loop-event
invariant-loop-event l =
    let left = drop l.event-index l.events in
    record {
      count : vec_len l.replies ≡ l.event-index;
      room : vec_capacity l.replies ≡ length l.events;
      machine : after_events left (machine_of l.self) ≡ after_events l.events (machine_of l.initial.self);
      replies : l.replies.items ++ replies_to left (machine_of l.self) ≡ replies_to l.events (machine_of l.initial.self);
    }
