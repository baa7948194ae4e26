-- SPDX-License-Identifier: Apache-2.0 OR BSD-3-Clause
-- The port accepts all of the first bytes, as many as there is room for.
use Rattle.std.proofs.Common.{◌≡◌, length, take, min, ap, ◌∙◌}
use Rattle.superio_laws.specs.Serial.{enqueued_bytes}
use Rattle.superio_console.specs.Console.{state_of, input_room}
use Rattle.superio_console.proofs.Lemmas.Room.{accepted_room, take_fewer}
use Rattle.superio_console.proofs.Console.receive_port.Goals as goal

pub returns-clause-accepted : goal.returns-clause-accepted
returns-clause-accepted c =
    let old = state_of c.args.self.now in
    let input = c.args.input.now in
    let most : c.min-count.result ≡ min (length input) (input_room old) =
    c.min-count.ensures ∙ ap (min (length input)) c.input_room.ensures.value in
    let same : take c.min-count.result input ≡ take (input_room old) input =
    ap (λ n. take n input) most ∙ take_fewer (input_room old) input in
    c.enqueue_raw_bytes-effects.ensures.step.accepted
    ∙ ap (λ bytes. length (enqueued_bytes old.port bytes)) same
    ∙ accepted_room old input
