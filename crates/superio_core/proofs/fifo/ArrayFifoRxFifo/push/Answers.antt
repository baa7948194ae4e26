-- SPDX-License-Identifier: Apache-2.0 OR BSD-3-Clause
-- One more byte follows the others.
use Rattle.std.proofs.Common.{◌≡◌, ◌+◌, ◌-◌, ◌<◌, ◌≤◌, min, [], ◌∷◌, ◌++◌, length, take, slice_set, sym, ap, ◌∙◌, arith, length-take, take_all}
use Rattle.superio_core.specs.Serial.{ring_contents, ring_from}
use Rattle.superio_core.proofs.Lemmas.Serial.{take-ring-set}
use Rattle.superio_core.proofs.fifo.ArrayFifoRxFifo.push.Goals as goal

pub returns-clause-added : goal.returns-clause-added
returns-clause-added c =
    let fifo = c.args.self.now in
    let held = c.count-held.result in
    let byte = c.args.byte in
    let long : length fifo.bytes ≡ 64 = omega arith in
    let count : held ≡ min fifo.len 64 = omega arith in
    let room : held < 64 = omega arith in
    let more : min (held + 1) 64 ≡ held + 1 = omega arith in
    let size : length (ring_contents fifo) ≤ held = omega (arith, length-take (min fifo.len 64) (ring_from fifo.head fifo.bytes)) in
    ap (λ n. take n (ring_from fifo.head (slice_set fifo.bytes c.place-place.result byte))) more
    ∙ ap (λ place. take (held + 1) (ring_from fifo.head (slice_set fifo.bytes place byte))) c.place-place.ensures.value
    ∙ take-ring-set fifo.head held fifo.bytes byte long room
    ∙ ap (λ n. take n (ring_from fifo.head fifo.bytes) ++ byte ∷ []) count
    ∙ ap (λ l. ring_contents fifo ++ l) (sym (take_all (64 - length (ring_contents fifo)) (byte ∷ []) (omega arith)))
