-- SPDX-License-Identifier: Apache-2.0 OR BSD-3-Clause
-- The places up to the last one, and those from the first one on, are the ring.
use Rattle.std.proofs.Common.{◌≡◌, ◌%◌, take, drop, ◌++◌, ap, ◌∙◌, arith}
use Rattle.superio_console.specs.OutputRing.{ring_from}
use Rattle.superio_console.proofs.Lemmas.Ring.{take-both}
use Rattle.superio_console.proofs.output_ring.OutputRing.as_slices.Goals as goal

pub returns-clause-bytes : goal.returns-clause-bytes
returns-clause-bytes c =
    let ring = c.args.self.now in
    let waiting = c.count-waiting.result in
    let here : c.place.result ≡ ring.head % 4096 = omega arith in
    take-both waiting c.min-older.result c.split_at.result.1.now c.split_at.result.0.now c.min-older.ensures
    ∙ ap (λ l. take waiting (l ++ c.split_at.result.0.now)) c.split_at.ensures.back
    ∙ ap (λ l. take waiting (drop c.place.result ring.bytes ++ l)) c.split_at.ensures.front
    ∙ ap (λ place. take waiting (drop place ring.bytes ++ take place ring.bytes)) here
    ∙ ap (λ n. take n (ring_from ring.head ring.bytes)) c.count-waiting.ensures.value
