-- SPDX-License-Identifier: Apache-2.0 OR BSD-3-Clause
-- One more byte follows the others.
use Rattle.std.proofs.Common.{◌≡◌, ◌+◌, ◌<◌, ℕ, true, nat_lt, min, if◌then◌else◌, [], ◌∷◌, ◌++◌, length, take, slice_set, ap, sym, ◌∙◌, arith}
use Rattle.std.proofs.lemmas.Bool.Decides.{nat_tests}
use Rattle.superio_console.specs.OutputRing.{waiting_in, ring_from}
use Rattle.superio_console.proofs.Lemmas.Ring.{take-ring-set}
use Rattle.superio_console.proofs.output_ring.OutputRing.push.Goals as goal

below : (n : ℕ) → n < 4096 → nat_lt n 4096 ≡ true
below n lt = grind (arith, nat_tests)

pub returns-clause-added : goal.returns-clause-added
returns-clause-added c =
    let ring = c.args.self.now in
    let held = c.count-waiting.result in
    let byte = c.args.byte in
    let long : length ring.bytes ≡ 4096 = omega arith in
    let count : held ≡ min ring.len 4096 = omega arith in
    let room : held < 4096 = omega arith in
    let more : min (held + 1) 4096 ≡ held + 1 = omega arith in
    let same : held ≡ length (waiting_in ring) = c.count-waiting.ensures.length in
    let is : nat_lt (length (waiting_in ring)) 4096 ≡ true = ap (λ n. nat_lt n 4096) (sym same) ∙ below held room in
    ap (λ n. take n (ring_from ring.head (slice_set ring.bytes c.place-place.result byte))) more
    ∙ ap (λ place. take (held + 1) (ring_from ring.head (slice_set ring.bytes place byte))) c.place-place.ensures.value
    ∙ take-ring-set ring.head held ring.bytes byte long room
    ∙ ap (λ n. take n (ring_from ring.head ring.bytes) ++ byte ∷ []) count
    ∙ ap (λ b. if b then waiting_in ring ++ byte ∷ [] else waiting_in ring) (sym is)
