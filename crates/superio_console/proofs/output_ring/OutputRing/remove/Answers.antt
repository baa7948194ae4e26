-- SPDX-License-Identifier: Apache-2.0 OR BSD-3-Clause
-- The ring without its oldest bytes.
use Rattle.std.proofs.Common.{◌≡◌, ◌+◌, ◌-◌, ◌≤◌, ◌%◌, min, length, take, drop, ap, ◌∙◌, arith}
use Rattle.std.proofs.lemmas.List.{drop_min}
use Rattle.superio_console.specs.OutputRing.{waiting_in, ring_from}
use Rattle.superio_console.proofs.Lemmas.Ring.{take-ring-rest}
use Rattle.superio_console.proofs.output_ring.OutputRing.remove.Goals as goal

pub returns : goal.returns
returns c =
    let ring = c.args.self.now in
    let held = c.count-waiting.result in
    let taken = c.min-taken.result in
    let long : length ring.bytes ≡ 4096 = omega arith in
    let count : held ≡ min ring.len 4096 = omega arith in
    let few : taken ≤ held = omega arith in
    let most : held ≤ 4096 = omega arith in
    let left : min (held - taken) 4096 ≡ held - taken = omega arith in
    let next : (ring.head + taken) % 65536 % 4096 ≡ (ring.head + taken) % 4096 = omega arith in
    let same : held ≡ length (waiting_in ring) = c.count-waiting.ensures.length in
    let is : taken ≡ min c.args.taken held = c.min-taken.ensures in
    ap (λ n. take n (ring_from ((ring.head + taken) % 65536) ring.bytes)) left
    ∙ take-ring-rest ring.head ((ring.head + taken) % 65536) taken held ring.bytes long few most next
    ∙ ap (λ n. drop taken (take n (ring_from ring.head ring.bytes))) count
    ∙ ap (λ n. drop n (waiting_in ring)) (is ∙ ap (min c.args.taken) same)
    ∙ drop_min c.args.taken (waiting_in ring)
