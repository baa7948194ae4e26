-- SPDX-License-Identifier: Apache-2.0 OR BSD-3-Clause
-- The ring without its oldest byte.
use Rattle.std.proofs.Common.{◌≡◌, ◌+◌, ◌-◌, ◌<◌, ◌%◌, suc, min, length, take, drop, get_or, Some, slice_get, sym, ap, ◌∙◌, arith}
use Rattle.superio_core.specs.Serial.{ring_from}
use Rattle.superio_core.proofs.Lemmas.Serial.{take-ring-rest, ring-first}
use Rattle.superio_core.proofs.fifo.ArrayFifoRxFifo.take_first.Goals as goal

pub returns-clause-byte : goal.returns-clause-byte
returns-clause-byte c =
    let fifo = c.args.self.now in
    let rest = c.count-held.result - 1 in
    let long : length fifo.bytes ≡ 64 = omega arith in
    let here : c.place.result ≡ fifo.head % 64 = omega arith in
    let held : suc rest ≡ min fifo.len 64 = omega arith in
    ap (λ place. Some (get_or fifo.bytes place 0)) here
    ∙ sym (ring-first fifo.head rest fifo.bytes long)
    ∙ ap (λ n. slice_get (take n (ring_from fifo.head fifo.bytes)) 0) held

pub returns-clause-rest : goal.returns-clause-rest
returns-clause-rest c =
    let fifo = c.args.self.now in
    let rest = c.count-held.result - 1 in
    let long : length fifo.bytes ≡ 64 = omega arith in
    let held : suc rest ≡ min fifo.len 64 = omega arith in
    let fewer : min rest 64 ≡ rest = omega arith in
    let below : rest < 64 = omega arith in
    let next : (fifo.head + 1) % 256 % 64 ≡ (fifo.head + 1) % 64 = omega arith in
    ap (λ n. take n (ring_from ((fifo.head + 1) % 256) fifo.bytes)) fewer
    ∙ take-ring-rest fifo.head ((fifo.head + 1) % 256) rest fifo.bytes long below next
    ∙ ap (λ n. drop 1 (take n (ring_from fifo.head fifo.bytes))) held
