-- SPDX-License-Identifier: Apache-2.0 OR BSD-3-Clause
-- One more byte follows the others.
use Rattle.std.proofs.Common.{◌≡◌, suc, ◌+◌, ◌<◌, [], ◌∷◌, ◌++◌, length, take, slice_index_or, slice_set, sym, ap, ◌∙◌, arith, length-set, append_assoc}
use Rattle.std.proofs.Math.Seq.{take-suc}
use Rattle.superio_core.specs.Serial.{ring_from}
use Rattle.superio_core.proofs.Lemmas.Serial.{take-ring-set}
use Rattle.superio_core.proofs.fifo.ArrayFifo.put_each.Goals as goal

pub loop-i-preserved : goal.loop-i-preserved
loop-i-preserved c =
    let fifo = c.loop-i.self in
    let bytes = c.args.bytes.now in
    let held = take c.args.held (ring_from c.args.self.now.head c.args.self.now.bytes) in
    let byte = slice_index_or bytes c.loop-i.i 0 in
    let distance = c.args.held + c.loop-i.i in
    let here = c.place-place.ensures.value in
    let room : distance < 64 = omega arith in
    let there : c.loop-i.i < length bytes = omega arith in
    let later : c.args.held + (c.loop-i.i + 1) ≡ distance + 1 = omega arith in
    let next : c.loop-i.i + 1 ≡ suc c.loop-i.i = omega arith in
    record {
      head = c.loop-i.invariant.head;
      len = c.loop-i.invariant.len;
      long = length-set _ _ _ ∙ c.loop-i.invariant.long;
      bytes =
          ap (λ n. take n (ring_from fifo.head (slice_set fifo.bytes c.place-place.result byte))) later
          ∙ ap (λ place. take (distance + 1) (ring_from fifo.head (slice_set fifo.bytes place byte))) here
          ∙ take-ring-set fifo.head distance fifo.bytes byte c.loop-i.invariant.long room
          ∙ ap (λ l. l ++ byte ∷ []) c.loop-i.invariant.bytes
          ∙ append_assoc held (take c.loop-i.i bytes) (byte ∷ [])
          ∙ sym (ap (λ n. held ++ take n bytes) next ∙ ap (λ l. held ++ l) (take-suc bytes c.loop-i.i 0 there));
    }
