-- SPDX-License-Identifier: Apache-2.0 OR BSD-3-Clause
-- One more byte is copied.
use Rattle.std.proofs.Common.{◌≡◌, ℕ, List, [], ◌∷◌, ◌++◌, length, drop, slice_get, Some, sym, ap, ◌∙◌, arith, append_assoc}
use Rattle.superio_core.specs.Serial.{ring_contents}
use Rattle.vm_superio.proofs.serial.encoding.SerialState.from_uart.Goals as goal

first-rest : (held : List ℕ) (byte : ℕ) → Some byte ≡ slice_get held 0 → byte ∷ drop 1 held ≡ held
first-rest held byte is = grind arith

pub loop-byte-preserved : goal.loop-byte-preserved
loop-byte-preserved c =
    let held = ring_contents c.loop-byte.held in
    let left = ring_contents c.take_first.new.self in
    let copied = c.loop-byte.in_buffer.items in
    let is : c.in-Some.byte ∷ left ≡ held =
    ap (λ l. c.in-Some.byte ∷ l) c.take_first.ensures.rest
    ∙ first-rest held c.in-Some.byte (sym c.in-Some.is ∙ c.take_first.ensures.byte) in
    let longer : length (c.in-Some.byte ∷ left) ≡ length held = ap length is in
    record {
      same = ap (λ l. l ++ left) c.push_reserved.ensures.items
          ∙ append_assoc copied (c.in-Some.byte ∷ []) left
          ∙ ap (λ l. copied ++ l) is
          ∙ c.loop-byte.invariant.same;
      room = omega (arith, longer, c.loop-byte.invariant.room, c.push_reserved.ensures.len, c.push_reserved.ensures.capacity);
    }
