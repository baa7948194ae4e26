-- SPDX-License-Identifier: Apache-2.0 OR BSD-3-Clause
use Rattle.std.proofs.Common.{arith, ◌≡◌, ◌≤◌, Bool, true, false, not, min, length, length-take, ap, sym, ◌∙◌, refl}
use Rattle.superio_core.specs.Serial.{ring_from, ring_contents}
use Rattle.superio_core.proofs.serial.Uart.is_coherent.Goals as goal

twice : (b : Bool) → not (not b) ≡ b
twice true = refl
twice false = refl

-- the registers' answer is for any bytes, and these are the held ones
pub returns-then-from-le-FIFO_SIZE : goal.returns-then-from-le-FIFO_SIZE
returns-then-from-le-FIFO_SIZE c =
    let ring = c.args.self.now.in_buffer in
    let few : length (ring_contents ring) ≤ 64 =
    omega (arith, length-take (min ring.len 64) (ring_from ring.head ring.bytes)) in
    let holds = sym (ap not c.is_empty.ensures ∙ twice _) in
    let agrees = c.is_coherent.ensures (ring_contents ring) holds few in
    ((λ told. (omega (arith, c.from.ensures, c.if-from-le-FIFO_SIZE.true), agrees.0 told)), (λ coherent. agrees.1 coherent.1))
