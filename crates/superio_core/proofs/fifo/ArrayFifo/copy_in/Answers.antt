-- SPDX-License-Identifier: Apache-2.0 OR BSD-3-Clause
-- The copied bytes follow the others.
use Rattle.std.proofs.Common.{◌≡◌, ◌+◌, ◌-◌, ◌≤◌, ◌++◌, length, take, ap, ◌∙◌, arith}
use Rattle.std.proofs.lemmas.Slice.{take-put_mid, drop-put_mid}
use Rattle.superio_core.proofs.Lemmas.Serial.{take-ring-copy}
use Rattle.superio_core.proofs.fifo.ArrayFifo.copy_in.Goals as goal

pub returns-clause-added : goal.returns-clause-added
returns-clause-added c =
    let places = c.args.self.now.bytes in
    let bytes = c.args.bytes.now in
    let place = c.place-place.result in
    let here = c.place-place.ensures.value in
    let written = c.copy_from_slice.new.self in
    let long : length places ≡ 64 = omega arith in
    let size : length written ≡ length bytes = ap length c.copy_from_slice.ensures.after in
    let count = place + length bytes - place in
    let inside : place ≤ length places = omega arith in
    take-ring-copy c.args.self.now.head c.args.held place places _ bytes here long c.requires.room (omega (arith, here, c.requires.to_end))
    (take-put_mid place count places written (place + length bytes) (omega (arith, size)) inside ∙ ap (λ l. take place places ++ l) c.copy_from_slice.ensures.after)
    (drop-put_mid place count places written (place + length bytes) (omega arith) inside (omega (arith, size)))
