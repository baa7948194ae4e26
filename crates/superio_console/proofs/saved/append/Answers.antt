-- SPDX-License-Identifier: Apache-2.0 OR BSD-3-Clause
-- The bytes behind the part stay.
use Rattle.std.proofs.Common.{◌≡◌, ◌+◌, ◌-◌, length, ap, arith}
use Rattle.std.proofs.lemmas.Slice.{drop-put_mid}
use Rattle.superio_console.proofs.saved.append.Goals as goal

pub returns-clause-rest : goal.returns-clause-rest
returns-clause-rest c =
    let count = c.args.count in
    let part = c.args.part.now in
    let size : length c.copy_from_slice.new.self ≡ length part = ap length c.copy_from_slice.ensures.after in
    drop-put_mid count (count + length part - count) c.args.bytes.now c.copy_from_slice.new.self (count + length part)
    (omega arith) (omega (arith, c.requires)) (omega (arith, size))
