-- SPDX-License-Identifier: Apache-2.0 OR BSD-3-Clause
-- The bytes are in the first places.
use Rattle.std.proofs.Common.{length, refl}
use Rattle.superio_console.proofs.Lemmas.Ring.{from-start}
use Rattle.superio_console.proofs.output_ring.OutputRing.from_slice.Goals as goal

pub returns : goal.returns
returns c =
    let bytes = c.args.bytes.now in
    from-start (length bytes) c.copy_from_slice.new.self _ bytes c.requires refl c.copy_from_slice.ensures.after
