-- SPDX-License-Identifier: Apache-2.0 OR BSD-3-Clause
-- The output that waits for its reader, in the places of a ring.
use Rattle.std.specs.Prelude.{ℕ, List, ◌++◌, take, drop, ◌%◌, min}
pub use Rattle.superio_console.specs.declared.output_ring.OutputRing.{OutputRing}

-- how many bytes of output wait at most
abbrev pub output_size : ℕ
output_size = 4096

-- the places of the ring, from the oldest byte on: `head` counts modulo 4,096
abbrev pub ring_from : (head : ℕ) (bytes : List ℕ) → List ℕ
ring_from head bytes = drop (head % output_size) bytes ++ take (head % output_size) bytes

-- the bytes that wait, oldest first: the first `len` of these places, at most 4,096
abbrev pub waiting_in : (ring : OutputRing) → List ℕ
waiting_in ring = take (min ring.len output_size) (ring_from ring.head ring.bytes)
