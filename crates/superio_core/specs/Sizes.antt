-- SPDX-License-Identifier: Apache-2.0 OR BSD-3-Clause
-- The sizes that definitions and contracts name. The code has constants of its own, and the proofs compare the two.
use Rattle.std.specs.Prelude.{ℕ}

-- how many received bytes a port holds at most
abbrev pub fifo_size : ℕ
fifo_size = 64

-- the header of a saved state
abbrev pub header_size : ℕ
header_size = 8

-- the longest encoding of a port: the header, nine registers, and as many received bytes as the port holds at most
abbrev pub serial_saved_max : ℕ
serial_saved_max = 81
