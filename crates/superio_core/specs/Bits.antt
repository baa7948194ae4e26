-- SPDX-License-Identifier: Apache-2.0 OR BSD-3-Clause
-- Bytes, and other numbers, as sets of bits.
use Rattle.std.specs.Prelude.{ℕ, ◌-◌, Bool, ◌==◌, bit_and, bit_or}

-- the byte has all of these bits
unfoldable pub has_bits : (byte bits : ℕ) → Bool
has_bits byte bits = bit_and byte bits == bits

-- the byte with no bit but these
unfoldable pub only_bits : (byte bits : ℕ) → ℕ
only_bits byte bits = bit_and byte bits

-- the byte with these bits set
unfoldable pub with_bits : (byte bits : ℕ) → ℕ
with_bits byte bits = bit_or byte bits

-- the byte, or any number, with these bits cleared: `byte & !bits`
abbrev pub without_bits : (byte bits : ℕ) → ℕ
without_bits byte bits = byte - bit_and byte bits
