-- SPDX-License-Identifier: Apache-2.0 OR BSD-3-Clause
-- Lemmas on the bits of LSR.
pub mod Examples
pub mod Rtc
pub mod Serial
use Rattle.std.proofs.Common.{◌≡◌, ◌≢◌, lit<, ℕ, ◌<◌, Bool, true, false, ◌==◌, refl, sym, ap, ◌∙◌, arith, bit_and, mod-lt}
use Rattle.std.proofs.lemmas.Bool.{false≢true, eqb-true}
use Rattle.std.specs.Int.Bits.{and_mask, or_add_and}
use Rattle.superio_laws.specs.Serial.{has_bits, with_bits}
use Rattle.superio_laws.specs.Serial.History.{with_data_ready}
use Rattle.superio_core.proofs.Lemmas.{or-twice, or-without, without-or, without-twice}

-- LSR as it was, if data ready was right
right_where : (byte : ℕ) (bit : Bool) → (bit_and byte 0x01 == 0x01) ≡ bit → with_data_ready byte bit ≡ byte
unfolding with_bits
right_where byte true set = omega (arith, eqb-true _ _ set, or_add_and byte 0x01)
right_where byte false clear =
    let small : bit_and byte 0x01 < 2 = rw (and_mask byte 1) (mod-lt byte (lit< tt)) in
    let other : bit_and byte 0x01 ≢ 1 = λ is. absurd (false≢true (sym clear ∙ ap (λ n. n == 0x01) is)) in
    omega (arith, small, other)

pub data_ready_right : (byte : ℕ) → with_data_ready byte (has_bits byte 0x01) ≡ byte
unfolding has_bits
data_ready_right byte = right_where byte (bit_and byte 0x01 == 0x01) refl

-- only the last change counts
pub data_ready_twice : (byte : ℕ) (one other : Bool)
    → with_data_ready (with_data_ready byte one) other ≡ with_data_ready byte other
unfolding with_bits
data_ready_twice byte one other = grind (arith, or-twice, without-or, or-without, without-twice)
