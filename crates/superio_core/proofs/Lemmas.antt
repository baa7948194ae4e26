-- SPDX-License-Identifier: Apache-2.0 OR BSD-3-Clause
-- Lemmas on numbers as sets of bits.
pub mod Saved
pub mod Serial
use Rattle.std.proofs.Common.{◌≡◌, ℕ, ◌-◌, ◌^◌, ◌<◌, bit_and, ap, sym, ◌∙◌, arith, bit_or, bit_xor}
use Rattle.std.specs.Int.{bit_at}
use Rattle.std.specs.Int.Bits.{xor_add_and, and_self}
use Rattle.std.proofs.lemmas.Nat.{and-not, and_comm, and_assoc}
use Rattle.std.proofs.lemmas.Nat.Bits.{bit_at_and, bit_at_or, bit_at_xor, bit_at-lt, same_from_bits}
use Rattle.superio_core.specs.Bits.{without_bits}

-- what the program computes, a number `&` the complement of the cleared bits
pub and_not_is_without : (number cleared : ℕ) → number < 2 ^ 32 → cleared < 2 ^ 32 → bit_and number (2 ^ 32 - 1 - cleared) ≡ without_bits number cleared
and_not_is_without number cleared fits_number fits_cleared =
    omega (arith, and-not 32 cleared number fits_cleared fits_number, and_comm number cleared, and_comm number (2 ^ 32 - 1 - cleared))

-- and of a byte
pub and_not_is_without_byte : (byte cleared : ℕ) → byte < 2 ^ 8 → cleared < 2 ^ 8 → bit_and byte (2 ^ 8 - 1 - cleared) ≡ without_bits byte cleared
and_not_is_without_byte byte cleared fits_byte fits_cleared =
    omega (arith, and-not 8 cleared byte fits_cleared fits_byte, and_comm byte cleared, and_comm byte (2 ^ 8 - 1 - cleared))

-- the bits that are left are those in which the number and its part to be cleared differ
without-xor : (number cleared : ℕ) → without_bits number cleared ≡ bit_xor number (bit_and number cleared)
without-xor number cleared =
    let again : bit_and number (bit_and number cleared) ≡ bit_and number cleared =
    sym (and_assoc cleared number number) ∙ ap (λ n. bit_and n cleared) (and_self number) in
    omega (arith, again, xor_add_and number (bit_and number cleared))

-- a bit is left if the number has it and the cleared bits do not
pub bit_at-without : (number cleared k : ℕ) → bit_at (without_bits number cleared) k ≡ bit_at number k - bit_at cleared k
bit_at-without number cleared k =
    let left = bit_at-lt number k in
    let right = bit_at-lt cleared k in
    let both = bit_at_and number cleared k in
    let difference = bit_at_xor number (bit_and number cleared) k in
    ap (λ n. bit_at n k) (without-xor number cleared) ∙ grind arith

-- to clear some bits and then others is to clear all of them
pub without-twice : (number first second : ℕ) → without_bits (without_bits number first) second ≡ without_bits number (bit_or second first)
without-twice number first second =
    same_from_bits _ _ (λ k. grind (
      arith,
      bit_at-without number first k,
      bit_at-without (without_bits number first) second k,
      bit_at-without number (bit_or second first) k,
      bit_at_or second first k,
      bit_at-lt first k,
      bit_at-lt second k,
    ))

-- the cleared bits are clear
pub and-without : (number bits : ℕ) → bit_and (without_bits number bits) bits ≡ 0
and-without number bits =
    same_from_bits _ _ (λ k. grind (arith, bit_at_and (without_bits number bits) bits k, bit_at-without number bits k, bit_at_and 0 0 k, bit_at-lt number k, bit_at-lt bits k))

-- and the others are as they were
pub and-without-apart : (number bits others : ℕ) → bit_and bits others ≡ 0 → bit_and (without_bits number bits) others ≡ bit_and number others
and-without-apart number bits others apart =
    same_from_bits _ _ (λ k. grind (
      arith,
      bit_at_and (without_bits number bits) others k,
      bit_at_and number others k,
      bit_at_and bits others k,
      ap (λ n. bit_at n k) apart,
      bit_at-without number bits k,
      bit_at-lt number k,
      bit_at-lt bits k,
      bit_at-lt others k,
    ))

-- to set bits leaves the others as they were
pub and-or-apart : (number bits others : ℕ) → bit_and bits others ≡ 0 → bit_and (bit_or number bits) others ≡ bit_and number others
and-or-apart number bits others apart =
    same_from_bits _ _ (λ k. grind (
      arith,
      bit_at_and (bit_or number bits) others k,
      bit_at_and number others k,
      bit_at_and bits others k,
      ap (λ n. bit_at n k) apart,
      bit_at_or number bits k,
      bit_at-lt number k,
      bit_at-lt bits k,
      bit_at-lt others k,
    ))

-- to set bits twice is to set them once
pub or-twice : (number bits : ℕ) → bit_or (bit_or number bits) bits ≡ bit_or number bits
or-twice number bits =
    same_from_bits _ _ (λ k. grind (arith, bit_at_or (bit_or number bits) bits k, bit_at_or number bits k, bit_at-lt number k, bit_at-lt bits k))

-- to clear bits and set them again is to set them
pub or-without : (number bits : ℕ) → bit_or (without_bits number bits) bits ≡ bit_or number bits
or-without number bits =
    same_from_bits _ _ (λ k. grind (arith, bit_at_or (without_bits number bits) bits k, bit_at_or number bits k, bit_at-without number bits k, bit_at-lt number k, bit_at-lt bits k))

-- to set bits and clear them again is to clear them
pub without-or : (number bits : ℕ) → without_bits (bit_or number bits) bits ≡ without_bits number bits
without-or number bits =
    same_from_bits _ _ (λ k. grind (arith, bit_at_or number bits k, bit_at-without (bit_or number bits) bits k, bit_at-without number bits k, bit_at-lt number k, bit_at-lt bits k))

-- to clear bits of two numbers is to clear them in each
pub without-of-or : (number other bits : ℕ) → without_bits (bit_or number other) bits ≡ bit_or (without_bits number bits) (without_bits other bits)
without-of-or number other bits =
    same_from_bits _ _ (λ k. grind (
      arith,
      bit_at_or number other k,
      bit_at-without (bit_or number other) bits k,
      bit_at-without number bits k,
      bit_at-without other bits k,
      bit_at_or (without_bits number bits) (without_bits other bits) k,
      bit_at-lt number k,
      bit_at-lt other k,
      bit_at-lt bits k,
    ))
