-- SPDX-License-Identifier: Apache-2.0 OR BSD-3-Clause
-- If the first of a write's two trigger calls was refused, lowering THRE afterwards is the same as not raising it.
use Rattle.std.proofs.Common.{◌≡◌, ℕ, ◌+◌, Bool, true, false, not, ◌==◌, ◌&&◌, bit_and, refl, ap, arith, if◌then◌else◌, bit_or}
use Rattle.std.proofs.lemmas.Bool.Decides.{nat_tests}
use Rattle.std.proofs.lemmas.Nat.{and_le_l, and_or_self, and_or_apart}
use Rattle.std.proofs.lemmas.Nat.Bits.{and_pow, bit_at-lt}
use Rattle.superio_core.specs.Serial.{State, not_empty}
use Rattle.superio_core.specs.Serial.Operations.{Asked, count_if, is_refused_at_once, is_first_of_two_refused, decode_write}
use Rattle.superio_core.specs.declared.serial.Asked.TheVariants.{Nothing}
use Rattle.superio_core.specs.Bits.{has_bits, only_bits, with_bits, without_bits}
use Rattle.superio_core.specs.Serial.RegisterMap.{Register, Data, Ier, ier_bits, Rda, Thre, is_loopback}
use Rattle.superio_core.specs.Serial.Step.{becomes_pending, iir_after_lower, write_step, decoded_calls}
use Rattle.superio_core.proofs.Lemmas.{and-without, without-or}

-- ---- IIR

-- THRE raised after RDA, and lowered again
lowered-again : (identification : ℕ) → let rda = with_bits (without_bits identification 0x01) 0x04 in
    has_bits rda 0x02 ≡ false → iir_after_lower Thre (with_bits (without_bits rda 0x01) 0x02) ≡ rda
unfolding has_bits with_bits
lowered-again identification clear =
    let others = without_bits identification 0x01 in
    let rda = bit_or others 0x04 in
    let thre_bit : bit_and rda 0x02 ≡ 0 = grind (arith, nat_tests, and_pow rda 1, bit_at-lt rda 1) in
    grind (arith, nat_tests, and_or_apart 0x01 others 0x04 refl, and-without identification 0x01, and_or_self 0x04 others, and_le_l rda 0x04, without-or rda 0x02, thre_bit)

-- after an IER write that enables THRE or not, while bytes are held or not, and RDA becomes pending or not
ier-settled : (held rda thre refused : Bool) (identification : ℕ) →
    let first = if held then (if rda then with_bits (without_bits identification 0x01) 0x04 else identification) else identification in
    let second = thre && not (has_bits first 0x02) in
    let both = if second then with_bits (without_bits first 0x01) 0x02 else first in
    let after = λ (refused : Bool). if (held && rda) && refused then first else both in
    (if (count_if (held && rda) + count_if second == 2) && refused then iir_after_lower Thre (after false) else after false)
    ≡ after refused
ier-settled true true thre refused identification = grind (arith, lowered-again identification)
ier-settled true false thre refused identification = grind arith
ier-settled false rda thre refused identification = grind arith

-- ---- the state

-- what the port does after a write: it lowers THRE if the first of two calls was refused
abbrev pub settled : (due : ℕ) (asked : Asked) (s : State) → State
settled due asked s = record s {
  interrupt_identification =
      if is_first_of_two_refused due asked then iir_after_lower Thre s.interrupt_identification
      else s.interrupt_identification;
}

pub write_step-settled : (register : Register) (value : ℕ) (asked : Asked) (s : State)
    → settled (decoded_calls (decode_write register (is_loopback s.modem_control) value) s) asked
    (write_step register value Nothing s)
    ≡ write_step register value asked s
write_step-settled Ier value asked s =
    let enable = only_bits value ier_bits in
    ap (λ identification. record s { interrupt_enable = enable; interrupt_identification = identification })
    (ier-settled (not_empty s.in_buffer) (becomes_pending Rda enable s.interrupt_identification) (has_bits enable 0x02)
    (is_refused_at_once asked) s.interrupt_identification)
write_step-settled Data value asked s = grind arith
write_step-settled _ value asked s = refl
