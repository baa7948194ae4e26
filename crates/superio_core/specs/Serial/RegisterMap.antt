-- SPDX-License-Identifier: Apache-2.0 OR BSD-3-Clause
-- The registers of a 16550: their bits by their standard names, which register an offset reaches, and the interrupt
-- conditions.
use Rattle.std.specs.Prelude.{ℕ, Bool, true, false, ◌==◌, if◌then◌else◌, List, [], ◌∷◌, ◌++◌}
use Rattle.superio_core.specs.Bits.{has_bits, only_bits, with_bits}
pub use Rattle.superio_core.specs.declared.serial.registers.Register.{Register}
pub use Rattle.superio_core.specs.declared.serial.registers.Register.TheVariants.{Dll, Dlm, Data, Ier, Iir, Lcr, Mcr, Lsr, Msr, Scr, Unassigned}
pub use Rattle.superio_core.specs.declared.serial.registers.Condition.{Condition}
pub use Rattle.superio_core.specs.declared.serial.registers.Condition.TheVariants.{Rda, Thre}

-- LCR: the divisor latch is at offsets 0 and 1
abbrev pub lcr_dlab_bit : ℕ
lcr_dlab_bit = 0x80

-- MCR: the outputs DTR, RTS, OUT1 and OUT2, and loopback
abbrev pub mcr_dtr_bit : ℕ
mcr_dtr_bit = 0x01

abbrev pub mcr_rts_bit : ℕ
mcr_rts_bit = 0x02

abbrev pub mcr_out1_bit : ℕ
mcr_out1_bit = 0x04

abbrev pub mcr_out2_bit : ℕ
mcr_out2_bit = 0x08

abbrev pub mcr_loop_bit : ℕ
mcr_loop_bit = 0x10

-- MSR: the inputs CTS, DSR, RI and DCD
abbrev pub msr_cts_bit : ℕ
msr_cts_bit = 0x10

abbrev pub msr_dsr_bit : ℕ
msr_dsr_bit = 0x20

abbrev pub msr_ri_bit : ℕ
msr_ri_bit = 0x40

abbrev pub msr_dcd_bit : ℕ
msr_dcd_bit = 0x80

-- LSR: data ready
abbrev pub lsr_dr_bit : ℕ
lsr_dr_bit = 0x01

-- IER: the four bits that a write keeps
abbrev pub ier_bits : ℕ
ier_bits = 0x0F

-- IIR: the FIFOs are enabled
abbrev pub iir_fifo_bits : ℕ
iir_fifo_bits = 0xC0

-- ---- the map

-- the register at an offset: DLAB matters only at offsets 0 and 1, and offsets from 8 on reach none
abbrev pub register_at : (dlab : Bool) (offset : ℕ) → Register
register_at dlab offset =
    if offset == 0 then (if dlab then Dll else Data)
    else (if offset == 1 then (if dlab then Dlm else Ier)
    else (if offset == 2 then Iir
    else (if offset == 3 then Lcr
    else (if offset == 4 then Mcr
    else (if offset == 5 then Lsr
    else (if offset == 6 then Msr
    else (if offset == 7 then Scr
    else Unassigned)))))))

abbrev pub is_dlab : (line_control : ℕ) → Bool
is_dlab line_control = has_bits line_control lcr_dlab_bit

abbrev pub is_loopback : (modem_control : ℕ) → Bool
is_loopback modem_control = has_bits modem_control mcr_loop_bit

-- a read of MSR: in loopback its high four bits show the outputs of MCR, DTR as DSR, RTS as CTS, OUT1 as RI and OUT2
-- as DCD
abbrev pub msr_read : (modem_control modem_status : ℕ) → ℕ
msr_read modem_control modem_status =
    if is_loopback modem_control
    then with_bits (with_bits (with_bits (with_bits (only_bits modem_status 0x0F)
    (if has_bits modem_control mcr_dtr_bit then msr_dsr_bit else 0))
    (if has_bits modem_control mcr_rts_bit then msr_cts_bit else 0))
    (if has_bits modem_control mcr_out1_bit then msr_ri_bit else 0))
    (if has_bits modem_control mcr_out2_bit then msr_dcd_bit else 0)
    else modem_status

-- ---- the two interrupt conditions

-- the bit of IER that enables the condition
abbrev pub ier_bit : (condition : Condition) → ℕ
ier_bit Rda = 0x01
ier_bit Thre = 0x02

-- the bit of IIR that shows that the condition is pending
abbrev pub iir_bit : (condition : Condition) → ℕ
iir_bit Rda = 0x04
iir_bit Thre = 0x02

-- IIR while exactly these conditions are pending. A 16550 shows one at a time; here 0x06 shows both
abbrev pub identification_of : (thre rda : Bool) → ℕ
identification_of false false = 0x01
identification_of true false = 0x02
identification_of false true = 0x04
identification_of true true = 0x06

-- the pending ones of the two conditions, THRE first
abbrev pub pending_in_order : (thre rda : Bool) → List Condition
pending_in_order thre rda = (if thre then Thre ∷ [] else []) ++ (if rda then Rda ∷ [] else [])
