-- SPDX-License-Identifier: Apache-2.0 OR BSD-3-Clause
-- The serial port: its state, what a read of a register shows, and the port that a program holds.
pub mod Operations
pub mod RegisterMap
pub mod Step
use Rattle.std.specs.Prelude.{ℕ, Bool, true, false, List, [], ◌∷◌, ◌++◌, take, drop, length, slice_index, ◌≡◌, ◌≤◌, ◌%◌, min, ◌&&◌, ◌||◌, IsTrue}
use Rattle.superio_core.specs.Bits.{has_bits, with_bits}
use Rattle.superio_core.specs.Serial.RegisterMap.{Register, Dll, Dlm, Data, Ier, Iir, Lcr, Mcr, Lsr, Msr, Scr, Unassigned, Condition, Rda, Thre, lsr_dr_bit, iir_fifo_bits, msr_read, ier_bit, iir_bit, identification_of, pending_in_order}
pub use Rattle.superio_core.specs.Sizes.{fifo_size}
pub use Rattle.superio_core.specs.declared.serial.registers.Registers.{Registers}
pub use Rattle.superio_core.specs.declared.fifo.ArrayFifo.{ArrayFifo}
pub use Rattle.superio_core.specs.declared.serial.Uart.{Uart}

-- the ten fields of a port's state; the received bytes are oldest first
pub record State : Type 0 where
  pub baud_divisor_low : ℕ
  pub baud_divisor_high : ℕ
  pub interrupt_enable : ℕ
  pub interrupt_identification : ℕ
  pub line_control : ℕ
  pub line_status : ℕ
  pub modem_control : ℕ
  pub modem_status : ℕ
  pub scratch : ℕ
  pub in_buffer : List ℕ

-- there is a byte
abbrev pub not_empty : (bytes : List ℕ) → Bool
not_empty [] = false
not_empty (byte ∷ bytes) = true

-- a new port: divisor 12, nothing enabled or pending, 8 data bits, OUT2 set, the transmitter empty, and a peer that is
-- present, clear to send and ready
abbrev pub fresh_state : State
fresh_state = record {
  baud_divisor_low = 0x0C;
  baud_divisor_high = 0x00;
  interrupt_enable = 0x00;
  interrupt_identification = 0x01;
  line_control = 0x03;
  line_status = 0x60;
  modem_control = 0x08;
  modem_status = 0xB0;
  scratch = 0x00;
  in_buffer = [];
}

-- the nine registers and the received bytes
abbrev pub state_with : (registers : Registers) (bytes : List ℕ) → State
state_with registers bytes = record {
  baud_divisor_low = registers.baud_divisor_low;
  baud_divisor_high = registers.baud_divisor_high;
  interrupt_enable = registers.interrupt_enable;
  interrupt_identification = registers.interrupt_identification;
  line_control = registers.line_control;
  line_status = registers.line_status;
  modem_control = registers.modem_control;
  modem_status = registers.modem_status;
  scratch = registers.scratch;
  in_buffer = bytes;
}

-- two states that differ at most in the bytes, LSR and IIR
abbrev pub SameSettings : (old new : State) → Type 0
SameSettings old new = new ≡ record old {
  in_buffer = new.in_buffer;
  line_status = new.line_status;
  interrupt_identification = new.interrupt_identification;
}

-- what a read of the register shows
abbrev pub register_read : (register : Register) (s : State) → ℕ
register_read Dll s = s.baud_divisor_low
register_read Dlm s = s.baud_divisor_high
-- RBR: the oldest received byte, or 0
register_read Data s = slice_index s.in_buffer 0
register_read Ier s = s.interrupt_enable
-- IIR: with the bits that say that the FIFOs are enabled
register_read Iir s = with_bits s.interrupt_identification iir_fifo_bits
register_read Lcr s = s.line_control
register_read Mcr s = s.modem_control
register_read Lsr s = s.line_status
register_read Msr s = msr_read s.modem_control s.modem_status
register_read Scr s = s.scratch
register_read Unassigned s = 0

-- ---- the interrupt line, and the trigger calls of a restore, by the state

-- a condition is pending and enabled
abbrev pub is_asserted : (condition : Condition) (s : State) → Bool
is_asserted condition s =
    has_bits s.interrupt_identification (iir_bit condition) && has_bits s.interrupt_enable (ier_bit condition)

-- the line, as a 16550 drives it: it is up while a condition is pending and enabled
abbrev pub irq_level : (s : State) → Bool
irq_level s = is_asserted Thre s || is_asserted Rda s

-- the trigger calls of a restore: one for each condition that is pending and enabled, THRE first. A refusal would end
-- them early
abbrev pub conditions_due : (s : State) → List Condition
conditions_due s = pending_in_order (is_asserted Thre s) (is_asserted Rda s)

-- ---- the registers as bytes

-- how many registers keep a byte
abbrev pub register_count : ℕ
register_count = 9

-- the registers' bytes, in the order of a saved state
abbrev pub register_bytes : (s : State) → List ℕ
register_bytes s =
    s.baud_divisor_low ∷ s.baud_divisor_high ∷ s.interrupt_enable ∷ s.interrupt_identification ∷ s.line_control
    ∷ s.line_status ∷ s.modem_control ∷ s.modem_status ∷ s.scratch ∷ []

-- the state with these bytes: first the registers' bytes, and then the received ones
abbrev pub state_of_bytes : (bytes : List ℕ) → State
state_of_bytes bytes = record {
  baud_divisor_low = slice_index bytes 0;
  baud_divisor_high = slice_index bytes 1;
  interrupt_enable = slice_index bytes 2;
  interrupt_identification = slice_index bytes 3;
  line_control = slice_index bytes 4;
  line_status = slice_index bytes 5;
  modem_control = slice_index bytes 6;
  modem_status = slice_index bytes 7;
  scratch = slice_index bytes 8;
  in_buffer = drop register_count bytes;
}

-- ---- the received bytes in the places of a ring

-- the places of the ring, from the oldest byte on: `head` counts modulo 64
abbrev pub ring_from : (head : ℕ) (bytes : List ℕ) → List ℕ
ring_from head bytes = drop (head % fifo_size) bytes ++ take (head % fifo_size) bytes

-- the bytes that are held, oldest first: the first `len` of these places, at most 64
abbrev pub ring_contents : (fifo : ArrayFifo) → List ℕ
ring_contents fifo = take (min fifo.len fifo_size) (ring_from fifo.head fifo.bytes)

-- ---- the state of a port

-- the state that the registers and the bytes in the places make; any struct has one
abbrev pub state_of_uart : (port : Uart) → State
state_of_uart port = state_with port.registers (ring_contents port.in_buffer)

-- ---- what every step keeps

-- IIR shows which of THRE and RDA are pending; RDA is pending only while a received byte is held; data ready is set
-- exactly while one is held; at most 64 are held. The other fields are free
pub record Coherent (s : State) : Type 0 where
  pub thre : Bool
  pub rda : Bool
  pub identification : s.interrupt_identification ≡ identification_of thre rda
  pub received : IsTrue rda → IsTrue (not_empty s.in_buffer)
  pub data_ready : has_bits s.line_status lsr_dr_bit ≡ not_empty s.in_buffer
  pub at_most_64 : length s.in_buffer ≤ fifo_size

-- IIR shows RDA if bytes are held and IER enables it: no byte waits without an interrupt
abbrev pub RdaCoversHeldBytes : (s : State) → Type 0
RdaCoversHeldBytes s =
    IsTrue (not_empty s.in_buffer) → IsTrue (has_bits s.interrupt_enable (ier_bit Rda))
    → IsTrue (has_bits s.interrupt_identification (iir_bit Rda))

-- the state is coherent, and `len` is at most 64
abbrev pub CoherentUart : (port : Uart) → Type 0
CoherentUart port = (port.in_buffer.len ≤ fifo_size) × Coherent (state_of_uart port)
