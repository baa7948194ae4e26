-- SPDX-License-Identifier: Apache-2.0 OR BSD-3-Clause
-- Words for a caller's claims. A first contract needs two `ghost use` lines: one for this file, and one for the signs,
-- which come from `Rattle.std.specs.Prelude`. To import a type of this crate's sources, name its file, as in
-- `use Rattle.vm_superio.specs.declared.run.Call.{Call}`. Its variants come from `.. Call.TheVariants.{Read, Write}`.
use Rattle.std.specs.Prelude.{◌≡◌, ℕ, Bool, true, false, List}
pub use Rattle.superio_core.specs.declared.rtc_pl031.encoding.RtcState.{RtcState}
pub use Rattle.superio_core.specs.Bits.{has_bits}
pub use Rattle.superio_core.specs.I8042.{is_reset_command}
pub use Rattle.superio_core.specs.Rtc.{fresh_clock, read, write}
pub use Rattle.superio_core.specs.Rtc.Step.{clock_step}
pub use Rattle.superio_core.specs.Serial.{Coherent, State, fresh_state, not_empty, SameSettings}
pub use Rattle.superio_core.specs.Serial.Operations.{Op, Read, Write, Enqueue, CharacterTimeout, Restore}
pub use Rattle.superio_core.specs.declared.serial.Asked.{Asked}
pub use Rattle.superio_core.specs.declared.serial.registers.Condition.{Condition}
pub use Rattle.superio_core.specs.declared.serial.registers.Condition.TheVariants.{Rda, Thre}
pub use Rattle.superio_core.specs.declared.serial.registers.Register.{Register}
pub use Rattle.superio_core.specs.declared.serial.registers.Register.TheVariants.{Dll, Dlm, Data, Ier, Iir, Lcr, Mcr, Lsr, Msr, Scr, Unassigned}
pub use Rattle.superio_core.specs.Serial.Step.{step}
pub use Rattle.vm_superio.specs.Links.{all_ok}
pub use Rattle.vm_superio.specs.Saved.{state_of}
pub use Rattle.vm_superio.specs.Serial.{SerialView, acknowledged_at, conditions_due, turned_on_count}
pub use Rattle.vm_superio.specs.Serial.Run.{acknowledged_in, answers_in_records}
pub use Rattle.vm_superio.specs.Serial.Step.{pending_count, transmitter}
use Rattle.vm_superio.specs.Serial.{is_dlab, is_loopback, ier_bit, iir_bit}

module _ {T EV W : Type 0} (port : SerialView T EV W) where
  -- a port in the state of a new one
  abbrev pub is_fresh : Type 0
  is_fresh = port.state ≡ fresh_state

  -- the bytes that wait for the guest, oldest first
  abbrev pub held : List ℕ
  held = port.state.in_buffer

  -- offsets 0 and 1 reach the data register and IER, and not the divisor
  abbrev pub dlab_clear : Type 0
  dlab_clear = is_dlab port.state.line_control ≡ false

  -- no loopback: what the guest sends goes out, and what the monitor enqueues comes in
  abbrev pub not_in_loopback : Type 0
  not_in_loopback = is_loopback port.state.modem_control ≡ false

  -- loopback: what the guest sends comes back to it
  abbrev pub in_loopback : Type 0
  in_loopback = is_loopback port.state.modem_control ≡ true

  -- IER is 0: the guest wants no interrupt
  abbrev pub ier_zero : Type 0
  ier_zero = port.state.interrupt_enable ≡ 0

  -- IER has the bit of received data: the guest wants an interrupt for it
  abbrev pub rda_enabled : Bool
  rda_enabled = has_bits port.state.interrupt_enable (ier_bit Rda)

  -- IIR has the bit of received data: the guest has not acknowledged it
  abbrev pub data_pending : Bool
  data_pending = has_bits port.state.interrupt_identification (iir_bit Rda)
