-- SPDX-License-Identifier: Apache-2.0 OR BSD-3-Clause
-- A console that echoes.
use Rattle.std.specs.Prelude.{◌≡◌, ℕ, List, false}
use Rattle.superio_core.specs.Serial.{State, state_of_uart}
use Rattle.superio_core.specs.declared.serial.Uart.{Uart}
use Rattle.superio_core.specs.Serial.RegisterMap.{is_dlab, is_loopback}

-- the driver has opened the port: offset 0 is the data register, the port is not in loopback, and IER enables RDA alone
pub record IsOpen (s : State) : Type 0 where
  pub dlab_clear : is_dlab s.line_control ≡ false
  pub outside : is_loopback s.modem_control ≡ false
  pub enable : s.interrupt_enable ≡ 0x01

-- the bytes that the port holds
abbrev pub held : (port : Uart) → List ℕ
held port = (state_of_uart port).in_buffer

-- the IIR of the port
abbrev pub pending : (port : Uart) → ℕ
pending port = (state_of_uart port).interrupt_identification
