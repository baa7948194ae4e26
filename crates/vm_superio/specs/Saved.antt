-- SPDX-License-Identifier: Apache-2.0 OR BSD-3-Clause
-- Saved states: the state of one, what an error prints, and the version. It is the writer's version, and a reader
-- refuses every other.
use Rattle.std.specs.Prelude.{ℕ, List, codes, Option, Some, ◌≡◌, ◌≢◌, ◌∷◌, ◌++◌, slice_index}
use Rattle.vm_superio.specs.declared.serial.encoding.SerialState.{SerialState}
use Rattle.superio_core.specs.Serial.{State}
use Rattle.vm_superio.specs.declared.saved.LoadError.{LoadError}
use Rattle.vm_superio.specs.declared.saved.LoadError.TheVariants.{Invalid, Memory}
use Rattle.superio_core.specs.declared.rtc_pl031.encoding.RtcState.{RtcState}
use Rattle.superio_core.specs.declared.saved.SavedStateError.{SavedStateError}
use Rattle.superio_core.specs.declared.saved.SavedStateError.TheVariants.{UnknownVersion}
use Rattle.superio_core.specs.Saved.{serial_fault, clock_fault, magic, serial_kind, clock_kind, version, serial_encoding, clock_encoding}
use Rattle.superio_core.specs.Saved as check

-- the fields of a saved state, with the received bytes as a list
abbrev pub state_of : (saved : SerialState) → State
state_of saved = record {
  baud_divisor_low = saved.baud_divisor_low;
  baud_divisor_high = saved.baud_divisor_high;
  interrupt_enable = saved.interrupt_enable;
  interrupt_identification = saved.interrupt_identification;
  line_control = saved.line_control;
  line_status = saved.line_status;
  modem_control = saved.modem_control;
  modem_status = saved.modem_status;
  scratch = saved.scratch;
  in_buffer = saved.in_buffer.items;
}

-- ---- what an error of a saved port prints

abbrev pub load_error_text : (error : LoadError) → Option (List ℕ)
load_error_text (Invalid fault) = check.saved_state_error_text fault
load_error_text Memory = Some (codes "Out of memory")

-- ---- the version in a saved state: each encoding has the version of its writer, and a reader refuses others

-- the version is at place 5 of each encoding
abbrev pub SerialVersionLaw : Type 0
SerialVersionLaw = (state : State) → slice_index (serial_encoding state) 5 ≡ version

abbrev pub ClockVersionLaw : Type 0
ClockVersionLaw = (state : RtcState) → slice_index (clock_encoding state) 5 ≡ version

-- bytes of the device that have another version at this place are refused for their version, whatever follows
abbrev IsRefusedForVersion : (fault : List ℕ → Option SavedStateError) (kind : ℕ) → Type 0
IsRefusedForVersion fault kind = (other : ℕ) (rest : List ℕ) (low high : ℕ) → other ≢ version
    → fault (magic ++ kind ∷ other ∷ low ∷ high ∷ rest) ≡ Some (UnknownVersion other)

abbrev pub OtherSerialVersionLaw : Type 0
OtherSerialVersionLaw = IsRefusedForVersion serial_fault serial_kind

abbrev pub OtherClockVersionLaw : Type 0
OtherClockVersionLaw = IsRefusedForVersion clock_fault clock_kind
