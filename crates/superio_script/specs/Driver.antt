-- SPDX-License-Identifier: Apache-2.0 OR BSD-3-Clause
-- A driver on the guest's side of a serial port, which polls.
use Rattle.std.specs.Prelude.{◌≡◌, ◌++◌, ℕ, zero, suc, false, List, [], ◌∷◌, length, IsTrue}
use Rattle.std.specs.List.{repeat}
use Rattle.vm_superio.specs.Links.{Link, TriggerAnswer, Contents}
use Rattle.vm_superio.specs.Serial.{SerialView, has_bits, without_bits, lsr_dr_bit, State, Thre, iir_bit, identification_of, Event, buffer_read, in_buffer_empty}
use Rattle.vm_superio.specs.Serial.Step.{IsSerialRead}

-- LSR shows data ready
abbrev pub IsReady : (s : State) → Type 0
IsReady s = IsTrue (has_bits s.line_status lsr_dr_bit)

-- reads at offset 0 that give these bytes, in order, each while LSR shows data ready, take a port from `old` to `new`
module _ {T E EV W : Type 0} (trigger : Link T (TriggerAnswer E)) (events : Link EV Event) (contents : Contents W) where
  abbrev pub ReadsWhileReady : (bytes : List ℕ) (old new : SerialView T EV W) → Type 0
  ReadsWhileReady [] old new = new ≡ old
  ReadsWhileReady (byte ∷ bytes) old new =
      IsReady old.state
      × ((middle : SerialView T EV W) × IsSerialRead trigger events contents 0 byte old middle
      × ReadsWhileReady bytes middle new)

-- the state without its received bytes: LSR does not show data ready, RDA is not pending, and all else is the same
abbrev pub without_bytes : (s : State) → State
without_bytes s = record s {
  interrupt_identification = identification_of (has_bits s.interrupt_identification (iir_bit Thre)) false;
  line_status = without_bits s.line_status lsr_dr_bit;
  in_buffer = [];
}

-- the events of `count` reads that leave no byte: one for each read and, before the last of these, one that says that
-- no byte is left
abbrev pub drain_events : (count : ℕ) → List Event
drain_events zero = []
drain_events (suc others) = repeat others (buffer_read ∷ []) ++ in_buffer_empty ∷ buffer_read ∷ []

-- a driver got every byte that the port held, in order, and no other
pub record TakesAll
    {T EV W : Type 0} (link : Link EV Event) (given : List ℕ) (old new : SerialView T EV W) : Type 0 where
  pub bytes : given ≡ old.state.in_buffer
  pub state : new.state ≡ without_bytes old.state
  pub events : link old.events (drain_events (length given)) new.events
