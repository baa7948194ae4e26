-- SPDX-License-Identifier: Apache-2.0 OR BSD-3-Clause
-- How a writer is linked by the bytes that it was sent, and the links of a port's three objects.
use Rattle.std.specs.Prelude.{◌≡◌, ℕ, not, List, [], ◌∷◌, IsTrue}
use Rattle.std.specs.List.{list_all}
use Rattle.std.specs.Io.KnownBytes.{Appends}
use Rattle.vm_superio.specs.Serial.{Sent, Event, is_lost}
use Rattle.vm_superio.specs.Links.{Link, TriggerAnswer, Contents}

-- what the types of a port's trigger, events object and writer state
pub record SerialLinks (T E EV W : Type 0) : Type 1 where
  pub trigger : Link T (TriggerAnswer E)
  pub events : Link EV Event
  pub contents : Contents W

abbrev pub serial_links :
    {T E EV W : Type 0} → (trigger : Link T (TriggerAnswer E)) (events : Link EV Event) (contents : Contents W)
    → SerialLinks T E EV W
serial_links trigger events contents = record { trigger = trigger; events = events; contents = contents }

module _ {W : Type 0} (contents : Contents W) where
  -- a writer before and after it was sent these bytes, in order, with these outcomes. If the writer's contents are
  -- known, a byte that is out comes behind the bytes that the writer held. After a lost byte, nothing is known of the
  -- contents
  abbrev pub WriterLink : (outcomes : List Sent) (bytes : List ℕ) (old new : W) → Type 0
  WriterLink [] [] old new = old ≡ new
  WriterLink (Sent.Out ∷ outcomes) (byte ∷ bytes) old new =
      (next : W) × Appends (contents old) (contents next) (byte ∷ []) × WriterLink outcomes bytes next new
  WriterLink (Sent.Lost ∷ outcomes) (byte ∷ bytes) old new = (next : W) × WriterLink outcomes bytes next new
  WriterLink _ _ old new = ⊥

  -- if no byte is lost, a writer of known contents grew by the bytes that were sent
  abbrev pub KnownOutputLaw : Type 0
  KnownOutputLaw = (old new : W) (outcomes : List Sent) (bytes : List ℕ) → WriterLink outcomes bytes old new
      → IsTrue (list_all (λ outcome. not (is_lost outcome)) outcomes)
      → Appends (contents old) (contents new) bytes
