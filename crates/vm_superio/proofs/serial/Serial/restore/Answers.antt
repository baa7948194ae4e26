-- SPDX-License-Identifier: Apache-2.0 OR BSD-3-Clause
-- A port's own state holds at most 64 bytes, so it is refused only for a refusal of the trigger or of memory.
use Rattle.std.proofs.Common.{refl, length, ◌≤◌, arith}
use Rattle.vm_superio.specs.Serial.{Error, Trigger, IOError, FullFifo, Memory, State, conditions_due}
use Rattle.vm_superio.specs.Links.{Link, TriggerAnswer, RefusesOwnState}
use Rattle.vm_superio.specs.Serial.Step.{RefusesRestore}
use Rattle.vm_superio.proofs.serial.Serial.restore.Goals as goal

own_refused :
    {T E : Type 0} (link : Link T (TriggerAnswer E)) (s : State) (error : Error E) (old new : T) → length s.in_buffer ≤ 64 →
    RefusesRestore link s error old new → RefusesOwnState link (conditions_due s) error old new
own_refused link s FullFifo old new few refused = absurd (omega (arith, few, refused.0))
own_refused link s (Trigger refusal) old new few refused = refused.1
own_refused link s (IOError fault) old new few refused = refused.1
own_refused link s Memory old new few refused = refused.1

pub returns : goal.returns
returns g c = (
  refl,
  refl,
  own_refused _ c.args.self.now.state _ _ _ c.in-Ok.ensures.at_most_64 (rw c.in-Ok.ensures.saved at c.in-Err.ensures.refused),
  c.in-Err.ensures.events_back,
  c.in-Err.ensures.out_back,
  refl,
)
