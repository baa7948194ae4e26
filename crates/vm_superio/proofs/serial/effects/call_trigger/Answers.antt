-- SPDX-License-Identifier: Apache-2.0 OR BSD-3-Clause
-- Two calls of the trigger in a row are linked by the list of both answers.
use Rattle.vm_superio.proofs.serial.effects.call_trigger.Goals as goal

pub returns-in-Err-trigger-clause-calls : goal.returns-in-Err-trigger-clause-calls
returns-in-Err-trigger-clause-calls g c =
    g.met.T.Trigger.append _ _ _ _ _ c.in-Ok-2.ensures c.in-Err-trigger.ensures

pub returns-in-Ok-trigger-clause-calls : goal.returns-in-Ok-trigger-clause-calls
returns-in-Ok-trigger-clause-calls g c =
    g.met.T.Trigger.append _ _ _ _ _ c.in-Ok-2.ensures c.in-Ok-trigger.ensures
