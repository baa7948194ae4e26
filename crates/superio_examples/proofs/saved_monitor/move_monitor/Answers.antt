-- SPDX-License-Identifier: Apache-2.0 OR BSD-3-Clause
-- What was saved is read back.
use Rattle.std.proofs.Common.{subst}
use Rattle.superio_core.specs.Saved.{IsClock}
use Rattle.superio_examples.specs.Monitor.{machine_of}
use Rattle.superio_examples.proofs.saved_monitor.move_monitor.Goals as goal

pub returns-in-Ok-restore_monitor-clause-machine : goal.returns-in-Ok-restore_monitor-clause-machine
returns-in-Ok-restore_monitor-clause-machine c =
    c.in-Ok-restore_monitor.ensures.read (machine_of c.args.monitor.now)
    (record { console = c.numbers_fit.ensures.console; clock = subst IsClock c.state.ensures c.numbers_fit.ensures.clock })
    c.in-Ok.ensures.saved

pub returns-in-Ok-clause-memory : goal.returns-in-Ok-clause-memory
returns-in-Ok-clause-memory c =
    absurd (c.in-Err-restore_monitor.ensures.read (machine_of c.args.monitor.now)
    (record { console = c.numbers_fit.ensures.console; clock = subst IsClock c.state.ensures c.numbers_fit.ensures.clock })
    c.in-Ok.ensures.saved)
