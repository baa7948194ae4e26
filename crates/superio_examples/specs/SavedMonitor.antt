-- SPDX-License-Identifier: Apache-2.0 OR BSD-3-Clause
-- A monitor as plain data.
use Rattle.std.specs.Prelude.{◌≡◌}
use Rattle.superio_core.specs.Saved.{IsClock, clock_encoding}
use Rattle.superio_console.specs.Saved.{IsConsole, console_encoding}
use Rattle.superio_examples.specs.Monitor.{Machine}
use Rattle.superio_examples.specs.declared.saved_monitor.SavedMonitor.{SavedMonitor}

-- the numbers that a machine can have
pub record IsMachine (m : Machine) : Type 0 where
  pub console : IsConsole m.console
  pub clock : IsClock m.clock

-- the devices have the saved states, and the moment is as it was saved
pub record IsSavedAs (saved : SavedMonitor) (m : Machine) : Type 0 where
  pub console : saved.console.items ≡ console_encoding m.console
  pub clock : saved.clock.items ≡ clock_encoding m.clock
  pub moment : saved.moment ≡ m.moment
