-- SPDX-License-Identifier: Apache-2.0 OR BSD-3-Clause
use Rattle.superio_laws.proofs.Lemmas.Serial.Laws.GuestDriver.{handler_run_law, handler_ends_law}
use Rattle.superio_laws.proofs.guest_handler.Goals as goal

pub returns-clause-run : goal.returns-clause-run
returns-clause-run c = handler_run_law

pub returns-clause-ends : goal.returns-clause-ends
returns-clause-ends c = handler_ends_law
