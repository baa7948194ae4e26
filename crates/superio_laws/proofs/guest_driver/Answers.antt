-- SPDX-License-Identifier: Apache-2.0 OR BSD-3-Clause
use Rattle.superio_laws.proofs.Lemmas.Serial.Laws.GuestDriver.{asked_to_take_law, asked_to_send_law, taken_in_runs_law, sent_in_runs_law}
use Rattle.superio_laws.proofs.guest_driver.Goals as goal

pub returns-clause-asked_to_take : goal.returns-clause-asked_to_take
returns-clause-asked_to_take c = asked_to_take_law

pub returns-clause-asked_to_send : goal.returns-clause-asked_to_send
returns-clause-asked_to_send c = asked_to_send_law

pub returns-clause-taken : goal.returns-clause-taken
returns-clause-taken c = taken_in_runs_law

pub returns-clause-sent : goal.returns-clause-sent
returns-clause-sent c = sent_in_runs_law
