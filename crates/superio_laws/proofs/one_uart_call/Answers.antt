-- SPDX-License-Identifier: Apache-2.0 OR BSD-3-Clause
use Rattle.superio_laws.proofs.Lemmas.Serial.Laws.ListsOfOps.{uart_turned_on_law, uart_accepts_law, uart_covers_law}
use Rattle.superio_laws.proofs.one_uart_call.Goals as goal

pub returns-clause-turned_on : goal.returns-clause-turned_on
returns-clause-turned_on c = uart_turned_on_law

pub returns-clause-accepted : goal.returns-clause-accepted
returns-clause-accepted c = uart_accepts_law

pub returns-clause-covers : goal.returns-clause-covers
returns-clause-covers c = uart_covers_law
