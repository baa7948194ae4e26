-- SPDX-License-Identifier: Apache-2.0 OR BSD-3-Clause
use Rattle.superio_laws.proofs.Lemmas.Serial.Laws.ListsOfOps.{list_law, list_join_law, list_history_law}
use Rattle.superio_laws.proofs.lists_of_ops.Goals as goal

pub returns-clause-agree : goal.returns-clause-agree
returns-clause-agree c = list_law

pub returns-clause-join : goal.returns-clause-join
returns-clause-join c = list_join_law

pub returns-clause-history : goal.returns-clause-history
returns-clause-history c = list_history_law
