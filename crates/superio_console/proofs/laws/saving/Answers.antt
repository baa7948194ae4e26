-- SPDX-License-Identifier: Apache-2.0 OR BSD-3-Clause
-- The laws of the saved form are lemmas.
use Rattle.superio_console.proofs.Lemmas.Saved.{console_encoding_has_no_fault, one_console_state}
use Rattle.superio_console.proofs.laws.saving.Goals as goal

pub returns-clause-passes : goal.returns-clause-passes
returns-clause-passes c = console_encoding_has_no_fault

pub returns-clause-one_state : goal.returns-clause-one_state
returns-clause-one_state c = one_console_state
