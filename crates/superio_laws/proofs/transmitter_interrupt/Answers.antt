-- SPDX-License-Identifier: Apache-2.0 OR BSD-3-Clause
use Rattle.superio_laws.proofs.Lemmas.Serial.Laws.Transmit.{ier_write_asks_law, thr_write_asks_law, refused_write_law, retried_law, called_since_law}
use Rattle.superio_laws.proofs.transmitter_interrupt.Goals as goal

pub returns-clause-ier_write : goal.returns-clause-ier_write
returns-clause-ier_write c = ier_write_asks_law

pub returns-clause-thr_write : goal.returns-clause-thr_write
returns-clause-thr_write c = thr_write_asks_law

pub returns-clause-refused_write : goal.returns-clause-refused_write
returns-clause-refused_write c = refused_write_law

pub returns-clause-retried : goal.returns-clause-retried
returns-clause-retried c = retried_law

pub returns-clause-called : goal.returns-clause-called
returns-clause-called c = called_since_law
