-- SPDX-License-Identifier: Apache-2.0 OR BSD-3-Clause
use Rattle.superio_laws.proofs.Lemmas.Rtc.{counter_law, set_clock_law, guest_time_law, keeps_time_law, keeps_time_in_trace_law, time_goes_on_law}
use Rattle.superio_laws.proofs.time_goes_on.Goals as goal

pub returns-clause-counter : goal.returns-clause-counter
returns-clause-counter c = counter_law

pub returns-clause-set : goal.returns-clause-set
returns-clause-set c = set_clock_law

pub returns-clause-time : goal.returns-clause-time
returns-clause-time c = guest_time_law

pub returns-clause-keeps_time : goal.returns-clause-keeps_time
returns-clause-keeps_time c = keeps_time_law

pub returns-clause-in_a_trace : goal.returns-clause-in_a_trace
returns-clause-in_a_trace c = keeps_time_in_trace_law

pub returns-clause-goes_on : goal.returns-clause-goes_on
returns-clause-goes_on c = time_goes_on_law
