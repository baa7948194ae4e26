-- SPDX-License-Identifier: Apache-2.0 OR BSD-3-Clause
-- The lemmas that prove these laws.
use Rattle.superio_console.proofs.Lemmas.Turns.{wake_law, no_needless_wake_law, consume_law, covered_law, held_law, refused_law, retry_law, kept_law}
use Rattle.superio_console.proofs.Lemmas.Input.{input_law, gate_law, sleep_law, open_law, polled_law}
use Rattle.superio_console.proofs.Lemmas.Asked.{asked_law}
use Rattle.superio_console.proofs.Lemmas.Raised.{pending_law, waiting_law}
use Rattle.superio_console.proofs.Lemmas.Output.{output_law, room_law}
use Rattle.superio_console.proofs.Lemmas.Point.{start_law, first_law, next_law, reset_law, timeout_law, monitored_law}
use Rattle.superio_console.proofs.Lemmas.Send.{send_law}
use Rattle.superio_console.proofs.Lemmas.Through.{each_byte_is_through_law}
use Rattle.superio_console.proofs.laws.by_lemmas.Goals as goal

pub returns-clause-wakes : goal.returns-clause-wakes
returns-clause-wakes c = wake_law

pub returns-clause-consume : goal.returns-clause-consume
returns-clause-consume c = consume_law

pub returns-clause-covered : goal.returns-clause-covered
returns-clause-covered c = covered_law

pub returns-clause-held : goal.returns-clause-held
returns-clause-held c = held_law

pub returns-clause-refused : goal.returns-clause-refused
returns-clause-refused c = refused_law

pub returns-clause-retry : goal.returns-clause-retry
returns-clause-retry c = retry_law

pub returns-clause-kept : goal.returns-clause-kept
returns-clause-kept c = kept_law

pub returns-clause-start : goal.returns-clause-start
returns-clause-start c = start_law

pub returns-clause-first : goal.returns-clause-first
returns-clause-first c = first_law

pub returns-clause-next : goal.returns-clause-next
returns-clause-next c = next_law

pub returns-clause-reset : goal.returns-clause-reset
returns-clause-reset c = reset_law

pub returns-clause-timeouts : goal.returns-clause-timeouts
returns-clause-timeouts c = timeout_law

pub returns-clause-monitored : goal.returns-clause-monitored
returns-clause-monitored c = monitored_law

pub returns-clause-asked : goal.returns-clause-asked
returns-clause-asked c = asked_law

pub returns-clause-pending : goal.returns-clause-pending
returns-clause-pending c = pending_law

pub returns-clause-waiting : goal.returns-clause-waiting
returns-clause-waiting c = waiting_law

pub returns-clause-no_needless : goal.returns-clause-no_needless
returns-clause-no_needless c = no_needless_wake_law

pub returns-clause-in_order : goal.returns-clause-in_order
returns-clause-in_order c = output_law

pub returns-clause-room : goal.returns-clause-room
returns-clause-room c = room_law

pub returns-clause-input : goal.returns-clause-input
returns-clause-input c = input_law

pub returns-clause-shut : goal.returns-clause-shut
returns-clause-shut c = gate_law

pub returns-clause-asleep : goal.returns-clause-asleep
returns-clause-asleep c = sleep_law

pub returns-clause-open : goal.returns-clause-open
returns-clause-open c = open_law

pub returns-clause-polled : goal.returns-clause-polled
returns-clause-polled c = polled_law

pub returns-clause-sending : goal.returns-clause-sending
returns-clause-sending c = send_law

pub returns-clause-through : goal.returns-clause-through
returns-clause-through c = each_byte_is_through_law
