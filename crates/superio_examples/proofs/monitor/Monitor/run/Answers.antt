-- SPDX-License-Identifier: Apache-2.0 OR BSD-3-Clause
-- What the events make of the machine keeps the claims.
use Rattle.std.proofs.Common.{◌≡◌, List, sym, ap, subst, ◌∙◌, arith, map}
use Rattle.std.proofs.lemmas.Grind.{common_steps}
use Rattle.superio_examples.specs.declared.monitor.MachineReply.{MachineReply}
use Rattle.superio_examples.specs.Monitor.{machine_of, after_events, replies_to, InputInOrder, KeepsOut, OutputInOrder, is_reset_reply}
use Rattle.superio_examples.proofs.MonitorLemmas.{output-run, resets-run, input-run, gate-run}
use Rattle.superio_examples.proofs.monitor.Monitor.run.Goals as goal

pub returns-clause-output : goal.returns-clause-output
returns-clause-output c =
    let events = c.args.events.now in
    let old = machine_of c.args.self.now in
    let made : machine_of c.loop-event.self ≡ after_events events old = grind (arith, common_steps) in
    subst (OutputInOrder events old) (sym made) (output-run events old c.count_fits.ensures)

pub returns-clause-resets : goal.returns-clause-resets
returns-clause-resets c =
    let old = machine_of c.args.self.now in
    let made : c.loop-event.replies.items ≡ replies_to c.args.events.now old = grind (arith, common_steps) in
    ap (map is_reset_reply) made ∙ resets-run c.args.events.now old

pub returns-clause-gate : goal.returns-clause-gate
returns-clause-gate c =
    let events = c.args.events.now in
    let old = machine_of c.args.self.now in
    let made : c.loop-event.replies.items ≡ replies_to events old = grind (arith, common_steps) in
    subst (λ (replies : List MachineReply). KeepsOut events replies old) (sym made) (gate-run events old)

pub returns-clause-input : goal.returns-clause-input
returns-clause-input c =
    let events = c.args.events.now in
    let old = machine_of c.args.self.now in
    let made : machine_of c.loop-event.self ≡ after_events events old = grind (arith, common_steps) in
    let replied : c.loop-event.replies.items ≡ replies_to events old = grind (arith, common_steps) in
    subst (λ (replies : List MachineReply). InputInOrder events replies old (machine_of c.loop-event.self)) (sym replied)
    (subst (InputInOrder events (replies_to events old) old) (sym made) (input-run events old))
