-- SPDX-License-Identifier: Apache-2.0 OR BSD-3-Clause
use Rattle.std.proofs.Common.{sym, ap, subst, ◌∙◌}
use Rattle.superio_laws.specs.Serial.{Coherent}
use Rattle.superio_examples.specs.TwoPorts.{Machine, machine_of, ops_on_first}
use Rattle.superio_examples.proofs.TwoPortsLemmas.{first-run}
use Rattle.superio_examples.proofs.two_ports.first_port_has_a_history.Goals as goal

pub returns-clause-state : goal.returns-clause-state
returns-clause-state c =
    let old = machine_of c.args.machine.now in
    let events = c.args.events.now in
    ap (λ (m : Machine). m.first) c.run.ensures.machine ∙ first-run events old
    ∙ (c.lists_of_ops.ensures.history old.first (ops_on_first events) c.requires.1).state

pub returns-clause-coherent : goal.returns-clause-coherent
returns-clause-coherent c =
    let old = machine_of c.args.machine.now in
    let events = c.args.events.now in
    subst Coherent (sym (ap (λ (m : Machine). m.first) c.run.ensures.machine ∙ first-run events old))
    (c.lists_of_ops.ensures.history old.first (ops_on_first events) c.requires.1).coherent
