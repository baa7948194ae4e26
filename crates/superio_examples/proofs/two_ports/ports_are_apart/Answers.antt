-- SPDX-License-Identifier: Apache-2.0 OR BSD-3-Clause
use Rattle.std.proofs.Common.{ap, ◌∙◌}
use Rattle.superio_laws.specs.Serial.Laws.ListsOfOps.{state_by}
use Rattle.superio_examples.specs.TwoPorts.{Machine, machine_of}
use Rattle.superio_examples.proofs.TwoPortsLemmas.{first-run}
use Rattle.superio_examples.proofs.two_ports.ports_are_apart.Goals as goal

pub returns : goal.returns
returns c =
    let old = machine_of c.args.machine.now in
    ap (λ (m : Machine). m.first) c.run.ensures.machine ∙ first-run c.args.events.now old ∙ ap (state_by old.first) c.requires
