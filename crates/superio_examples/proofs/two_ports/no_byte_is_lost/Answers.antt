-- SPDX-License-Identifier: Apache-2.0 OR BSD-3-Clause
use Rattle.std.proofs.Common.{◌≡◌, ◌++◌, sym, ap, subst, ◌∙◌}
use Rattle.superio_laws.specs.Serial.{State}
use Rattle.superio_laws.specs.Serial.Laws.ListsOfOps.{read_out_in, accepted_in}
use Rattle.superio_examples.specs.TwoPorts.{Machine, machine_of, ops_on_first, ops_on_second}
use Rattle.superio_examples.proofs.TwoPortsLemmas.{first-run, second-run}
use Rattle.superio_examples.proofs.two_ports.no_byte_is_lost.Goals as goal

pub returns-clause-first : goal.returns-clause-first
returns-clause-first c =
    let old = machine_of c.args.machine.now in
    let ops = ops_on_first c.args.events.now in
    let end = ap (λ (m : Machine). m.first) c.run.ensures.machine ∙ first-run c.args.events.now old in
    subst (λ (s : State). read_out_in old.first ops ++ s.in_buffer ≡ old.first.in_buffer ++ accepted_in old.first ops) (sym end)
    (c.lists_of_ops.ensures.agree old.first ops).in_order

pub returns-clause-second : goal.returns-clause-second
returns-clause-second c =
    let old = machine_of c.args.machine.now in
    let ops = ops_on_second c.args.events.now in
    let end = ap (λ (m : Machine). m.second) c.run.ensures.machine ∙ second-run c.args.events.now old in
    subst (λ (s : State). read_out_in old.second ops ++ s.in_buffer ≡ old.second.in_buffer ++ accepted_in old.second ops) (sym end)
    (c.lists_of_ops.ensures.agree old.second ops).in_order
