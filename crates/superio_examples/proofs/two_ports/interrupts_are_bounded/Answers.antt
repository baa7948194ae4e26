-- SPDX-License-Identifier: Apache-2.0 OR BSD-3-Clause
use Rattle.std.proofs.Common.{arith}
use Rattle.superio_examples.specs.TwoPorts.{machine_of, ops_on_first, ops_on_second}
use Rattle.superio_examples.proofs.TwoPortsLemmas.{asked-run}
use Rattle.superio_examples.proofs.two_ports.interrupts_are_bounded.Goals as goal

pub returns-clause-bound : goal.returns-clause-bound
returns-clause-bound c =
    let old = machine_of c.args.machine.now in
    let events = c.args.events.now in
    let first = c.lists_of_ops.ensures.agree old.first (ops_on_first events) in
    let second = c.lists_of_ops.ensures.agree old.second (ops_on_second events) in
    omega (arith, c.run.ensures.asked, asked-run events old, first.bound, second.bound)
