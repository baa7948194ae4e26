-- SPDX-License-Identifier: Apache-2.0 OR BSD-3-Clause
use Rattle.std.proofs.Common.{ap, ◌∙◌}
use Rattle.superio_laws.specs.Rtc.{RtcState}
use Rattle.superio_examples.specs.TwoPorts.{Machine, machine_of}
use Rattle.superio_examples.proofs.TwoPortsLemmas.{offset-run}
use Rattle.superio_examples.proofs.two_ports.time_never_goes_back.Goals as goal

pub returns : goal.returns
returns c = λ value now goes.
    let old = machine_of c.args.machine.now in
    let made = ap (λ (m : Machine). m.clock) c.run.ensures.machine in
    c.time_goes_on.ensures.goes_on old.clock (machine_of c.run.new.self).clock value now
    (ap (λ (s : RtcState). s.offset) made ∙ offset-run c.args.events.now old c.requires) goes
