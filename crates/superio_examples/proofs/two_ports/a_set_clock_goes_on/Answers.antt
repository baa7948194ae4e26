-- SPDX-License-Identifier: Apache-2.0 OR BSD-3-Clause
use Rattle.std.proofs.Common.{sym, subst}
use Rattle.superio_laws.specs.Rtc.{RtcState, GoesOnFrom, state_of_clock}
use Rattle.superio_examples.proofs.two_ports.a_set_clock_goes_on.Goals as goal

pub returns : goal.returns
returns c =
    subst (λ (after : RtcState). GoesOnFrom after c.args.value c.args.now) (sym c.write.ensures.state)
    (c.time_goes_on.ensures.set (state_of_clock c.args.clock.now) c.args.value c.args.now)
