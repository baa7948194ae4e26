-- SPDX-License-Identifier: Apache-2.0 OR BSD-3-Clause
-- A write continues each history, since it leaves the state of its step.
use Rattle.std.proofs.Common.{◌∙◌, ap}
use Rattle.superio_laws.specs.Rtc.{write, write_of, clock_step}
use Rattle.superio_laws.proofs.Lemmas.Rtc.{GoesOnByHistory-step}
use Rattle.vm_superio.proofs.rtc_pl031.Rtc.write.Goals as goal

pub returns-clause-history : goal.returns-clause-history
returns-clause-history g c =
    let value = ap (λ value. clock_step c.args.self.now.state (write c.args.offset value c.args.now)) c.from_le_bytes.ensures in
    GoesOnByHistory-step (write_of c.args.offset c.args.bytes.now c.args.now) (c.write_value.ensures.state ∙ value)
