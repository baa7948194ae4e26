-- SPDX-License-Identifier: Apache-2.0 OR BSD-3-Clause
-- A read continues each history: it may reach the alarm, and has no other effect.
use Rattle.std.proofs.Common.{rules, ◌≡◌}
use Rattle.superio_laws.specs.Rtc.{read, bytes_left, clock_response}
use Rattle.superio_laws.proofs.Lemmas.Rtc.{ReadsByHistory-read, GoesOnByHistory-step}
use Rattle.vm_superio.proofs.rtc_pl031.Rtc.read.Goals as goal

pub returns-in-Some-clause-response_by_history : goal.returns-in-Some-clause-response_by_history
returns-in-Some-clause-response_by_history g c =
    let shown : c.to_le_bytes.result ≡ bytes_left (clock_response c.args.self.now.state (read c.args.offset c.args.now)) c.args.bytes.now = search rules in
    ReadsByHistory-read c.args.offset c.args.now c.args.self.now.state c.args.bytes.now _ shown

pub returns-in-Some-clause-history : goal.returns-in-Some-clause-history
returns-in-Some-clause-history g c = GoesOnByHistory-step (read c.args.offset c.args.now) c.before.before.read_value.ensures.state

pub returns-in_default-clause-history : goal.returns-in_default-clause-history
returns-in_default-clause-history g c = GoesOnByHistory-step (read c.args.offset c.args.now) c.read_value.ensures.state
