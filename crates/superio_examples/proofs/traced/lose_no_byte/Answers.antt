-- SPDX-License-Identifier: Apache-2.0 OR BSD-3-Clause
-- The laws, at the trace of the loop.
use Rattle.std.proofs.Common.{◌≡◌, ◌++◌, sym, subst}
use Rattle.superio_laws.specs.Serial.{State}
use Rattle.superio_laws.specs.Serial.History.{read_out_bytes, accepted_bytes}
use Rattle.superio_examples.proofs.traced.lose_no_byte.Goals as goal

pub returns : goal.returns
returns g c =
    let start = c.args.serial.now.state in
    let made = c.make_with_trace.ensures.traced in (
      made.trace,
      made.in_order,
      subst (λ (s : State). read_out_bytes start made.trace ++ s.in_buffer ≡ start.in_buffer ++ accepted_bytes start made.trace) (sym made.state)
          (c.read_out_then_held.ensures start made.trace),
      c.trigger_bound.ensures start made.trace made.fitting,
    )
