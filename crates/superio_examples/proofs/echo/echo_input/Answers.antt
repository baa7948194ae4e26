-- SPDX-License-Identifier: Apache-2.0 OR BSD-3-Clause
use Rattle.std.proofs.Common.{arith}
use Rattle.superio_examples.proofs.EchoLemmas.{all_sent}
use Rattle.superio_examples.proofs.echo.echo_input.Goals as goal

pub returns-clause-sent : goal.returns-clause-sent
returns-clause-sent c =
    all_sent c.loop-rest.output.items c.loop-rest.rest.now _ (grind (arith, c.is_empty.ensures, c.loop-rest-test.ensures)) c.loop-rest.invariant.in_order
