-- SPDX-License-Identifier: Apache-2.0 OR BSD-3-Clause
-- The console's law, at the calls that the events make.
use Rattle.std.proofs.Common.{map}
use Rattle.superio_examples.specs.Monitor.{calls_of}
use Rattle.superio_examples.proofs.monitor.Monitor.each_byte_is_through.Goals as goal

pub returns : goal.returns
returns c = λ driver start before runs m is are.
    c.each_byte_is_through.ensures driver start before m.console (map calls_of runs) is are
