-- SPDX-License-Identifier: Apache-2.0 OR BSD-3-Clause
-- No call and no access led to fresh devices.
use Rattle.std.proofs.Common.{rules}
use Rattle.superio_script.proofs.SerialScriptLemmas.{at-start}
use Rattle.superio_script.proofs.ScriptLemmas.{IsBetweenLines-at_start}
use Rattle.superio_script.proofs.devices.Board.new.Goals as goal

pub returns-clause-fresh : goal.returns-clause-fresh
returns-clause-fresh c =
    let serial = at-start c.args.mask c.in_ok-map_err.field-0 (search rules) (search rules) (search rules) (search rules) in
    search (rules, serial)

pub invariant_of-result : goal.invariant_of-result
invariant_of-result c = IsBetweenLines-at_start (returns-clause-fresh c)
