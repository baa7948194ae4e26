-- SPDX-License-Identifier: Apache-2.0 OR BSD-3-Clause
-- The lines so far were carried out, and their replies were written.
use Rattle.std.proofs.Common.{◌≡◌, ◌+◌, length}
use Rattle.superio_script.specs.Fields.{lines_of}
use Rattle.superio_script.proofs.ScriptLemmas.{HasCarriedOut}
use Rattle.superio_script.proofs.script.write_replies.Given as goal

abbrev pub invariant-loop-line : goal.invariant-loop-line
invariant-loop-line g l = record {
  carried : HasCarriedOut l.mask (g.W.Write.contents l.initial.writer) (lines_of l.fn.lines.rest.now) (lines_of l.lines.rest.now) (g.W.Write.contents l.writer) l.board;
  number : l.number ≡ l.skipped + length carried.earlier;
}

abbrev pub decreases-loop-line : goal.decreases-loop-line
decreases-loop-line g l = length (lines_of l.lines.rest.now)
