-- SPDX-License-Identifier: Apache-2.0 OR BSD-3-Clause
-- Each reply that is written goes from what is still to come to what was carried out.
use Rattle.std.proofs.Common.{rules, ◌≡◌, ap, ◌∙◌, Err, Some, inr, arith, length, length-append, ◌++◌, ◌+◌, [], ◌∷◌}
use Rattle.std.specs.Io.KnownBytes.{Appends}
use Rattle.superio_script.specs.Fields.{lines_of}
use Rattle.superio_script.specs.Script.{good_commands}
use Rattle.superio_script.proofs.ScriptLemmas.{HasCarriedOut-at_start, HasCarriedOut-after_line, first_bad_line-here, Prints-before_bad, Stops-here, none-bad, Prints-so_far}
use Rattle.superio_script.proofs.script.write_replies.Goals as goal

pub loop-line-init : goal.loop-line-init
loop-line-init g c = record {
  carried = HasCarriedOut-at_start (g.W.Write.contents c.args.writer.now) (lines_of c.args.lines.rest.now) c.in_ok-board.ensures.fresh;
  number = omega arith;
}

pub overflow_add-number : goal.overflow_add-number
overflow_add-number g c =
    let carried = c.loop-line.invariant.carried in
    let all = carried.split ∙ ap (λ lines. carried.earlier ++ lines) c.in-Some.ensures in
    omega (arith, c.requires, c.loop-line.invariant.number, simp length-append at (ap length all))

pub returns-in-Err-Bad-clause-bad : goal.returns-in-Err-Bad-clause-bad
returns-in-Err-Bad-clause-bad g c = λ number e.
    let now = c.loop-line.invariant in
    let none = c.in-Err-Bad.ensures.bad.0 (ap Err c.in-Err-Bad.field-0-is) in
    let same : c.args.skipped + 1 + length now.carried.earlier ≡ c.loop-line.number + 1 = omega (arith, now.number) in
    let counted : c.loop-line.number + 1 ≡ number = cc e in
    (first_bad_line-here now.carried c.in-Some.ensures (c.args.skipped + 1) none ∙ ap Some (same ∙ counted), Prints-before_bad now.carried c.in-Some.ensures none)

pub returns-in-Err-Memory-clause-memory : goal.returns-in-Err-Memory-clause-memory
returns-in-Err-Memory-clause-memory g c = λ _.
    let now = c.loop-line.invariant in
    inr (Stops-here now.carried c.in-Some.ensures (c.in-Err-Memory.ensures.memory (ap Err c.in-Err-Memory.field-0-is)))

pub loop-line-preserved : goal.loop-line-preserved
loop-line-preserved g c =
    let now = c.loop-line.invariant in
    let written : Appends (g.W.Write.contents c.loop-line.writer) (g.W.Write.contents c.write_all.new.self) c.in-Ok.reply.items = search rules in
    record {
      carried = HasCarriedOut-after_line now.carried c.in-Some.ensures c.in-Ok.reply.items c.line.new.self c.in-Ok.ensures.step (g.W.Write.contents c.write_all.new.self) written;
      number = omega (arith, now.number, length-append now.carried.earlier (c.in-Some.line.now ∷ []));
    }

pub returns-clause-ok : goal.returns-clause-ok
returns-clause-ok g c =
    let now = c.loop-line.invariant in
    let done = c.in_default.ensures in
    (none-bad now.carried (c.args.skipped + 1) done, Prints-so_far now.carried (ap good_commands done))
