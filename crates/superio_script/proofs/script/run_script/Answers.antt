-- SPDX-License-Identifier: Apache-2.0 OR BSD-3-Clause
-- There are no more lines than bytes, and these are few. A bad line of the text that was read is one of the script.
use Rattle.std.proofs.Common.{rules, arith, ◌≡◌, Some, None, IfSome, List, ℕ}
use Rattle.std.proofs.lemmas.Option.{IfSome_then}
use Rattle.superio_script.specs.Script.{body_of, PrintsLines, RunsUpTo}
use Rattle.superio_script.proofs.ScriptLemmas.{PrintsLines-kept}
use Rattle.superio_script.proofs.LineLemmas.{length-lines_of-le}
use Rattle.superio_script.proofs.script.run_script.Goals as goal

pub write_replies-requires : goal.write_replies-requires
write_replies-requires g c = omega (arith, c.head-mask.ensures.all, length-lines_of-le c.deref.result.now, c.deref.type_inv.0)

pub returns-in_err-write_replies-clause-bad : goal.returns-in_err-write_replies-clause-bad
returns-in_err-write_replies-clause-bad g c = λ number is.
    let bad = c.write_replies.ensures.bad number (search rules) in
    IfSome_then (g.R.Read.remaining c.args.reader.now)
    {P = λ (script : List ℕ). c.in_ok-script.script.items ≡ script}
    {Q = λ (script : List ℕ). RunsUpTo (Some number) script (g.R.Read.remaining c.read_script.new.reader) (g.W.Write.contents c.args.writer.now) (g.W.Write.contents c.write_replies.new.writer)}
    c.in_ok-script.ensures.whole
    (λ script same. record { within_limit = search rules; none_left = search rules; first_bad = search rules; text = search rules })

pub returns-clause-ok : goal.returns-clause-ok
returns-clause-ok g c =
    let ok = c.in_ok-write_replies.ensures.ok in
    let start = g.W.Write.contents c.args.writer.now in
    let middle = g.W.Write.contents c.write_replies.new.writer in
    let end = g.W.Write.contents c.flush.new.self in
    let runs : IfSome (g.R.Read.remaining c.args.reader.now) (λ script. RunsUpTo None script (g.R.Read.remaining c.read_script.new.reader) start end) =
    IfSome_then (g.R.Read.remaining c.args.reader.now)
    {P = λ (script : List ℕ). c.in_ok-script.script.items ≡ script}
    {Q = λ (script : List ℕ). RunsUpTo None script (g.R.Read.remaining c.read_script.new.reader) start end}
    c.in_ok-script.ensures.whole
    (λ script same.
    let printed : PrintsLines (body_of script).mask (body_of script).lines start middle = search (rules, ok.1) in
    record {
      within_limit = search rules;
      none_left = search rules;
      first_bad = search (rules, ok.0);
      text = PrintsLines-kept start middle end printed c.flush.ensures.bytes;
    }) in
    search (rules, runs)
