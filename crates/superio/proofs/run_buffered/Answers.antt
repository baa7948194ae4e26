-- SPDX-License-Identifier: Apache-2.0 OR BSD-3-Clause
-- What the run wrote into the buffer was flushed.
use Rattle.std.proofs.Common.{◌≡◌, ℕ, List, [], ◌++◌, Option, Some, None, ap, ◌∙◌, inl, inr, subst, append-nil, ⊎_elim}
use Rattle.std.proofs.lemmas.Option.{IfSome_then}
use Rattle.std.proofs.lemmas.Result.{on_ok_weaker}
use Rattle.std.specs.Io.KnownBytes.{Keeps, append_known}
use Rattle.std.specs.Io.Buffered.{writer_inner, writer_contents}
use Rattle.superio_script.specs.Script.{RunsUpTo, StopsWithoutMemory}
use Rattle.superio_script.proofs.ScriptLemmas.{PrintsLines-kept}
use Rattle.superio.proofs.run_buffered.Goals as goal

-- a buffer that holds nothing adds nothing
Keeps-behind : (before behind : Option (List ℕ)) {buffer : List ℕ} → buffer ≡ [] → Keeps before (append_known behind buffer) → Keeps before behind
Keeps-behind before None empty kept = kept
Keeps-behind before (Some bytes) empty kept =
    subst (λ bytes. Keeps before (Some bytes)) (ap (λ buffer. bytes ++ buffer) empty ∙ append-nil bytes) kept

RunsUpTo-kept : {bad : Option ℕ} {script : List ℕ} {left before middle : Option (List ℕ)} (after : Option (List ℕ)) → Keeps middle after
    → RunsUpTo bad script left before middle → RunsUpTo bad script left before after
RunsUpTo-kept {script = script} {before = before} {middle = middle} after kept run = record {
  within_limit = run.within_limit;
  none_left = run.none_left;
  first_bad = run.first_bad;
  text = PrintsLines-kept before middle after run.text kept;
}

StopsWithoutMemory-kept : {mask : ℕ} {lines : List (List ℕ)} {before middle : Option (List ℕ)} (after : Option (List ℕ)) → Keeps middle after
    → StopsWithoutMemory mask lines before middle → StopsWithoutMemory mask lines before after
StopsWithoutMemory-kept {mask = mask} {before = before} {middle = middle} after kept stops = record {
  earlier = stops.earlier;
  later = stops.later;
  split = stops.split;
  all_good = stops.all_good;
  text = PrintsLines-kept before middle after stops.text kept;
}

pub returns-in-Ok-clause-ok : goal.returns-in-Ok-clause-ok
returns-in-Ok-clause-ok g c =
    let end = g.W.Write.contents (writer_inner c.flush.new.self) in
    let kept = Keeps-behind _ end c.in-Ok.ensures.ok c.in-Ok.ensures.bytes in
    on_ok_weaker c.run_script-end.result
    (λ ran. IfSome_then (g.R.Read.remaining c.args.reader.now) ran (λ script run. RunsUpTo-kept end kept run))
    c.run_script-end.ensures.ok

pub returns-in-Ok-clause-bad : goal.returns-in-Ok-clause-bad
returns-in-Ok-clause-bad g c = λ number e.
    let end = g.W.Write.contents (writer_inner c.flush.new.self) in
    let kept = Keeps-behind _ end c.in-Ok.ensures.ok c.in-Ok.ensures.bytes in
    IfSome_then (g.R.Read.remaining c.args.reader.now) (c.run_script-end.ensures.bad number e) (λ script run. RunsUpTo-kept end kept run)

pub returns-in-Ok-clause-memory : goal.returns-in-Ok-clause-memory
returns-in-Ok-clause-memory g c = λ e.
    let end = g.W.Write.contents (writer_inner c.flush.new.self) in
    let kept = Keeps-behind _ end c.in-Ok.ensures.ok c.in-Ok.ensures.bytes in
    ⊎_elim
    (λ same. inl (subst (λ output. Keeps (writer_contents g.W.Write.contents output) end) same kept))
    (λ ran. inr (IfSome_then (g.R.Read.remaining c.args.reader.now) ran (λ script stops. StopsWithoutMemory-kept end kept stops)))
    (c.run_script-end.ensures.memory e)

pub returns-in-Ok-clause-too_long_unwritten : goal.returns-in-Ok-clause-too_long_unwritten
returns-in-Ok-clause-too_long_unwritten g c = λ e.
    let end = g.W.Write.contents (writer_inner c.flush.new.self) in
    let kept = Keeps-behind _ end c.in-Ok.ensures.ok c.in-Ok.ensures.bytes in
    subst (λ output. Keeps (writer_contents g.W.Write.contents output) end) (c.run_script-end.ensures.too_long_unwritten e) kept
