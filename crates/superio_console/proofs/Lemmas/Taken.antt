-- SPDX-License-Identifier: Apache-2.0 OR BSD-3-Clause
-- A driver that takes at least one byte in each run.
use Rattle.std.proofs.Common.{◌≡◌, ℕ, ◌+◌, ◌≤◌, min, suc, List, [], ◌∷◌, ◌++◌, length, take, drop, refl, sym, ap, ◌∙◌, arith, append_assoc, append-nil, length-append, take-append-drop, IsTrue}
use Rattle.std.proofs.lemmas.Bool.{false≢true}
use Rattle.std.proofs.lemmas.List.{take_min, take-append-le}
use Rattle.superio_laws.specs.Serial.{not_empty}
use Rattle.superio_console.specs.Console.{ConsoleState, Call}
use Rattle.superio_console.specs.Laws.{after_calls, in_each, left_at, left_in_runs, EachTakes, TakenLaw}
use Rattle.superio_console.proofs.Lemmas.Input.{input_law}

-- what left, followed by what is held, begins with what was held
record Leaves (left : List ℕ) (old new : ConsoleState) : Type 0 where
  arrived : List ℕ
  in_order : left ++ new.port.in_buffer ≡ old.port.in_buffer ++ arrived

abbrev after_runs : (runs : List (List Call)) (c : ConsoleState) → ConsoleState
after_runs [] c = c
after_runs (run ∷ later) c = after_runs later (after_calls run c)

leaves-run : (run : List Call) (c : ConsoleState) → Leaves (in_each left_at run c) c (after_calls run c)
leaves-run run c = let kept = input_law run c in record { arrived = kept.arrived; in_order = kept.in_order }

leaves-runs : (runs : List (List Call)) (c : ConsoleState) → Leaves (left_in_runs runs c) c (after_runs runs c)
leaves-runs [] c = record { arrived = []; in_order = sym (append-nil c.port.in_buffer) }
leaves-runs (run ∷ later) c =
    let middle = after_calls run c in
    let first = leaves-run run c in
    let second = leaves-runs later middle in
    let left = in_each left_at run c in
    record {
      arrived = first.arrived ++ second.arrived;
      in_order =
          append_assoc left (left_in_runs later middle) (after_runs later middle).port.in_buffer
          ∙ ap (λ bytes. left ++ bytes) second.in_order
          ∙ sym (append_assoc left middle.port.in_buffer second.arrived)
          ∙ ap (λ bytes. bytes ++ second.arrived) first.in_order
          ∙ append_assoc c.port.in_buffer first.arrived second.arrived;
    }

some-length : (held left : List ℕ) → (IsTrue (not_empty held) → IsTrue (not_empty left)) → min 1 (length held) ≤ length left
some-length [] left takes = omega arith
some-length (byte ∷ held) [] takes = absurd (false≢true (takes refl))
some-length (byte ∷ held) (first ∷ left) takes = omega arith

enough : (runs first held middle later all arrived : ℕ) → min 1 held ≤ first → first + middle ≡ held + arrived → min runs middle ≤ later
    → first + later ≡ all → min (suc runs) held ≤ all
enough runs first held middle later all arrived some kept rest whole = omega (arith, some, kept, rest, whole)

enough-left : (runs : List (List Call)) (c : ConsoleState) → EachTakes runs c
    → min (length runs) (length c.port.in_buffer) ≤ length (left_in_runs runs c)
enough-left [] c takes = omega arith
enough-left (run ∷ later) c (takes, others) =
    let middle = after_calls run c in
    let left = in_each left_at run c in
    let kept = leaves-run run c in
    enough (length later) (length left) (length c.port.in_buffer) (length middle.port.in_buffer) (length (left_in_runs later middle))
    (length (left_in_runs (run ∷ later) c)) (length kept.arrived) (some-length c.port.in_buffer left takes)
    (sym (length-append left middle.port.in_buffer) ∙ ap length kept.in_order ∙ length-append c.port.in_buffer kept.arrived)
    (enough-left later middle others) (sym (length-append left (left_in_runs later middle)))

-- the first bytes of two beginnings of a list
begins : (n : ℕ) (left held new arrived : List ℕ) → left ++ new ≡ held ++ arrived → n ≤ length left → n ≤ length held
    → take n left ≡ take n held
begins n left held new arrived whole few enough =
    sym (take-append-le n left new few) ∙ ap (take n) whole ∙ take-append-le n held arrived enough

pub taken_law : TakenLaw
taken_law runs c takes =
    let held = c.port.in_buffer in
    let left = left_in_runs runs c in
    let n = min (length runs) (length held) in
    let all = leaves-runs runs c in (
      drop n left,
      sym (take-append-drop n left)
          ∙ ap (λ first. first ++ drop n left)
          (begins n left held (after_runs runs c).port.in_buffer all.arrived all.in_order (enough-left runs c takes) (omega arith)
          ∙ take_min (length runs) held),
    )
