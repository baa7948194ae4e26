-- SPDX-License-Identifier: Apache-2.0 OR BSD-3-Clause
-- The order of what goes through the output.
use Rattle.std.proofs.Common.{◌≡◌, ℕ, ◌+◌, ◌-◌, ◌^◌, ◌<◌, Bool, true, false, not, ◌&&◌, nat_lt, min, suc, if◌then◌else◌, List, [], ◌∷◌, ◌++◌, length, refl, sym, ap, ◌∙◌, inl, inr, append_assoc, append-nil, take-append-drop, length-append, arith}
use Rattle.superio_console.specs.Console.{ConsoleState, Call, Reads, Writes, Receives, Consumes, Turns, Refuses, Resets, Suspends, SetsPolled, sent_at, output_after_byte, dropped_after_byte, output_with, dropped_with, after}
use Rattle.std.proofs.lemmas.Bool.{false≢true}
use Rattle.superio_laws.specs.Serial.{DecodedOp, Write, not_empty, sent_by, decode_in}
use Rattle.superio_console.specs.Laws.{after_calls, in_each, IsSplit, KeepsOutput, taken_at, OutputLaw, in_each, finds_no_room, RoomLaw}
use Rattle.superio_console.proofs.Lemmas.Port.{first_none, later_none}

-- ---- bytes that are sent

-- what becomes of these bytes
record Sends (bytes output : List ℕ) (count : ℕ) : Type 0 where
  kept : List ℕ
  dropped : List ℕ
  sources : IsSplit bytes kept dropped
  in_order : output_with bytes output ≡ output ++ kept
  counted : dropped_with bytes output count ≡ min (count + length dropped) (2 ^ 64 - 1)

one_more : (count number limit : ℕ) → min (min (count + 1) limit + number) limit ≡ min (count + suc number) limit
one_more count number limit = omega arith

-- the first byte is kept if there is room, and otherwise dropped
sends-first : (byte : ℕ) (bytes output : List ℕ) (count : ℕ) (room : Bool) → nat_lt (length output) 4096 ≡ room
    → Sends bytes (output_after_byte byte output) (dropped_after_byte output count) → Sends (byte ∷ bytes) output count
sends-first byte bytes output count true has_room rest =
    let is : output_after_byte byte output ≡ output ++ byte ∷ [] = ap (λ room. if room then output ++ byte ∷ [] else output) has_room in
    let same : dropped_after_byte output count ≡ count = ap (λ room. if room then count else min (count + 1) (2 ^ 64 - 1)) has_room in
    record {
      kept = byte ∷ rest.kept;
      dropped = rest.dropped;
      sources = inl (rest.kept, refl, rest.sources);
      in_order = rest.in_order ∙ ap (λ waiting. waiting ++ rest.kept) is ∙ append_assoc output (byte ∷ []) rest.kept;
      counted = rest.counted ∙ ap (λ count. min (count + length rest.dropped) (2 ^ 64 - 1)) same;
    }
sends-first byte bytes output count false is_full rest =
    let is : output_after_byte byte output ≡ output = ap (λ room. if room then output ++ byte ∷ [] else output) is_full in
    let more : dropped_after_byte output count ≡ min (count + 1) (2 ^ 64 - 1) = ap (λ room. if room then count else min (count + 1) (2 ^ 64 - 1)) is_full in
    record {
      kept = rest.kept;
      dropped = byte ∷ rest.dropped;
      sources = inr (rest.dropped, refl, rest.sources);
      in_order = rest.in_order ∙ ap (λ waiting. waiting ++ rest.kept) is;
      counted =
          rest.counted ∙ ap (λ count. min (count + length rest.dropped) (2 ^ 64 - 1)) more
          ∙ one_more count (length rest.dropped) (2 ^ 64 - 1);
    }

few_after : (room : Bool) (count : ℕ) → count < 2 ^ 64 → (if room then count else min (count + 1) (2 ^ 64 - 1)) < 2 ^ 64
few_after true count few = few
few_after false count few = omega arith

sends : (bytes output : List ℕ) (count : ℕ) → count < 2 ^ 64 → Sends bytes output count
sends [] output count few = record {
  kept = [];
  dropped = [];
  sources = (refl, refl);
  in_order = sym (append-nil output);
  counted = omega (arith, few);
}
sends (byte ∷ bytes) output count few =
    sends-first byte bytes output count (nat_lt (length output) 4096) refl
    (sends bytes (output_after_byte byte output) (dropped_after_byte output count) (few_after (nat_lt (length output) 4096) count few))

-- ---- a call

sent-call : (call : Call) (c : ConsoleState) → c.dropped < 2 ^ 64
    → (taken_at call c ++ (after call c).output ≡ output_with (sent_at call c) c.output)
    → KeepsOutput (taken_at call c) (sent_at call c) c (after call c)
sent-call call c few same =
    let now = sends (sent_at call c) c.output c.dropped few in
    record {
      kept = now.kept;
      dropped = now.dropped;
      sources = now.sources;
      in_order = same ∙ now.in_order;
      counted = now.counted;
    }

keeps-call : (call : Call) (c : ConsoleState) → c.dropped < 2 ^ 64 → KeepsOutput (taken_at call c) (sent_at call c) c (after call c)
keeps-call (Consumes count) c few = sent-call (Consumes count) c few (take-append-drop count c.output)
keeps-call (Reads offset) c few = sent-call (Reads offset) c few refl
keeps-call (Writes offset value) c few = sent-call (Writes offset value) c few refl
keeps-call (Receives bytes) c few = sent-call (Receives bytes) c few refl
keeps-call Turns c few = sent-call Turns c few refl
keeps-call Refuses c few = sent-call Refuses c few refl
keeps-call Suspends c few = sent-call Suspends c few refl
keeps-call (SetsPolled is_polled) c few = sent-call (SetsPolled is_polled) c few refl
keeps-call Resets c few = sent-call Resets c few refl

-- ---- lists that are split

pub split-append : (all more first second first_more second_more : List ℕ) → IsSplit all first second → IsSplit more first_more second_more
    → IsSplit (all ++ more) (first ++ first_more) (second ++ second_more)
split-append [] more first second first_more second_more (no_first, no_second) later = rw (no_first, no_second) later
split-append (byte ∷ all) more first second first_more second_more (inl (others, is, split)) later =
    inl (others ++ first_more, ap (λ bytes. bytes ++ first_more) is, split-append all more others second first_more second_more split later)
split-append (byte ∷ all) more first second first_more second_more (inr (others, is, split)) later =
    inr (others ++ second_more, ap (λ bytes. bytes ++ second_more) is, split-append all more first others first_more second_more split later)

-- ---- several calls

more_counted : (count one other limit : ℕ) → min (min (count + one) limit + other) limit ≡ min (count + (one + other)) limit
more_counted count one other limit = omega arith

keeps-then : (taken sent taken_more sent_more : List ℕ) (old middle new : ConsoleState)
    → KeepsOutput taken sent old middle → KeepsOutput taken_more sent_more middle new
    → KeepsOutput (taken ++ taken_more) (sent ++ sent_more) old new
keeps-then taken sent taken_more sent_more old middle new first second = record {
  kept = first.kept ++ second.kept;
  dropped = first.dropped ++ second.dropped;
  sources = split-append sent sent_more first.kept first.dropped second.kept second.dropped first.sources second.sources;
  in_order =
      append_assoc taken taken_more new.output
      ∙ ap (λ bytes. taken ++ bytes) second.in_order
      ∙ sym (append_assoc taken middle.output second.kept)
      ∙ ap (λ bytes. bytes ++ second.kept) first.in_order
      ∙ append_assoc old.output first.kept second.kept;
  counted =
      second.counted
      ∙ ap (λ count. min (count + length second.dropped) (2 ^ 64 - 1)) first.counted
      ∙ more_counted old.dropped (length first.dropped) (length second.dropped) (2 ^ 64 - 1)
      ∙ ap (λ more. min (old.dropped + more) (2 ^ 64 - 1)) (sym (length-append first.dropped second.dropped));
}

few_then : (new count : ℕ) → new ≡ min count (2 ^ 64 - 1) → new < 2 ^ 64
few_then new count is = omega (arith, is)

pub output_law : OutputLaw
output_law [] c few = record {
  kept = [];
  dropped = [];
  sources = (refl, refl);
  in_order = sym (append-nil c.output);
  counted = omega (arith, few);
}
output_law (call ∷ later) c few =
    let next = after call c in
    let first = keeps-call call c few in
    keeps-then (taken_at call c) (sent_at call c) _ _ c next (after_calls later next) first
    (output_law later next (few_then next.dropped _ first.counted))

-- ---- while there is room

one-kept : (room : Bool) (byte : ℕ) (output : List ℕ) (count : ℕ) → (true && not room) ≡ false
    → ((if room then output ++ byte ∷ [] else output) ≡ output ++ byte ∷ [])
    × ((if room then count else min (count + 1) (2 ^ 64 - 1)) ≡ count)
one-kept true byte output count none = (refl, refl)
one-kept false byte output count none = absurd (false≢true (sym none))

kept-kind : (kind : DecodedOp) (output : List ℕ) (count : ℕ)
    → (not_empty (sent_by kind) && not (nat_lt (length output) 4096)) ≡ false
    → (output_with (sent_by kind) output ≡ output ++ sent_by kind) × (dropped_with (sent_by kind) output count ≡ count)
kept-kind (DecodedOp.ThrWrite value) output count none = one-kept (nat_lt (length output) 4096) value output count none
kept-kind _ output count none = (sym (append-nil output), refl)

kept-call : (call : Call) (c : ConsoleState) → finds_no_room call c ≡ false
    → (taken_at call c ++ (after call c).output ≡ c.output ++ sent_at call c) × ((after call c).dropped ≡ c.dropped)
kept-call (Writes offset value) c none = kept-kind (decode_in c.port (Write offset value)) c.output c.dropped none
kept-call (Consumes count) c none = (take-append-drop count c.output ∙ sym (append-nil c.output), refl)
kept-call (Reads offset) c none = (sym (append-nil c.output), refl)
kept-call (Receives bytes) c none = (sym (append-nil c.output), refl)
kept-call Turns c none = (sym (append-nil c.output), refl)
kept-call Refuses c none = (sym (append-nil c.output), refl)
kept-call Suspends c none = (sym (append-nil c.output), refl)
kept-call (SetsPolled is_polled) c none = (sym (append-nil c.output), refl)
kept-call Resets c none = (sym (append-nil c.output), refl)

pub room_law : RoomLaw
room_law [] c none = (sym (append-nil c.output), refl)
room_law (call ∷ later) c none =
    let next = after call c in
    let first = kept-call call c (first_none (finds_no_room call c) _ none) in
    let rest = room_law later next (later_none (finds_no_room call c) _ none) in (
      append_assoc (taken_at call c) (in_each taken_at later next) (after_calls later next).output
          ∙ ap (λ bytes. taken_at call c ++ bytes) rest.0
          ∙ sym (append_assoc (taken_at call c) next.output (in_each sent_at later next))
          ∙ ap (λ bytes. bytes ++ in_each sent_at later next) first.0
          ∙ append_assoc c.output (sent_at call c) (in_each sent_at later next),
      rest.1 ∙ first.1,
    )
