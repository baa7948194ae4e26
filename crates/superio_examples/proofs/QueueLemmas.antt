-- SPDX-License-Identifier: Apache-2.0 OR BSD-3-Clause
-- The order of what goes through an output.
use Rattle.std.proofs.Common.{◌≡◌, ℕ, ◌-◌, Bool, List, [], ◌++◌, length, take, drop, ap, arith, if◌then◌else◌, inl, inr, ◌+◌, ◌^◌, ◌<◌, true, false, nat_lt, min, suc, ◌∷◌, refl, sym, ◌∙◌, append_assoc, append-nil, take-append-drop}
use Rattle.superio_examples.specs.Queues.{Waiting, Turn, Sends, Takes, OutputLaw, IsInOrder, after_byte, after_turns, taken_in}

-- one byte more is counted
one_more : (count number limit : ℕ) → min (min (count + 1) limit + number) limit ≡ min (count + suc number) limit
one_more count number limit = omega arith

-- a byte that is sent is kept if there is room, and otherwise dropped
sends : (turns : List Turn) (byte : ℕ) (output : Waiting) (room : Bool)
    → nat_lt (length output.items) output.capacity ≡ room
    → IsInOrder turns (after_byte byte output) → IsInOrder (Sends byte ∷ turns) output
sends turns byte output true has_room rest =
    let kept = record output { items = output.items ++ byte ∷ [] } in
    let dropped = record output { dropped = min (output.dropped + 1) (2 ^ 64 - 1) } in
    let is : after_byte byte output ≡ kept = ap (λ room. if room then kept else dropped) has_room in
    record {
      kept = byte ∷ rest.kept;
      dropped = rest.dropped;
      sent = inl (rest.kept, refl, rest.sent);
      order =
          rest.order ∙ ap (λ (waiting : Waiting). waiting.items ++ rest.kept) is
          ∙ append_assoc output.items (byte ∷ []) rest.kept;
      counted =
          rest.counted ∙ ap (λ (waiting : Waiting). min (waiting.dropped + length rest.dropped) (2 ^ 64 - 1)) is;
    }
sends turns byte output false is_full rest =
    let kept = record output { items = output.items ++ byte ∷ [] } in
    let dropped = record output { dropped = min (output.dropped + 1) (2 ^ 64 - 1) } in
    let is : after_byte byte output ≡ dropped = ap (λ room. if room then kept else dropped) is_full in
    record {
      kept = rest.kept;
      dropped = byte ∷ rest.dropped;
      sent = inr (rest.dropped, refl, rest.sent);
      order = rest.order ∙ ap (λ (waiting : Waiting). waiting.items ++ rest.kept) is;
      counted =
          rest.counted ∙ ap (λ (waiting : Waiting). min (waiting.dropped + length rest.dropped) (2 ^ 64 - 1)) is
          ∙ one_more output.dropped (length rest.dropped) (2 ^ 64 - 1);
    }

few_after : (room : Bool) (kept dropped : Waiting) → kept.dropped < 2 ^ 64 → dropped.dropped < 2 ^ 64
    → (if room then kept else dropped).dropped < 2 ^ 64
few_after room kept dropped few still_few = grind arith

pub output_law : OutputLaw
output_law [] output few = record {
  kept = [];
  dropped = [];
  sent = (refl, refl);
  order = sym (append-nil output.items);
  counted = omega (arith, few);
}
output_law (Sends byte ∷ turns) output few =
    sends turns byte output (nat_lt (length output.items) output.capacity) refl
    (output_law turns (after_byte byte output)
    (few_after (nat_lt (length output.items) output.capacity) (record output { items = output.items ++ byte ∷ [] })
    (record output { dropped = min (output.dropped + 1) (2 ^ 64 - 1) }) few (omega arith)))
output_law (Takes count ∷ turns) output few =
    let left = record output { items = drop count output.items } in
    let rest = output_law turns left few in
    record {
      kept = rest.kept;
      dropped = rest.dropped;
      sent = rest.sent;
      order =
          append_assoc (take count output.items) (taken_in turns left) (after_turns turns left).items
          ∙ ap (λ bytes. take count output.items ++ bytes) rest.order
          ∙ sym (append_assoc (take count output.items) (drop count output.items) rest.kept)
          ∙ ap (λ bytes. bytes ++ rest.kept) (take-append-drop count output.items);
      counted = rest.counted;
    }
