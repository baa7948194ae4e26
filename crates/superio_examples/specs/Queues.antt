-- SPDX-License-Identifier: Apache-2.0 OR BSD-3-Clause
-- Output that waits for a monitor's sink, up to a limit.
use Rattle.std.specs.Prelude.{ℕ, ◌-◌, ◌==◌, if◌then◌else◌, length, ◌≡◌, ◌⊎◌, ◌+◌, ◌^◌, ◌<◌, nat_lt, min, List, [], ◌∷◌, ◌++◌, take, drop}

-- the bytes that wait, oldest first, how many may wait, and how many were dropped
pub record Waiting : Type 0 where
  pub items : List ℕ
  pub capacity : ℕ
  pub dropped : ℕ

-- how many bytes were dropped in all, after a write of `count` bytes. If there was no room, all of these are dropped.
-- The number saturates
abbrev pub dropped_by : (output : Waiting) (count : ℕ) → ℕ
dropped_by output count =
    if length output.items == output.capacity then min (output.dropped + count) (2 ^ 64 - 1) else output.dropped

-- the output after a byte that a guest sent: the byte waits, or, if there is no room, it is dropped and counted
abbrev pub after_byte : (byte : ℕ) (output : Waiting) → Waiting
after_byte byte output =
    if nat_lt (length output.items) output.capacity
    then record output { items = output.items ++ byte ∷ [] }
    else record output { dropped = min (output.dropped + 1) (2 ^ 64 - 1) }

-- ---- any calls

-- what happens to an output: its guest sends a byte, or a sink takes the first bytes that wait
pub data Turn : Type 0 where
  Sends : (byte : ℕ) → Turn
  Takes : (count : ℕ) → Turn

-- the output after turns, in order
abbrev pub after_turns : (turns : List Turn) (output : Waiting) → Waiting
after_turns [] output = output
after_turns (Sends byte ∷ turns) output = after_turns turns (after_byte byte output)
after_turns (Takes count ∷ turns) output = after_turns turns (record output { items = drop count output.items })

-- the bytes that the guest sent, in order
abbrev pub sent_in : (turns : List Turn) → List ℕ
sent_in [] = []
sent_in (Sends byte ∷ turns) = byte ∷ sent_in turns
sent_in (Takes count ∷ turns) = sent_in turns

-- the bytes that sinks took, in order
abbrev pub taken_in : (turns : List Turn) (output : Waiting) → List ℕ
taken_in [] output = []
taken_in (Sends byte ∷ turns) output = taken_in turns (after_byte byte output)
taken_in (Takes count ∷ turns) output =
    take count output.items ++ taken_in turns (record output { items = drop count output.items })

-- each byte of a list is in one of two others, and these have their bytes in the list's order
abbrev pub IsSplit : (all kept dropped : List ℕ) → Type 0
IsSplit [] kept dropped = (kept ≡ []) × (dropped ≡ [])
IsSplit (byte ∷ all) kept dropped =
    ((others : List ℕ) × (kept ≡ byte ∷ others) × IsSplit all others dropped)
    ⊎ ((others : List ℕ) × (dropped ≡ byte ∷ others) × IsSplit all kept others)

-- the bytes that were sent are kept or dropped. What sinks took, followed by what waits, is what waited at the start,
-- followed by the bytes kept. The bytes dropped are counted
pub record IsInOrder (turns : List Turn) (output : Waiting) : Type 0 where
  pub kept : List ℕ
  pub dropped : List ℕ
  pub sent : IsSplit (sent_in turns) kept dropped
  pub order : taken_in turns output ++ (after_turns turns output).items ≡ output.items ++ kept
  pub counted : (after_turns turns output).dropped ≡ min (output.dropped + length dropped) (2 ^ 64 - 1)

abbrev pub OutputLaw : Type 0
OutputLaw = (turns : List Turn) (output : Waiting) → output.dropped < 2 ^ 64 → IsInOrder turns output
