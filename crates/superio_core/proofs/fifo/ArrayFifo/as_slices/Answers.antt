-- SPDX-License-Identifier: Apache-2.0 OR BSD-3-Clause
-- The places up to the last one, and those from the first one on, are the ring.
use Rattle.std.proofs.Common.{◌≡◌, ◌-◌, ◌+◌, ◌%◌, ℕ, min, List, ◌++◌, length, take, drop, sym, ap, ◌∙◌, arith, inl, inr, append-nil, take_all}
use Rattle.std.proofs.Math.Seq.{take-append-add}
use Rattle.std.proofs.lemmas.Bool.{cases_lt}
use Rattle.std.proofs.lemmas.List.{take-append-le}
use Rattle.superio_core.specs.Serial.{ring_from}
use Rattle.superio_core.proofs.fifo.ArrayFifo.as_slices.Goals as goal

both : (count older : ℕ) (last first : List ℕ) → older ≡ min count (length last)
    → take older last ++ take (count - older) first ≡ take count (last ++ first)
both count older last first is =
    elim (cases_lt count (length last)) [
      | inl fewer ↦
          let all : older ≡ count = omega (arith, is, fewer) in
          let none : count - older ≡ 0 = omega (arith, is, fewer) in
          ap (λ n. take n last ++ take (count - older) first) all
          ∙ ap (λ n. take count last ++ take n first) none
          ∙ append-nil (take count last)
          ∙ sym (take-append-le count last first (omega (arith, fewer)))
      | inr more ↦
          let all : older ≡ length last = omega (arith, is, more) in
          let both : count ≡ length last + (count - older) = omega (arith, is, more) in
          ap (λ l. l ++ take (count - older) first) (take_all older last (omega (arith, all)))
          ∙ sym (ap (λ n. take n (last ++ first)) both ∙ take-append-add last first (count - older))
    ]

pub returns-clause-bytes : goal.returns-clause-bytes
returns-clause-bytes c =
    let fifo = c.args.self.now in
    let held = c.count-held.result in
    let here : c.place.result ≡ fifo.head % 64 = omega arith in
    both held c.min-older.result c.split_at.result.1.now c.split_at.result.0.now c.min-older.ensures
    ∙ ap (λ l. take held (l ++ c.split_at.result.0.now)) c.split_at.ensures.back
    ∙ ap (λ l. take held (drop c.place.result fifo.bytes ++ l)) c.split_at.ensures.front
    ∙ ap (λ place. take held (drop place fifo.bytes ++ take place fifo.bytes)) here
    ∙ ap (λ n. take n (ring_from fifo.head fifo.bytes)) c.count-held.ensures
