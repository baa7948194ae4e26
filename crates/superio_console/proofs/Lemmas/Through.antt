-- SPDX-License-Identifier: Apache-2.0 OR BSD-3-Clause
-- Each byte is through if the driver keeps its rules: the console does the monitor's part.
use Rattle.std.proofs.Common.{◌≡◌, ℕ, ◌+◌, ◌<◌, Bool, true, false, if◌then◌else◌, inl, inr, ◌⊎◌, List, [], ◌∷◌, ◌++◌, length, refl, sym, ap, subst, ◌∙◌, arith, append_assoc, length-append, IsTrue}
use Rattle.std.proofs.lemmas.Bool.{false≢true}
use Rattle.std.specs.Bool.{IsFalse}
use Rattle.superio_core.proofs.Lemmas.Serial.Step.{rda_bit, thre_bit}
use Rattle.superio_laws.specs.Serial.{State, Op, Read, Write, Enqueue, CharacterTimeout, Trace, TraceEntry, Condition, Rda, Thre, DecodedOp, RbrRead, IirRead, Register, ByteRead, has_bits, ier_bit, iir_bit, not_empty, is_iir_read, decode_in, decode_write}
use Rattle.superio_laws.specs.Serial.History.{state_of_history, decode_at, loopback_after, held_bytes, read_out_bytes, read_out_by, byte_read, is_pending}
use Rattle.superio_laws.specs.Serial.Laws.UartRun.{trace_with, without_results}
use Rattle.superio_laws.specs.Serial.Laws.GuestDriver.{Driver, NoIirRead, EndsAtNone, EndsInPass, IsDriverRun, AreDriverRuns}
use Rattle.superio_laws.proofs.Lemmas.Serial.Laws.GuestDriver.{asked_to_send_law, asked_to_take_law, sent_in_runs_law}
use Rattle.superio_console.specs.Console.{ConsoleState, Call, Reads, Writes, Receives, Consumes, Turns, Refuses, Resets, Suspends, SetsPolled, shown_at, answers_none, after}
use Rattle.superio_console.specs.Laws.{after_calls, in_each, in_one, is_reset, reads_iir, left_at, EachTakes}
use Rattle.superio_console.specs.Driver.{IsAt, newest, IsServed, AreRuns, EachIsServed, runs_of, EachByteIsThroughLaw}
use Rattle.superio_console.proofs.Lemmas.Point.{Place, in_second, in_first, place-of, nothing_there, entries_of, newest-more, at-call, next_law, timeout_law}
use Rattle.superio_console.proofs.Lemmas.Port.{first_none, later_none}
use Rattle.superio_console.proofs.Lemmas.Raised.{interrupted-pending, interrupted-held}
use Rattle.superio_console.proofs.Lemmas.Taken.{taken_law}

-- ---- a driver's run reads IIR

none-both : (start : State) (before first second : Trace) → NoIirRead start first before → NoIirRead start second (first ++ before)
    → NoIirRead start (second ++ first) before
none-both start before first second old new later earlier entry whole = by-place (place-of second first later earlier entry whole) where
  by-place : Place second first later earlier entry → IsFalse (is_iir_read (decode_at start (earlier ++ before) entry.op))
  by-place (in_second rest there left) =
      let same : earlier ++ before ≡ rest ++ (first ++ before) =
      ap (λ (list : Trace). list ++ before) left ∙ append_assoc rest first before in
      subst (λ (trace : Trace). IsFalse (is_iir_read (decode_at start trace entry.op))) (sym same) (new later rest entry there)
  by-place (in_first front there left) = old front earlier entry left

one-none : (start : State) (before : Trace) (op : Op) → IsFalse (is_iir_read (decode_at start before op))
    → NoIirRead start (without_results op ∷ []) before
one-none start before op other [] [] entry whole =
    let same : without_results op ≡ entry = cc in
    subst (λ (entry : TraceEntry). IsFalse (is_iir_read (decode_at start before entry.op))) same other
one-none start before op other [] (x ∷ earlier) entry whole = absurd cc
one-none start before op other (x ∷ later) earlier entry whole =
    let rest : [] ≡ later ++ entry ∷ earlier = cc in
    absurd (nothing_there later earlier entry rest)

none-read : (start : State) (before : Trace) (offset : ℕ) (none : Bool)
    → IsFalse (is_iir_read (decode_at start before (Read offset)))
    → NoIirRead start (trace_with [] (Read offset ∷ (if none then CharacterTimeout ∷ [] else []))) before
none-read start before offset true other =
    none-both start before (without_results (Read offset) ∷ []) (without_results CharacterTimeout ∷ [])
    (one-none start before (Read offset) other)
    (one-none start (without_results (Read offset) ∷ before) CharacterTimeout refl)
none-read start before offset false other = one-none start before (Read offset) other

no_write : (register : Register) (loopback : Bool) (value : ℕ) → is_iir_read (decode_write register loopback value) ≡ false
no_write register loopback value = grind arith

no_enqueue : (loopback : Bool) (bytes : List ℕ) → is_iir_read (if loopback then DecodedOp.Other else DecodedOp.RxInput bytes) ≡ false
no_enqueue loopback bytes = grind arith

none-empty : (start : State) (before : Trace) → NoIirRead start [] before
none-empty start before later earlier entry whole = absurd (nothing_there later earlier entry whole)

none-call : (start : State) (before : Trace) (c : ConsoleState) (call : Call) → IsAt start before c → reads_iir call c ≡ false
    → NoIirRead start (entries_of call c) before
none-call start before c (Reads offset) is unread =
    none-read start before offset (answers_none offset (shown_at offset c.port))
    (ap (λ (s : State). is_iir_read (decode_in s (Read offset))) (sym is.port) ∙ unread)
none-call start before c (Writes offset value) is unread =
    one-none start before (Write offset value) (no_write _ (loopback_after start before) value)
none-call start before c (Receives bytes) is unread =
    one-none start before (Enqueue _) (no_enqueue (loopback_after start before) _)
none-call start before c Turns is unread = one-none start before CharacterTimeout refl
none-call start before c (Consumes count) is unread = none-empty start before
none-call start before c Refuses is unread = none-empty start before
none-call start before c Resets is unread = none-empty start before
none-call start before c Suspends is unread = none-empty start before
none-call start before c (SetsPolled is_polled) is unread = none-empty start before

none-run : (start : State) (before : Trace) (c : ConsoleState) (calls : List Call) → IsAt start before c
    → in_one is_reset calls c ≡ false → in_one reads_iir calls c ≡ false → NoIirRead start (newest calls c) before
none-run start before c [] is kept unread = none-empty start before
none-run start before c (call ∷ calls) is kept unread =
    subst (λ (list : Trace). NoIirRead start list before) (sym (newest-more call calls c))
    (none-both start before (entries_of call c) (newest calls (after call c))
    (none-call start before c call is (first_none (reads_iir call c) _ unread))
    (none-run start (entries_of call c ++ before) (after call c) calls
    (at-call start before c call is (first_none (is_reset call c) _ kept))
    (later_none (is_reset call c) _ kept) (later_none (reads_iir call c) _ unread)))

is_read : (kind : DecodedOp) → kind ≡ IirRead → IsFalse (is_iir_read kind) → ⊥
is_read kind reads other = grind arith

reads-iir : (driver : Driver) (start : State) (before : Trace) (c : ConsoleState) (run : List Call) → IsAt start before c
    → in_one is_reset run c ≡ false → IsDriverRun driver start before (newest run c) → IsTrue (in_one reads_iir run c)
reads-iir driver start before c run is kept runs = by-read (in_one reads_iir run c) refl where
  by-end : in_one reads_iir run c ≡ false → EndsAtNone driver start before (newest run c) ⊎ EndsInPass driver start before (newest run c) → ⊥
  by-end unread (inl ends) =
      is_read (decode_at start (ends.earlier ++ before) ends.iir.op) ends.reads
      (none-run start before c run is kept unread (ends.tail ++ ends.none ∷ ends.pass) ends.earlier ends.iir
      (ends.place ∙ sym (append_assoc ends.tail (ends.none ∷ ends.pass) (ends.iir ∷ ends.earlier))))
  by-end unread (inr ends) =
      is_read (decode_at start (ends.earlier ++ before) ends.iir.op) ends.reads
      (none-run start before c run is kept unread ends.pass ends.earlier ends.iir ends.place)

  by-read : (read : Bool) → in_one reads_iir run c ≡ read → IsTrue read
  by-read true found = refl
  by-read false unread = absurd (by-end unread runs.ends)

-- ---- after a run

pending-at : (condition : Condition) (start : State) (trace : Trace) (c : ConsoleState) → c.port ≡ state_of_history start trace
    → IsTrue (is_pending condition start trace) → IsTrue (has_bits c.port.interrupt_identification (iir_bit condition))
pending-at Rda start trace c same pending =
    ap (λ (s : State). has_bits s.interrupt_identification 0x04) same
    ∙ rda_bit (is_pending Thre start trace) (is_pending Rda start trace) ∙ pending
pending-at Thre start trace c same pending =
    ap (λ (s : State). has_bits s.interrupt_identification 0x02) same
    ∙ thre_bit (is_pending Thre start trace) (is_pending Rda start trace) ∙ pending

served : (driver : Driver) (start : State) (before : Trace) (c : ConsoleState) (run : List Call) → IsAt start before c
    → in_one is_reset run c ≡ false → IsDriverRun driver start before (newest run c) → IsServed driver start before run c
served driver start before c run is kept runs =
    let there = next_law start before c run is kept in
    let reads = reads-iir driver start before c run is kept runs in
    let end = newest run c ++ before in
    record {
      to_take = λ held. interrupted-held run c kept (inl reads) held;
      to_send = λ some.
          interrupted-pending Thre run c kept (inl reads)
          (pending-at Thre start end (after_calls run c) there.port
          (asked_to_send_law driver start before (newest run c) runs some).pending);
      at_none = λ ends held enabled.
          pending-at Rda start end (after_calls run c) there.port
          (asked_to_take_law driver start before (newest run c) runs
          (record { after_none = timeout_law start before c run is kept; in_loop = inl ends })
          (subst (λ (s : State). IsTrue (not_empty s.in_buffer)) there.port held)
          (subst (λ (s : State). IsTrue (has_bits s.interrupt_enable (ier_bit Rda))) there.port enabled)).pending;
    }

each-served : (driver : Driver) (start : State) (before : Trace) (c : ConsoleState) (runs : List (List Call)) → IsAt start before c
    → AreRuns driver start before runs c → EachIsServed driver start before runs c
each-served driver start before c [] is are = tt
each-served driver start before c (run ∷ later) is (kept, runs, others) = (
  served driver start before c run is kept runs,
  each-served driver start (newest run c ++ before) (after_calls run c) later (next_law start before c run is kept) others,
)

-- ---- the bytes that are read out

one_byte : (kind : DecodedOp) (held : List ℕ) (byte : ℕ)
    → length (byte_read kind held (ByteRead byte)) ≡ length (read_out_by kind held)
one_byte RbrRead [] byte = refl
one_byte RbrRead (oldest ∷ held) byte = refl
one_byte _ held byte = grind arith

no_byte_of_write : (register : Register) (loopback : Bool) (value : ℕ) (held : List ℕ)
    → read_out_by (decode_write register loopback value) held ≡ []
no_byte_of_write register loopback value held = grind arith

no_byte_of_enqueue : (loopback : Bool) (bytes held : List ℕ)
    → read_out_by (if loopback then DecodedOp.Other else DecodedOp.RxInput bytes) held ≡ []
no_byte_of_enqueue loopback bytes held = grind arith

-- one entry more
counted : (start : State) (before : Trace) (op : Op) (left : ℕ) → length (read_out_by (decode_at start before op) (held_bytes start before)) ≡ left
    → length (read_out_bytes start (without_results op ∷ before)) ≡ length (read_out_bytes start before) + left
counted start before op left is =
    length-append (read_out_bytes start before) (read_out_by (decode_at start before op) (held_bytes start before))
    ∙ ap (λ n. length (read_out_bytes start before) + n) is

read-counted : (start : State) (before : Trace) (offset : ℕ) (none : Bool) (left : ℕ)
    → length (read_out_by (decode_at start before (Read offset)) (held_bytes start before)) ≡ left
    → length (read_out_bytes start (trace_with [] (Read offset ∷ (if none then CharacterTimeout ∷ [] else [])) ++ before))
    ≡ length (read_out_bytes start before) + left
read-counted start before offset true left is =
    counted start (without_results (Read offset) ∷ before) CharacterTimeout 0 refl
    ∙ omega (arith, counted start before (Read offset) left is)
read-counted start before offset false left is = counted start before (Read offset) left is

none_more : (n : ℕ) → n ≡ n + 0
none_more n = omega arith

call-counted : (start : State) (before : Trace) (c : ConsoleState) (call : Call) → IsAt start before c → is_reset call c ≡ false
    → length (read_out_bytes start (entries_of call c ++ before)) ≡ length (read_out_bytes start before) + length (left_at call c)
call-counted start before c (Reads offset) is kept =
    read-counted start before offset (answers_none offset (shown_at offset c.port)) (length (left_at (Reads offset) c))
    (sym (one_byte (decode_at start before (Read offset)) (held_bytes start before) (shown_at offset c.port))
    ∙ ap (λ (s : State). length (byte_read (decode_in s (Read offset)) s.in_buffer (ByteRead (shown_at offset c.port)))) (sym is.port))
call-counted start before c (Writes offset value) is kept =
    counted start before (Write offset value) 0
    (ap length (no_byte_of_write _ (loopback_after start before) value (held_bytes start before)))
call-counted start before c (Receives bytes) is kept =
    counted start before (Enqueue _) 0 (ap length (no_byte_of_enqueue (loopback_after start before) _ (held_bytes start before)))
call-counted start before c Turns is kept = counted start before CharacterTimeout 0 refl
call-counted start before c (Consumes count) is kept = none_more _
call-counted start before c Refuses is kept = none_more _
call-counted start before c Suspends is kept = none_more _
call-counted start before c (SetsPolled is_polled) is kept = none_more _
call-counted start before c Resets is kept = absurd (false≢true (sym kept))

run-counted : (start : State) (before : Trace) (c : ConsoleState) (calls : List Call) → IsAt start before c
    → in_one is_reset calls c ≡ false
    → length (read_out_bytes start (newest calls c ++ before)) ≡ length (read_out_bytes start before) + length (in_each left_at calls c)
run-counted start before c [] is kept = none_more _
run-counted start before c (call ∷ calls) is kept =
    let next = after call c in
    let first = entries_of call c in
    let kept_call = first_none (is_reset call c) _ kept in
    ap (λ (list : Trace). length (read_out_bytes start (list ++ before))) (newest-more call calls c)
    ∙ ap (λ (list : Trace). length (read_out_bytes start list)) (append_assoc (newest calls next) first before)
    ∙ run-counted start (first ++ before) next calls (at-call start before c call is kept_call) (later_none (is_reset call c) _ kept)
    ∙ omega (
      arith,
      call-counted start before c call is kept_call,
      length-append (left_at call c) (in_each left_at calls next),
    )

some_left : (left : List ℕ) (before after : ℕ) → after ≡ before + length left → before < after → IsTrue (not_empty left)
some_left [] before after is more = absurd (omega (arith, is, more))
some_left (byte ∷ left) before after is more = refl

each-takes : (driver : Driver) (start : State) (before : Trace) (c : ConsoleState) (runs : List (List Call)) → IsAt start before c
    → AreRuns driver start before runs c → EachTakes runs c
each-takes driver start before c [] is are = tt
each-takes driver start before c (run ∷ later) is (kept, runs, others) = (
  λ held.
      some_left (in_each left_at run c) (length (read_out_bytes start before)) (length (read_out_bytes start (newest run c ++ before)))
      (run-counted start before c run is kept)
      (runs.takes (subst (λ (s : State). IsTrue (not_empty s.in_buffer)) is.port held)),
  each-takes driver start (newest run c ++ before) (after_calls run c) later (next_law start before c run is kept) others,
)

-- ---- the law

are-runs : (driver : Driver) (start : State) (before : Trace) (c : ConsoleState) (runs : List (List Call))
    → AreRuns driver start before runs c → AreDriverRuns driver start before (runs_of runs c)
are-runs driver start before c [] are = tt
are-runs driver start before c (run ∷ later) (kept, runs, others) =
    (runs, are-runs driver start (newest run c ++ before) (after_calls run c) later others)

pub each_byte_is_through_law : EachByteIsThroughLaw
each_byte_is_through_law driver start before c runs is are = record {
  interrupted = each-served driver start before c runs is are;
  taken = taken_law runs c (each-takes driver start before c runs is are);
  sent = sent_in_runs_law driver start before (runs_of runs c) (are-runs driver start before c runs are);
}
