-- SPDX-License-Identifier: Apache-2.0 OR BSD-3-Clause
-- What the event loop is told: to wake, to come back, and to ask again.
use Rattle.std.proofs.Common.{◌≡◌, ℕ, Bool, true, false, not, ◌==◌, ◌&&◌, ◌||◌, ◌<◌, ◌-◌, length, ◌⊎◌, inl, inr, if◌then◌else◌, List, [], ◌∷◌, drop, zero, suc, refl, arith, IsTrue}
use Rattle.std.proofs.lemmas.Bool.{false≢true}
use Rattle.std.proofs.lemmas.Bool.Decides.{nat_tests}
use Rattle.superio_laws.specs.Serial.{State, has_bits, conditions_due, not_empty, step, Asked, Read, CharacterTimeout, RdaCoversHeldBytes, is_dlab, is_loopback, register_at, decode_read, is_iir_read}
use Rattle.superio_core.proofs.Lemmas.Serial.Step.{shows_held_bytes}
use Rattle.superio_console.specs.Console.{ConsoleState, Call, Reads, Writes, Consumes, Turns, Wants, retries, interrupts_of, wants_of, names_more, shown_at, answers_none, steps, after, wakes}
use Rattle.superio_console.specs.Laws.{after_calls, in_one, is_reset, asks_again, reads_iir, NamesMore, WakeLaw, NoNeedlessWakeLaw, ConsumeLaw, CoveredLaw, HeldLaw, RefusedLaw, RetryLaw, KeptLaw}
use Rattle.superio_console.proofs.Lemmas.Port.{later_none}

-- ---- waking

new_or_named : (old middle new : Bool) → IsTrue (not old && new) → IsTrue ((not old && middle) || (not middle && new))
new_or_named old middle new is = grind arith

names-then : (old middle new : Wants) → IsTrue (names_more old new) → IsTrue (names_more old middle || names_more middle new)
names-then old middle new is = grind arith

either : (first later other : Bool) → IsTrue (first || later) → (IsTrue later → IsTrue other) → IsTrue (first || other)
either true later other is so = refl
either false later other is so = so is

names-none : (wants : Wants) → IsTrue (names_more wants wants) → IsTrue false
names-none wants is = grind arith

wakes-run : (calls : List Call) (c : ConsoleState) → IsTrue (names_more (wants_of c) (wants_of (after_calls calls c)))
    → IsTrue (in_one wakes calls c)
wakes-run [] c more = names-none (wants_of c) more
wakes-run (call ∷ later) c more =
    let next = after call c in
    either (wakes call c) (names_more (wants_of next) (wants_of (after_calls later next))) (in_one wakes later next)
    (names-then (wants_of c) (wants_of next) (wants_of (after_calls later next)) more)
    (λ newer. wakes-run later next newer)

-- the test says whether the wants name something more
input_named : (old new : ℕ) → old ≡ 0 → 0 < new → IsTrue ((old == 0) && not (new == 0))
input_named old new none some = grind (arith, nat_tests)

named_input : (old new : ℕ) → IsTrue ((old == 0) && not (new == 0)) → (old ≡ 0) × (0 < new)
named_input old new is = (grind (arith, nat_tests), grind (arith, nat_tests))

flag_named : (old new : Bool) → old ≡ false → new ≡ true → IsTrue (not old && new)
flag_named old new none some = grind arith

named_flag : (old new : Bool) → IsTrue (not old && new) → (old ≡ false) × (new ≡ true)
named_flag old new is = (grind arith, grind arith)

one_of : (first second third : Bool) → IsTrue first ⊎ IsTrue second ⊎ IsTrue third → IsTrue (first || second || third)
one_of true second third is = refl
one_of false true third is = refl
one_of false false true is = refl
one_of false false false (inl is) = is
one_of false false false (inr (inl is)) = is
one_of false false false (inr (inr is)) = is

one_is : (first second third : Bool) → IsTrue (first || second || third) → IsTrue first ⊎ IsTrue second ⊎ IsTrue third
one_is true second third is = inl refl
one_is false true third is = inr (inl refl)
one_is false false true is = inr (inr refl)
one_is false false false is = absurd (false≢true is)

named : (old new : Wants) → NamesMore old new → IsTrue (names_more old new)
named old new more = one_of _ (not old.output && new.output) (not old.turn && new.turn) (parts more) where
  parts : NamesMore old new → IsTrue ((old.input == 0) && not (new.input == 0)) ⊎ IsTrue (not old.output && new.output) ⊎ IsTrue (not old.turn && new.turn)
  parts (inl (none, some)) = inl (input_named old.input new.input none some)
  parts (inr (inl (none, some))) = inr (inl (flag_named old.output new.output none some))
  parts (inr (inr (none, some))) = inr (inr (flag_named old.turn new.turn none some))

names : (old new : Wants) → IsTrue (names_more old new) → NamesMore old new
names old new more = parts (one_is _ (not old.output && new.output) (not old.turn && new.turn) more) where
  parts : IsTrue ((old.input == 0) && not (new.input == 0)) ⊎ IsTrue (not old.output && new.output) ⊎ IsTrue (not old.turn && new.turn) → NamesMore old new
  parts (inl is) = inl (named_input old.input new.input is)
  parts (inr (inl is)) = inr (inl (named_flag old.output new.output is))
  parts (inr (inr is)) = inr (inr (named_flag old.turn new.turn is))

pub wake_law : WakeLaw
wake_law calls c more = wakes-run calls c (named (wants_of c) (wants_of (after_calls calls c)) more)

pub no_needless_wake_law : NoNeedlessWakeLaw
no_needless_wake_law call c is = names (wants_of c) (wants_of (after call c)) is

not_empty-drop : (count : ℕ) (bytes : List ℕ) → (not (not_empty bytes) && not_empty (drop count bytes)) ≡ false
not_empty-drop zero [] = refl
not_empty-drop (suc count) [] = refl
not_empty-drop count (byte ∷ bytes) = refl

same_wants : (old new : ℕ) (turn more : Bool) → new ≡ old → more ≡ false
    → ((((old == 0) && not (new == 0)) || more) || (not turn && turn)) ≡ false
same_wants old new turn more same none = grind (arith, nat_tests)

same_room : (ready polled asleep loopback : Bool) (room : ℕ)
    → (if (((ready || false) || polled) && not (asleep && not false)) && not loopback then room else 0)
    ≡ (if ((ready || polled) && not asleep) && not loopback then room else 0)
same_room ready polled asleep loopback room = grind arith

pub consume_law : ConsumeLaw
consume_law count c =
    same_wants (wants_of c).input (wants_of (after (Consumes count) c)).input (wants_of c).turn
    (not (not_empty c.output) && not_empty (drop count c.output))
    (same_room c.is_ready c.is_polled c.is_asleep (is_loopback c.port.modem_control) (64 - length c.port.in_buffer))
    (not_empty-drop count c.output)

-- ---- no byte waits

covered-read : (none : Bool) (read : State) → IsTrue none
    → RdaCoversHeldBytes (steps (if none then CharacterTimeout ∷ [] else []) read)
covered-read true read is = shows_held_bytes read Asked.Nothing
covered-read false read is = absurd (false≢true is)

-- IIR is at offset 2
at_two : (dlab : Bool) (offset : ℕ) → IsTrue (is_iir_read (decode_read (register_at dlab offset))) → (offset == 2) ≡ true
at_two dlab offset reads = grind (arith, nat_tests)

both_are : (one other : Bool) → one ≡ true → other ≡ true → IsTrue (one && other)
both_are one other is also = grind arith

pub covered_law : CoveredLaw
covered_law c = (
  shows_held_bytes c.port Asked.Nothing,
  λ offset reads none.
      covered-read (answers_none offset (shown_at offset c.port)) (step c.port (Read offset) Asked.Nothing)
      (both_are (offset == 2) (has_bits (shown_at offset c.port) 0x01) (at_two (is_dlab c.port.line_control) offset reads) none),
)

both_then : (held enabled refused : Bool) → IsTrue held → IsTrue enabled → IsTrue ((held && enabled) || refused)
both_then held enabled refused is on = grind arith

pub held_law : HeldLaw
held_law c held enabled = both_then _ _ _ held enabled

refused_then : (waiting refused up : Bool) → IsTrue refused → IsTrue up → IsTrue (waiting || (refused && up))
refused_then waiting refused up is on = grind arith

pub refused_law : RefusedLaw
refused_law c refused up = refused_then _ _ _ refused up

-- ---- asking again

-- a call that retries after a refusal asks for what is due
pub retried : (call : Call) (c : ConsoleState) → IsTrue c.is_refused → IsTrue (retries call)
    → interrupts_of call c ≡ length (conditions_due (after call c).port)
retried call c refused retries_now = grind arith

pub retry_law : RetryLaw
retry_law c refused = (retried Turns c refused refl, λ value. retried (Writes 1 value) c refused refl)

-- IIR is at offset 2
at_iir : (dlab : Bool) (offset : ℕ) → is_iir_read (decode_read (register_at dlab offset)) ≡ false → (offset == 2) ≡ false
at_iir dlab offset unread = grind (arith, nat_tests)

kept_read : (at refused : Bool) → at ≡ false → IsTrue refused → IsTrue (if at then false else refused)
kept_read at refused none is = grind arith

pub kept_call : (call : Call) (c : ConsoleState) → IsTrue c.is_refused → is_reset call c ≡ false → reads_iir call c ≡ false
    → asks_again call c ≡ false → IsTrue (after call c).is_refused
kept_call (Reads offset) c refused no_reset unread no_ask =
    kept_read (offset == 2) c.is_refused (at_iir (is_dlab c.port.line_control) offset unread) refused
kept_call call c refused no_reset unread no_ask = grind arith

first_none : (first later : Bool) → (first || later) ≡ false → first ≡ false
first_none first later none = grind arith

pub kept_law : KeptLaw
kept_law [] c refused no_reset unread no_ask = refused
kept_law (call ∷ later) c refused no_reset unread no_ask =
    kept_law later (after call c)
    (kept_call call c refused (first_none (is_reset call c) _ no_reset) (first_none (reads_iir call c) _ unread)
    (first_none (asks_again call c) _ no_ask))
    (later_none (is_reset call c) _ no_reset) (later_none (reads_iir call c) _ unread) (later_none (asks_again call c) _ no_ask)
