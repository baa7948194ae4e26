-- SPDX-License-Identifier: Apache-2.0 OR BSD-3-Clause
-- Accesses that change little of what the event loop waits for.
use Rattle.std.proofs.Common.{◌≡◌, ◌-◌, ◌==◌, ℕ, Bool, true, false, not, ◌&&◌, ◌||◌, nat_lt, if◌then◌else◌, ◌+◌, List, [], ◌∷◌, length, length-append, take, refl, sym, ap, subst, ◌∙◌, arith, IsTrue}
use Rattle.std.proofs.lemmas.Bool.{false≢true}
use Rattle.std.proofs.lemmas.Bool.Decides.{nat_tests}
use Rattle.superio_core.proofs.Lemmas.{and-without, and-without-apart}
use Rattle.superio_laws.specs.Serial.{State, receive_bytes, enqueued_bytes, Write, step_calls, conditions_due, CharacterTimeout, Register, Data, Iir, Rda, has_bits, without_bits}
use Rattle.superio_laws.specs.Serial.{not_empty, register_at, is_dlab, is_loopback, irq_level, rbr_read, read_step, write_step, Asked, sent_by, decode_write, iir_none_bit}
use Rattle.superio_core.specs.Serial.Step.{iir_after_lower}
use Rattle.superio_laws.proofs.Lemmas.Serial.Laws.OneCall.{received_bytes}
use Rattle.superio_console.specs.Console.{ConsoleState, Wants, Work, Call, Reads, Writes, wants_of, names_more, owes_turn, Receives, input_room, is_open, shown_at, answers_none, steps, port_after, after, interrupts_of, wakes, work_of}

-- ---- wants that are alike

no-more : (none output turn : Bool) → ((none && not none) || (not output && output) || (not turn && turn)) ≡ false
no-more none output turn = grind arith

pub same-wants : (old new : Wants) → old ≡ new → names_more old new ≡ false
same-wants old new same = subst (λ (wants : Wants). names_more old wants ≡ false) same (no-more (old.input == 0) old.output old.turn)

-- ---- a write at another offset than those of THR, IER and MCR

-- the parts of a port that the wants look at
record KeepsAll (old new : State) : Type 0 where
  in_buffer : new.in_buffer ≡ old.in_buffer
  interrupt_enable : new.interrupt_enable ≡ old.interrupt_enable
  interrupt_identification : new.interrupt_identification ≡ old.interrupt_identification
  modem_control : new.modem_control ≡ old.modem_control

elsewhere : (dlab : Bool) (offset value : ℕ) (s : State) → (offset == 0) ≡ false → (offset == 1) ≡ false → (offset == 4) ≡ false
    → KeepsAll s (write_step (register_at dlab offset) value Asked.Nothing s)
elsewhere dlab offset value s other_than_0 other_than_1 other_than_4 = grind arith

sends-none : (dlab loopback : Bool) (offset value : ℕ) → (offset == 0) ≡ false
    → sent_by (decode_write (register_at dlab offset) loopback value) ≡ []
sends-none dlab loopback offset value other_than_0 = grind arith

or-parts : (a b c : Bool) → (a || b || c) ≡ false → (a ≡ false) × (b ≡ false) × (c ≡ false)
or-parts a b c none = grind arith

pub write-elsewhere : (offset value : ℕ) (c : ConsoleState) → ((offset == 0) || (offset == 1) || (offset == 4)) ≡ false
    → wakes (Writes offset value) c ≡ false
write-elsewhere offset value c other =
    let others = or-parts (offset == 0) (offset == 1) (offset == 4) other in
    let kept = elsewhere (is_dlab c.port.line_control) offset value c.port others.0 others.1 others.2 in
    let none = sends-none (is_dlab c.port.line_control) (is_loopback c.port.modem_control) offset value others.0 in
    same-wants (wants_of c) (wants_of (after (Writes offset value) c)) (grind (arith, kept, none, others))

-- such a write asks again for nothing
no-retry : (refused retries : Bool) (due calls : ℕ) → retries ≡ false → calls ≡ (if refused && retries then due else calls + 0)
no-retry refused retries due calls none = grind arith

pub calls-elsewhere : (offset value : ℕ) (c : ConsoleState) → ((offset == 0) || (offset == 1) || (offset == 4)) ≡ false
    → step_calls c.port (Write offset value) ≡ interrupts_of (Writes offset value) c
calls-elsewhere offset value c other =
    no-retry c.is_refused (offset == 1) (length (conditions_due (port_after (Writes offset value) c))) (step_calls c.port (Write offset value))
    (or-parts (offset == 0) (offset == 1) (offset == 4) other).1

-- ---- a read

-- to lower RDA sets no bit of THRE's
lowered-thre : (identification : ℕ) (none : Bool) → (without_bits identification 0x04 == 0) ≡ none
    → IsTrue (has_bits (if none then 0x01 else without_bits identification 0x04) 0x02) → IsTrue (has_bits identification 0x02)
unfolding has_bits
lowered-thre identification true is set = absurd (false≢true set)
lowered-thre identification false is set = ap (λ n. n == 0x02) (sym (and-without-apart identification 0x04 0x02 refl)) ∙ set

lowered-rda : (identification : ℕ) (none : Bool) → (without_bits identification 0x04 == 0) ≡ none
    → has_bits (if none then 0x01 else without_bits identification 0x04) 0x04 ≡ false
unfolding has_bits
lowered-rda identification true is = refl
lowered-rda identification false is = ap (λ n. n == 0x04) (and-without identification 0x04)

still-up : (old_thre thre old_rda rda enable_thre enable_rda : Bool) → (IsTrue thre → IsTrue old_thre) → rda ≡ false
    → IsTrue ((thre && enable_thre) || (rda && enable_rda)) → IsTrue ((old_thre && enable_thre) || (old_rda && enable_rda))
still-up true thre old_rda rda true enable_rda kept none up = refl
still-up true true old_rda false false enable_rda kept none up = absurd (false≢true up)
still-up true false old_rda false false enable_rda kept none up = absurd (false≢true up)
still-up true thre old_rda true false enable_rda kept none up = absurd (false≢true (sym none))
still-up false true old_rda rda enable_thre enable_rda kept none up = absurd (false≢true (kept refl))
still-up false false old_rda false enable_thre enable_rda kept none up = absurd (false≢true up)
still-up false false old_rda true enable_thre enable_rda kept none up = absurd (false≢true (sym none))

-- it pulls the line up for nothing
up-before : (s : State) → IsTrue (irq_level (rbr_read s)) → IsTrue (irq_level s)
up-before s up =
    let identification = s.interrupt_identification in
    still-up (has_bits identification 0x02) (has_bits (iir_after_lower Rda identification) 0x02)
    (has_bits identification 0x04) (has_bits (iir_after_lower Rda identification) 0x04)
    (has_bits s.interrupt_enable 0x02) (has_bits s.interrupt_enable 0x01)
    (lowered-thre identification (without_bits identification 0x04 == 0) refl)
    (lowered-rda identification (without_bits identification 0x04 == 0) refl) up

-- what a read leaves, whether or not a character timeout follows it
read-settings : (none : Bool) (register : Register) (s : State) → let new = steps (if none then CharacterTimeout ∷ [] else []) (read_step register s) in
    (new.interrupt_enable ≡ s.interrupt_enable) × (new.modem_control ≡ s.modem_control) × (new.in_buffer ≡ (read_step register s).in_buffer)
read-settings none register s = grind arith

held-elsewhere : (dlab : Bool) (offset : ℕ) (s : State) → (offset == 0) ≡ false → (read_step (register_at dlab offset) s).in_buffer ≡ s.in_buffer
held-elsewhere dlab offset s other = grind arith

some-before : (register : Register) (s : State) → IsTrue (not_empty (read_step register s).in_buffer) → IsTrue (not_empty s.in_buffer)
some-before register s some = grind arith

line-before : (register : Register) (s : State) → IsTrue (irq_level (read_step register s)) → IsTrue (irq_level s)
unfolding has_bits
line-before Data s up = up-before s up
line-before Iir s up = absurd (false≢true up)
line-before _ s up = up

-- ---- what a read wakes for: a full FIFO that has room now

open-alike : (ready polled asleep loopback : Bool) (room : ℕ)
    → (if ((ready || false) || polled) && not (asleep && not false) && not loopback then room else 0)
    ≡ (if (ready || polled) && not asleep && not loopback then room else 0)
open-alike ready polled asleep loopback room = grind arith

input-part : (zero is_taking : Bool) (held left : ℕ) → (zero ≡ false → left ≡ held)
    → (((if is_taking then 64 - held else 0) == 0) && not ((if is_taking then 64 - left else 0) == 0))
    ≡ ((zero && (64 - held == 0)) && nat_lt 0 (if is_taking then 64 - left else 0))
input-part true is_taking held left kept = grind (arith, nat_tests)
input-part false is_taking held left kept = rw (kept refl) (grind (arith, nat_tests))

turn-part : (two held left enabled refused line up : Bool) → (IsTrue left → IsTrue held)
    → (two ≡ false → IsTrue up → IsTrue line)
    → IsTrue ((left && enabled) || ((if two then false else refused) && up)) → IsTrue ((held && enabled) || (refused && line))
turn-part two true left true refused line up some down turn = refl
turn-part two false true enabled refused line up some down turn = absurd (false≢true (some refl))
turn-part two held left enabled true true up some down turn = grind arith
turn-part two held left enabled refused false true some down turn = grind arith
turn-part two held left enabled refused line up some down turn = grind arith

only-input : (input old_output output old_turn turn : Bool) → output ≡ old_output → (IsTrue turn → IsTrue old_turn)
    → (input || (not old_output && output) || (not old_turn && turn)) ≡ input
only-input input true output true turn same before = grind arith
only-input input true output false false same before = grind arith
only-input input true output false true same before = absurd (false≢true (before refl))
only-input input false true old_turn turn same before = absurd (false≢true (sym same))
only-input input false false true turn same before = grind arith
only-input input false false false false same before = grind arith
only-input input false false false true same before = absurd (false≢true (before refl))

pub read-wakes : (offset : ℕ) (c : ConsoleState)
    → wakes (Reads offset) c ≡ (((offset == 0) && (64 - length c.port.in_buffer == 0)) && nat_lt 0 (input_room (after (Reads offset) c)))
read-wakes offset c =
    let s = c.port in
    let register = register_at (is_dlab s.line_control) offset in
    let read = read_step register s in
    let none = answers_none offset (shown_at offset s) in
    let new = port_after (Reads offset) c in
    let kept = read-settings none register s in
    let taken : Bool = is_open c && not (is_loopback s.modem_control) in
    let room : input_room (after (Reads offset) c) ≡ (if taken then 64 - length new.in_buffer else 0) =
    ap (λ control. if is_open (after (Reads offset) c) && not (is_loopback control) then 64 - length new.in_buffer else 0) kept.1
    ∙ open-alike c.is_ready c.is_polled c.is_asleep (is_loopback s.modem_control) (64 - length new.in_buffer) in
    let held : (offset == 0) ≡ false → length new.in_buffer ≡ length s.in_buffer =
    (λ other. ap length (kept.2 ∙ held-elsewhere (is_dlab s.line_control) offset s other)) in
    let input = ap (λ room. (input_room c == 0) && not (room == 0)) room ∙ input-part (offset == 0) taken (length s.in_buffer) (length new.in_buffer) held
    ∙ ap (λ room. ((offset == 0) && (64 - length s.in_buffer == 0)) && nat_lt 0 room) (sym room) in
    let some : IsTrue (not_empty new.in_buffer) → IsTrue (not_empty s.in_buffer) =
    (λ some. some-before register s (subst (λ bytes. IsTrue (not_empty bytes)) kept.2 some)) in
    let down : (offset == 2) ≡ false → IsTrue (irq_level new) → IsTrue (irq_level s) =
    (λ other up. line-before register s (subst (λ two. IsTrue (irq_level (steps (if two && has_bits (shown_at offset s) iir_none_bit then CharacterTimeout ∷ [] else []) read))) other up)) in
    let turn : IsTrue (wants_of (after (Reads offset) c)).turn → IsTrue (wants_of c).turn =
    (λ owed. turn-part (offset == 2) (not_empty s.in_buffer) (not_empty new.in_buffer) (has_bits s.interrupt_enable 0x01) c.is_refused
    (irq_level s) (irq_level new) some down
    (subst (λ enable. IsTrue ((not_empty new.in_buffer && has_bits enable 0x01) || ((if offset == 2 then false else c.is_refused) && irq_level new))) kept.0 owed)) in
    only-input ((input_room c == 0) && not (input_room (after (Reads offset) c) == 0)) (not_empty c.output) (not_empty c.output)
    (wants_of c).turn (wants_of (after (Reads offset) c)).turn refl turn
    ∙ input

-- ---- what input wakes for: a turn

-- the room does not grow, since what arrives is held behind the other bytes
room-shrinks : (ready polled asleep loopback : Bool) (held arrived : ℕ) →
    (((if (ready || polled) && not asleep && not loopback then 64 - held else 0) == 0)
    && not ((if ((ready || false) || polled) && not (asleep && not false) && not loopback then 64 - (held + arrived) else 0) == 0)) ≡ false
room-shrinks ready polled asleep loopback held arrived = grind (arith, nat_tests)

kept-control : (bytes : List ℕ) (s : State) → (receive_bytes bytes s).modem_control ≡ s.modem_control
kept-control bytes s = grind arith

more-held : (bytes : List ℕ) (s : State) → length (receive_bytes bytes s).in_buffer ≡ length s.in_buffer + length bytes
more-held bytes s = ap length (received_bytes bytes s) ∙ length-append s.in_buffer bytes

only-turn : (input output turn : Bool) → input ≡ false → (input || (not output && output) || turn) ≡ turn
only-turn input output turn none = grind arith

pub receive-wakes : (bytes : List ℕ) (c : ConsoleState)
    → wakes (Receives bytes) c ≡ (not (owes_turn c) && owes_turn (after (Receives bytes) c))
receive-wakes bytes c =
    let s = c.port in
    let arrived = enqueued_bytes s (take (input_room c) bytes) in
    let next = after (Receives bytes) c in
    let loopback = is_loopback s.modem_control in
    let room : input_room next ≡ (if is_open next && not loopback then 64 - (length s.in_buffer + length arrived) else 0) =
    ap (λ control. if is_open next && not (is_loopback control) then 64 - length next.port.in_buffer else 0) (kept-control arrived s)
    ∙ ap (λ n. if is_open next && not loopback then 64 - n else 0) (more-held arrived s) in
    only-turn ((input_room c == 0) && not (input_room next == 0)) (not_empty c.output) (not (owes_turn c) && owes_turn next)
    (ap (λ room. (input_room c == 0) && not (room == 0)) room
    ∙ room-shrinks c.is_ready c.is_polled c.is_asleep loopback (length s.in_buffer) (length arrived))

-- ---- the work of a call

pub work-is : (call : Call) (c : ConsoleState) (interrupts : ℕ) (is_up woken : Bool) → interrupts ≡ interrupts_of call c
    → is_up ≡ irq_level (port_after call c) → woken ≡ wakes call c
    → ◌≡◌ {A = Work} (record { interrupts = interrupts; is_up = is_up; wakes = woken }) (work_of call c)
work-is call c interrupts is_up woken asked up wakes = rw (asked, up, wakes) refl
