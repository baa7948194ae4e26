-- SPDX-License-Identifier: Apache-2.0 OR BSD-3-Clause
-- What is pending was raised and not refused, or the next turn asks for it.
use Rattle.std.proofs.Common.{◌≡◌, ℕ, ◌+◌, ◌<◌, Bool, true, false, not, ◌==◌, ◌&&◌, ◌||◌, if◌then◌else◌, inl, inr, ◌⊎◌, List, [], ◌∷◌, length, zero, suc, refl, sym, ap, subst, ◌∙◌, arith, IsTrue}
use Rattle.std.proofs.lemmas.Bool.{false≢true}
use Rattle.std.proofs.lemmas.Bool.Decides.{nat_tests}
use Rattle.superio_core.proofs.Lemmas.Serial.Step.{by_kind, shows_held_bytes, up_while_due}
use Rattle.superio_core.specs.declared.serial.registers.Register.TheVariants.{Ier}
use Rattle.superio_laws.specs.Serial.{State, Asked, Read, CharacterTimeout, Condition, Rda, Thre, Register, Timeout, has_bits, with_bits, without_bits, only_bits, ier_bits, RdaCoversHeldBytes}
use Rattle.superio_laws.specs.Serial.{iir_bit, ier_bit, not_empty, irq_level, conditions_due, is_iir_read, is_dlab, register_at, decode_read, receive_bytes, read_step, write_step, step, step_calls}
use Rattle.superio_laws.proofs.Lemmas.Serial.Laws.OneCall.{bits, rda_left}
use Rattle.superio_console.specs.Console.{ConsoleState, Call, Reads, Writes, Receives, Consumes, Turns, Refuses, Resets, Suspends, SetsPolled, shown_at, answers_none, retries, steps, steps_calls, after, interrupts_of}
use Rattle.superio_console.specs.Laws.{after_calls, in_one, is_reset, asks, reads_iir, is_refusal, is_enabled, is_shown, IsRaised, IsDue, IsInterrupted, PendingLaw, WaitingLaw}
use Rattle.superio_console.proofs.Lemmas.Port.{first_none, later_none}
use Rattle.superio_console.proofs.Lemmas.Asked.{call-clear, clear-run, steps-clear}
use Rattle.superio_console.proofs.Lemmas.Turns.{held_law, refused_law, retried, kept_call}

-- ---- a refusal

some_asked : (n : ℕ) → IsTrue (not (n == 0)) → 0 < n
some_asked n some = grind (arith, nat_tests)

none_due : (retries : Bool) (asked due : ℕ) → (IsTrue retries → asked ≡ due) → not (asked == 0) ≡ false
    → (retries && not (due == 0)) ≡ false
none_due true asked due same none = ap (λ due. not (due == 0)) (sym (same refl)) ∙ none
none_due false asked due same none = refl

refused-run : (calls : List Call) (c : ConsoleState) → IsTrue c.is_refused → in_one is_reset calls c ≡ false
    → in_one reads_iir calls c ≡ false → in_one asks calls c ≡ false → IsTrue (after_calls calls c).is_refused
refused-run [] c refused no_reset unread quiet = refused
refused-run (call ∷ later) c refused no_reset unread quiet =
    refused-run later (after call c)
    (kept_call call c refused (first_none (is_reset call c) _ no_reset) (first_none (reads_iir call c) _ unread)
    (none_due (retries call) (interrupts_of call c) (length (conditions_due (after call c).port)) (retried call c refused)
    (first_none (asks call c) _ quiet)))
    (later_none (is_reset call c) _ no_reset) (later_none (reads_iir call c) _ unread) (later_none (asks call c) _ quiet)

refused-by : (call : Call) (c : ConsoleState) → IsTrue (is_refusal call c) → IsTrue (after call c).is_refused
refused-by call c is = grind arith

first_or : (first later : Bool) → IsTrue (first || later) → later ≡ false → IsTrue first
first_or first later some none = grind arith

refused-either : (call : Call) (later : List Call) (c : ConsoleState) (more : Bool) → in_one is_refusal later (after call c) ≡ more
    → IsTrue (in_one is_refusal (call ∷ later) c) → in_one is_reset later (after call c) ≡ false
    → in_one reads_iir later (after call c) ≡ false → in_one asks later (after call c) ≡ false
    → (IsTrue (in_one is_refusal later (after call c)) → IsTrue (after_calls later (after call c)).is_refused)
    → IsTrue (after_calls later (after call c)).is_refused
refused-either call later c true is some no_reset unread quiet rest = rest is
refused-either call later c false is some no_reset unread quiet rest =
    refused-run later (after call c) (refused-by call c (first_or (is_refusal call c) _ some is)) no_reset unread quiet

-- after the last refusal nothing asks, and IIR is not read
refused-last : (calls : List Call) (c : ConsoleState) → IsTrue (in_one is_refusal calls c) → in_one is_reset calls c ≡ false
    → in_one reads_iir calls c ≡ false → in_one asks calls c ≡ false → IsTrue (after_calls calls c).is_refused
refused-last [] c some no_reset unread quiet = absurd (false≢true some)
refused-last (call ∷ later) c some no_reset unread quiet =
    let kept = later_none (is_reset call c) _ no_reset in
    let unread_later = later_none (reads_iir call c) _ unread in
    let quiet_later = later_none (asks call c) _ quiet in
    refused-either call later c (in_one is_refusal later (after call c)) refl some kept unread_later quiet_later
    (λ more. refused-last later (after call c) more kept unread_later quiet_later)

-- ---- the last call that asks

with-call : (call : Call) (later : List Call) (c : ConsoleState) → IsRaised later (after call c) → IsRaised (call ∷ later) c
with-call call later c at = record {
  earlier = call ∷ at.earlier;
  call = at.call;
  later = at.later;
  place = ap (λ (calls : List Call). call ∷ calls) at.place;
  asked = at.asked;
  unread = at.unread;
  taken = at.taken;
}

abbrev Raised : (calls : List Call) (c : ConsoleState) → Type 0
Raised calls c = IsRaised calls c ⊎ IsTrue (after_calls calls c).is_refused

raised-more : (call : Call) (later : List Call) (c : ConsoleState) → Raised later (after call c) → Raised (call ∷ later) c
raised-more call later c (inl at) = inl (with-call call later c at)
raised-more call later c (inr refused) = inr refused

-- this call is the last that asks
last-here : (call : Call) (later : List Call) (c : ConsoleState) → IsTrue (asks call c) → in_one asks later (after call c) ≡ false
    → in_one is_reset later (after call c) ≡ false → in_one reads_iir later (after call c) ≡ false → Raised (call ∷ later) c
last-here call later c some quiet no_reset unread = by-refusal (in_one is_refusal later (after call c)) refl where
  by-refusal : (refused : Bool) → in_one is_refusal later (after call c) ≡ refused → Raised (call ∷ later) c
  by-refusal true is = inr (refused-last later (after call c) is no_reset unread quiet)
  by-refusal false is =
      inl (record {
        earlier = [];
        call = call;
        later = later;
        place = refl;
        asked = some_asked (interrupts_of call c) some;
        unread = unread;
        taken = is;
      })

last-or-later : (call : Call) (later : List Call) (c : ConsoleState) (more : Bool) → in_one asks later (after call c) ≡ more
    → IsTrue (in_one asks (call ∷ later) c) → in_one is_reset later (after call c) ≡ false
    → in_one reads_iir later (after call c) ≡ false
    → (IsTrue (in_one asks later (after call c)) → Raised later (after call c)) → Raised (call ∷ later) c
last-or-later call later c true is some no_reset unread rest = raised-more call later c (rest is)
last-or-later call later c false is some no_reset unread rest =
    last-here call later c (first_or (asks call c) _ some is) is no_reset unread

last-asks : (call : Call) (later : List Call) (c : ConsoleState) → IsTrue (in_one asks (call ∷ later) c)
    → in_one is_reset later (after call c) ≡ false → in_one reads_iir later (after call c) ≡ false → Raised (call ∷ later) c
last-asks call [] c some no_reset unread = last-here call [] c (first_or (asks call c) false some refl) refl no_reset unread
last-asks call (next ∷ rest) c some no_reset unread =
    last-or-later call (next ∷ rest) c (in_one asks (next ∷ rest) (after call c)) refl some no_reset unread
    (λ more. last-asks next rest (after call c) more (later_none (is_reset next (after call c)) _ no_reset)
    (later_none (reads_iir next (after call c)) _ unread))

-- ---- what is pending in the end was asked for since the last read of IIR

iir_is_none : (register : Register) (s : State) → IsTrue (is_iir_read (decode_read register))
    → (read_step register s).interrupt_identification ≡ 1
iir_is_none register s reads = grind arith

none_set : (condition : Condition) → has_bits 1 (iir_bit condition) ≡ false
unfolding has_bits
none_set Rda = refl
none_set Thre = refl

never : (refused : Bool) (due first later : ℕ) → (if refused && false then due else first + later) ≡ 0 → later ≡ 0
never refused due first later none = grind arith

read-clear : (condition : Condition) (call : Call) (c : ConsoleState) → IsTrue (reads_iir call c) → interrupts_of call c ≡ 0
    → has_bits (after call c).port.interrupt_identification (iir_bit condition) ≡ false
read-clear condition (Reads offset) c reads none =
    let ops = if answers_none offset (shown_at offset c.port) then CharacterTimeout ∷ [] else [] in
    let read = step c.port (Read offset) Asked.Nothing in
    steps-clear condition read ops (never c.is_refused _ (step_calls c.port (Read offset)) (steps_calls ops read) none)
    (ap (λ byte. has_bits byte (iir_bit condition)) (iir_is_none (register_at (is_dlab c.port.line_control) offset) c.port reads)
    ∙ none_set condition)
read-clear condition (Writes offset value) c reads none = absurd (false≢true reads)
read-clear condition (Receives bytes) c reads none = absurd (false≢true reads)
read-clear condition (Consumes count) c reads none = absurd (false≢true reads)
read-clear condition Turns c reads none = absurd (false≢true reads)
read-clear condition Refuses c reads none = absurd (false≢true reads)
read-clear condition Resets c reads none = absurd (false≢true reads)
read-clear condition Suspends c reads none = absurd (false≢true reads)
read-clear condition (SetsPolled is_polled) c reads none = absurd (false≢true reads)

asks_none : (n : ℕ) → not (n == 0) ≡ false → n ≡ 0
asks_none n none = grind (arith, nat_tests)

-- IIR is read in these calls, or the condition is not pending at first
abbrev Since : (condition : Condition) (calls : List Call) (c : ConsoleState) → Type 0
Since condition calls c = IsTrue (in_one reads_iir calls c) ⊎ (is_shown condition c ≡ false)

-- then it is not pending after a first call that does not ask
first-clear : (condition : Condition) (call : Call) (later : List Call) (c : ConsoleState) → is_reset call c ≡ false
    → interrupts_of call c ≡ 0 → in_one reads_iir later (after call c) ≡ false → Since condition (call ∷ later) c
    → is_shown condition (after call c) ≡ false
first-clear condition call later c kept none unread (inl reads) =
    read-clear condition call c (first_or (reads_iir call c) _ reads unread) none
first-clear condition call later c kept none unread (inr clear) = call-clear condition call c kept none clear

since-last : (condition : Condition) (call : Call) (later : List Call) (c : ConsoleState)
    → in_one is_reset (call ∷ later) c ≡ false → in_one reads_iir later (after call c) ≡ false → Since condition (call ∷ later) c
    → IsTrue (is_shown condition (after_calls later (after call c))) → Raised (call ∷ later) c
since-last condition call later c no_reset unread since pending = by-asks (in_one asks (call ∷ later) c) refl where
  kept : in_one is_reset later (after call c) ≡ false
  kept = later_none (is_reset call c) _ no_reset

  by-asks : (some : Bool) → in_one asks (call ∷ later) c ≡ some → Raised (call ∷ later) c
  by-asks true some = last-asks call later c some kept unread
  by-asks false quiet =
      absurd (false≢true (sym (clear-run condition later (after call c) kept (later_none (asks call c) _ quiet)
      (first-clear condition call later c (first_none (is_reset call c) _ no_reset)
      (asks_none (interrupts_of call c) (first_none (asks call c) _ quiet)) unread since)) ∙ pending))

since-or-later : (condition : Condition) (call : Call) (later : List Call) (c : ConsoleState) (more : Bool)
    → in_one reads_iir later (after call c) ≡ more → in_one is_reset (call ∷ later) c ≡ false → Since condition (call ∷ later) c
    → IsTrue (is_shown condition (after_calls later (after call c)))
    → (IsTrue (in_one reads_iir later (after call c)) → Raised later (after call c)) → Raised (call ∷ later) c
since-or-later condition call later c true is no_reset since pending rest = raised-more call later c (rest is)
since-or-later condition call later c false is no_reset since pending rest =
    since-last condition call later c no_reset is since pending

raised-since : (condition : Condition) (calls : List Call) (c : ConsoleState) → in_one is_reset calls c ≡ false
    → Since condition calls c → IsTrue (is_shown condition (after_calls calls c)) → Raised calls c
raised-since condition [] c no_reset (inl reads) pending = absurd (false≢true reads)
raised-since condition [] c no_reset (inr clear) pending = absurd (false≢true (sym clear ∙ pending))
raised-since condition (call ∷ later) c no_reset since pending =
    since-or-later condition call later c (in_one reads_iir later (after call c)) refl no_reset since pending
    (λ more. raised-since condition later (after call c) (later_none (is_reset call c) _ no_reset) (inl more) pending)

-- ---- a turn, and a write that enables the condition

pending_kept : (condition : Condition) (s : State) → IsTrue (has_bits s.interrupt_identification (iir_bit condition))
    → IsTrue (has_bits (by_kind Timeout Asked.Nothing s).interrupt_identification (iir_bit condition))
pending_kept Rda s was = grind (arith, bits)
pending_kept Thre s was = grind (arith, bits)

pending_kept_by_ier : (condition : Condition) (value : ℕ) (s : State) → IsTrue (has_bits s.interrupt_identification (iir_bit condition))
    → IsTrue (has_bits (write_step Ier value Asked.Nothing s).interrupt_identification (iir_bit condition))
pending_kept_by_ier Rda value s was = grind (arith, bits)
pending_kept_by_ier Thre value s was = grind (arith, bits)

up : (condition : Condition) (s : State) → IsTrue (has_bits s.interrupt_identification (iir_bit condition))
    → IsTrue (has_bits s.interrupt_enable (ier_bit condition)) → IsTrue (irq_level s)
up Rda s pending enabled = both_or _ _ (has_bits s.interrupt_identification 0x02 && has_bits s.interrupt_enable 0x02) pending enabled where
  both_or : (pending enabled other : Bool) → IsTrue pending → IsTrue enabled → IsTrue (other || (pending && enabled))
  both_or pending enabled other is on = grind arith
up Thre s pending enabled = both_or _ _ (has_bits s.interrupt_identification 0x04 && has_bits s.interrupt_enable 0x01) pending enabled where
  both_or : (pending enabled other : Bool) → IsTrue pending → IsTrue enabled → IsTrue ((pending && enabled) || other)
  both_or pending enabled other is on = grind arith

due_while_up : (n due : ℕ) (level : Bool) → n ≡ due → level ≡ not (due == 0) → IsTrue level → 0 < n
due_while_up n due level same is up = grind (arith, nat_tests)

asks-while-up : (call : Call) (c : ConsoleState) → IsTrue c.is_refused → IsTrue (retries call) → IsTrue (irq_level (after call c).port)
    → 0 < interrupts_of call c
asks-while-up call c refused retries_now is_up =
    due_while_up (interrupts_of call c) (length (conditions_due (after call c).port)) (irq_level (after call c).port)
    (retried call c refused retries_now) (up_while_due (after call c).port) is_up

-- a write that enables a condition is one of IER, at offset 1
writes_ier : (register : Register) (condition : Condition) (value : ℕ) (s : State)
    → has_bits s.interrupt_enable (ier_bit condition) ≡ false
    → IsTrue (has_bits (write_step register value Asked.Nothing s).interrupt_enable (ier_bit condition)) → register ≡ Ier
writes_ier register condition value s masked enabled = grind arith

at_one : (dlab : Bool) (offset : ℕ) → register_at dlab offset ≡ Ier → (offset == 1) ≡ true
at_one dlab offset is = grind (arith, nat_tests)

record WritesIer (call : Call) (c : ConsoleState) : Type 0 where
  offset : ℕ
  value : ℕ
  is : call ≡ Writes offset value
  at : register_at (is_dlab c.port.line_control) offset ≡ Ier

read-enable : (register : Register) (s : State) → (read_step register s).interrupt_enable ≡ s.interrupt_enable
read-enable register s = grind arith

none-read-enable : (none : Bool) (read : State)
    → (steps (if none then CharacterTimeout ∷ [] else []) read).interrupt_enable ≡ read.interrupt_enable
none-read-enable true read = refl
none-read-enable false read = refl

received-enable : (bytes : List ℕ) (s : State) → (receive_bytes bytes s).interrupt_enable ≡ s.interrupt_enable
received-enable [] s = refl
received-enable (byte ∷ bytes) s = refl

none_enabled : (condition : Condition) → has_bits 0 (ier_bit condition) ≡ false
unfolding has_bits
none_enabled Rda = refl
none_enabled Thre = refl

still_masked : (condition : Condition) (old new : ℕ) → new ≡ old → has_bits old (ier_bit condition) ≡ false
    → IsTrue (has_bits new (ier_bit condition)) → ⊥
still_masked condition old new same masked enabled =
    false≢true (sym (ap (λ byte. has_bits byte (ier_bit condition)) same ∙ masked) ∙ enabled)

unmasks : (condition : Condition) (call : Call) (c : ConsoleState) → is_enabled condition c ≡ false
    → IsTrue (is_enabled condition (after call c)) → WritesIer call c
unmasks condition (Writes offset value) c masked enabled = record {
  offset = offset;
  value = value;
  is = refl;
  at = writes_ier (register_at (is_dlab c.port.line_control) offset) condition value c.port masked enabled;
}
unmasks condition (Reads offset) c masked enabled =
    let read = step c.port (Read offset) Asked.Nothing in
    absurd (still_masked condition c.port.interrupt_enable _
    (none-read-enable (answers_none offset (shown_at offset c.port)) read
    ∙ read-enable (register_at (is_dlab c.port.line_control) offset) c.port) masked enabled)
unmasks condition (Receives bytes) c masked enabled =
    absurd (still_masked condition c.port.interrupt_enable _ (received-enable _ c.port) masked enabled)
unmasks condition Resets c masked enabled = absurd (false≢true (sym (none_enabled condition) ∙ enabled))
unmasks condition Turns c masked enabled = absurd (false≢true (sym masked ∙ enabled))
unmasks condition (Consumes count) c masked enabled = absurd (false≢true (sym masked ∙ enabled))
unmasks condition Refuses c masked enabled = absurd (false≢true (sym masked ∙ enabled))
unmasks condition Suspends c masked enabled = absurd (false≢true (sym masked ∙ enabled))
unmasks condition (SetsPolled is_polled) c masked enabled = absurd (false≢true (sym masked ∙ enabled))

-- ---- an IER write raises RDA while bytes are held

-- to raise THRE leaves the bit of RDA
thre-keeps : (raised : Bool) (old : ℕ) → has_bits (if raised then with_bits (without_bits old 0x01) 0x02 else old) 0x04 ≡ has_bits old 0x04
thre-keeps true old = rda_left old
thre-keeps false old = refl

ier-keeps : (refused raised : Bool) (old : ℕ)
    → has_bits (if refused then old else (if raised then with_bits (without_bits old 0x01) 0x02 else old)) 0x04 ≡ has_bits old 0x04
ier-keeps true raised old = refl
ier-keeps false raised old = thre-keeps raised old

ier-covers : (value : ℕ) (s : State) → RdaCoversHeldBytes (write_step Ier value Asked.Nothing s)
ier-covers value s some enabled =
    ier-keeps _ _ _ ∙ shows_held_bytes (record s { interrupt_enable = only_bits value ier_bits }) Asked.Nothing some enabled

-- ---- what is due

due-refused : (condition : Condition) (c : ConsoleState) → IsTrue c.is_refused
    → IsTrue (has_bits c.port.interrupt_identification (iir_bit condition)) → IsDue condition c
due-refused condition c refused pending = record {
  wanted = λ enabled. refused_law c refused (up condition c.port pending enabled);
  turn = λ enabled.
      asks-while-up Turns c refused refl (up condition (after Turns c).port (pending_kept condition c.port pending) enabled);
  unmasked = λ masked write enabled.
      let by = unmasks condition write c masked enabled in
      let ier = Writes by.offset by.value in
      let kept : IsTrue (has_bits (after ier c).port.interrupt_identification (iir_bit condition)) =
      subst (λ (register : Register). IsTrue (has_bits (write_step register by.value Asked.Nothing c.port).interrupt_identification (iir_bit condition)))
      (sym by.at) (pending_kept_by_ier condition by.value c.port pending) in
      subst (λ (call : Call). 0 < interrupts_of call c) (sym by.is)
      (asks-while-up ier c refused (at_one (is_dlab c.port.line_control) by.offset by.at)
      (up condition (after ier c).port kept (subst (λ (call : Call). IsTrue (is_enabled condition (after call c))) by.is enabled)));
}

some_if_not : (n : ℕ) → (n ≡ 0 → ⊥) → 0 < n
some_if_not zero not_none = absurd (not_none refl)
some_if_not (suc n) not_none = omega arith

-- a call after which RDA is pending, and was not before, asks
asks-for-held : (call : Call) (c : ConsoleState) → is_reset call c ≡ false
    → has_bits c.port.interrupt_identification 0x04 ≡ false
    → IsTrue (has_bits (after call c).port.interrupt_identification 0x04) → 0 < interrupts_of call c
asks-for-held call c kept clear pending =
    some_if_not (interrupts_of call c) (λ none. false≢true (sym (call-clear Rda call c kept none clear) ∙ pending))

due-held : (c : ConsoleState) → IsTrue (not_empty c.port.in_buffer) → has_bits c.port.interrupt_identification 0x04 ≡ false
    → IsDue Rda c
due-held c held clear = record {
  wanted = held_law c held;
  turn = λ enabled. asks-for-held Turns c refl clear (shows_held_bytes c.port Asked.Nothing held enabled);
  unmasked = λ masked write enabled.
      let by = unmasks Rda write c masked enabled in
      let ier = Writes by.offset by.value in
      let enabled_after : IsTrue (is_enabled Rda (after ier c)) =
      subst (λ (call : Call). IsTrue (is_enabled Rda (after call c))) by.is enabled in
      subst (λ (call : Call). 0 < interrupts_of call c) (sym by.is)
      (asks-for-held ier c refl clear
      (subst (λ (register : Register). RdaCoversHeldBytes (write_step register by.value Asked.Nothing c.port)) (sym by.at)
      (ier-covers by.value c.port)
      (subst (λ (register : Register). IsTrue (not_empty (write_step register by.value Asked.Nothing c.port).in_buffer)) (sym by.at) held)
      enabled_after));
}

-- ---- the guest is interrupted

pub interrupted-pending : (condition : Condition) (calls : List Call) (c : ConsoleState) → in_one is_reset calls c ≡ false
    → IsTrue (in_one reads_iir calls c) ⊎ (is_shown condition c ≡ false)
    → IsTrue (is_shown condition (after_calls calls c)) → IsInterrupted condition calls c
interrupted-pending condition calls c kept since pending = record {
  edge = by-end (raised-since condition calls c kept since pending);
  level = λ enabled. inl (up condition (after_calls calls c).port pending enabled);
} where
  by-end : IsRaised calls c ⊎ IsTrue (after_calls calls c).is_refused → IsRaised calls c ⊎ IsDue condition (after_calls calls c)
  by-end (inl raised) = inl raised
  by-end (inr refused) = inr (due-refused condition (after_calls calls c) refused pending)

pub interrupted-held : (calls : List Call) (c : ConsoleState) → in_one is_reset calls c ≡ false
    → IsTrue (in_one reads_iir calls c) ⊎ (is_shown Rda c ≡ false)
    → IsTrue (not_empty (after_calls calls c).port.in_buffer) → IsInterrupted Rda calls c
interrupted-held calls c kept since held = by-bit (is_shown Rda (after_calls calls c)) refl where
  by-bit : (pending : Bool) → is_shown Rda (after_calls calls c) ≡ pending → IsInterrupted Rda calls c
  by-bit true pending = interrupted-pending Rda calls c kept since pending
  by-bit false clear = record {
    edge = inr (due-held (after_calls calls c) held clear);
    level = λ enabled.
        inr (
          held_law (after_calls calls c) held enabled,
          up Rda (after Turns (after_calls calls c)).port (shows_held_bytes (after_calls calls c).port Asked.Nothing held enabled) enabled,
        );
  }

pub pending_law : PendingLaw
pending_law condition calls c kept clear pending = interrupted-pending condition calls c kept (inr clear) pending

pub waiting_law : WaitingLaw
waiting_law calls c kept clear held = interrupted-held calls c kept (inr clear) held
