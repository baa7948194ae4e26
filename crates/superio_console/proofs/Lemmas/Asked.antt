-- SPDX-License-Identifier: Apache-2.0 OR BSD-3-Clause
-- What is pending was asked for.
use Rattle.std.proofs.Common.{◌≡◌, ℕ, ◌+◌, ◌≤◌, zero, suc, Bool, true, false, not, ◌==◌, ◌&&◌, if◌then◌else◌, List, [], ◌∷◌, length, refl, sym, ap, subst, ◌∙◌, arith, IsTrue}
use Rattle.std.proofs.lemmas.Bool.{false≢true}
use Rattle.std.proofs.lemmas.Bool.Decides.{nat_tests}
use Rattle.std.specs.Bool.{beq}
use Rattle.superio_laws.specs.Serial.{State, Op, Read, Write, Enqueue, CharacterTimeout, Restore, Asked, Sent, Condition, Rda, Thre, Register, DecodedOp, has_bits, iir_bit}
use Rattle.superio_laws.specs.Serial.{count_if, irq_level, conditions_due, step, step_calls, decoded_calls, decode_in, write_step, register_at, is_dlab, sends_byte, is_refused_at_once, answers_fit, answers_all, is_sent}
use Rattle.superio_laws.specs.Serial.Laws.Line.{is_called}
use Rattle.superio_laws.proofs.Lemmas.Serial.Laws.OneCall.{turned_bits_law}
use Rattle.superio_laws.proofs.Lemmas.Serial.Laws.Interrupts.{up_after_call}
use Rattle.superio_core.proofs.Lemmas.Serial.Step.{up_while_due}
use Rattle.superio_console.specs.Console.{ConsoleState, Call, Reads, Writes, Receives, Consumes, Turns, Refuses, Resets, Suspends, SetsPolled, port_calls, steps, steps_calls, after, interrupts_of}
use Rattle.superio_console.specs.Laws.{after_calls, in_one, is_reset, asks, AskedLaw}
use Rattle.superio_console.proofs.Lemmas.Port.{first_none, later_none}

-- ---- one step

abbrev outcome_of : (sends : Bool) → Sent
outcome_of true = Sent.Out
outcome_of false = Sent.Nothing

outcome_fits : (answered sends : Bool) → IsTrue answered → IsTrue (answered && beq (is_sent (outcome_of sends)) sends)
outcome_fits answered true is = ap (λ answered. answered && true) is
outcome_fits answered false is = ap (λ answered. answered && true) is

fits : (s : State) (op : Op) (asked : Asked) → IsTrue (answers_all (step_calls s op) asked)
    → IsTrue (answers_fit s op asked (outcome_of (sends_byte s op)))
fits s op asked answered = outcome_fits (answers_all (step_calls s op) asked) (sends_byte s op) answered

none_turned : (old new other_old other_new : Bool) → 0 ≡ count_if (not old && new) + count_if (not other_old && other_new)
    → old ≡ false → new ≡ false
none_turned old new other_old other_new none clear = grind arith

none_turned_after : (old new other_old other_new : Bool) → 0 ≡ count_if (not other_old && other_new) + count_if (not old && new)
    → old ≡ false → new ≡ false
none_turned_after old new other_old other_new none clear = grind arith

-- a step that calls for nothing turns no bit on
step-clear : (condition : Condition) (s : State) (op : Op) → step_calls s op ≡ 0
    → has_bits s.interrupt_identification (iir_bit condition) ≡ false
    → has_bits (step s op Asked.Nothing).interrupt_identification (iir_bit condition) ≡ false
step-clear Rda s op none clear =
    none_turned _ _ (has_bits s.interrupt_identification 0x02) (has_bits (step s op Asked.Nothing).interrupt_identification 0x02)
    (turned_bits_law s op Asked.Nothing (outcome_of (sends_byte s op)) (fits s op Asked.Nothing (ap (λ n. n == 0) none))) clear
step-clear Thre s op none clear =
    none_turned_after _ _ (has_bits s.interrupt_identification 0x04) (has_bits (step s op Asked.Nothing).interrupt_identification 0x04)
    (turned_bits_law s op Asked.Nothing (outcome_of (sends_byte s op)) (fits s op Asked.Nothing (ap (λ n. n == 0) none))) clear

pub steps-clear : (condition : Condition) (s : State) (ops : List Op) → steps_calls ops s ≡ 0
    → has_bits s.interrupt_identification (iir_bit condition) ≡ false
    → has_bits (steps ops s).interrupt_identification (iir_bit condition) ≡ false
steps-clear condition s [] none clear = clear
steps-clear condition s (op ∷ ops) none clear =
    steps-clear condition (step s op Asked.Nothing) ops (omega (arith, none))
    (step-clear condition s op (omega (arith, none)) clear)

-- ---- a call that retries: if it asks for nothing, its step calls for nothing

write-taken : (register : Register) (value : ℕ) (asked : Asked) (s : State) → is_refused_at_once asked ≡ false
    → write_step register value asked s ≡ write_step register value Asked.Nothing s
write-taken register value asked s none = grind arith

step-taken : (s : State) (op : Op) (asked : Asked) → is_refused_at_once asked ≡ false → step s op asked ≡ step s op Asked.Nothing
step-taken s (Write offset value) asked none = write-taken (register_at (is_dlab s.line_control) offset) value asked s none
step-taken s (Read offset) asked none = refl
step-taken s (Enqueue bytes) asked none = refl
step-taken s CharacterTimeout asked none = refl
step-taken s Restore asked none = refl

few_calls : (kind : DecodedOp) (s : State) → decoded_calls kind s ≤ 2
few_calls kind s = grind arith

up-not : (s : State) → length (conditions_due s) ≡ 0 → IsTrue (irq_level s) → ⊥
up-not s none up = false≢true (sym (up_while_due s ∙ ap (λ n. not (n == 0)) none) ∙ up)

up-taken : (s : State) (op : Op) (asked : Asked) → is_refused_at_once asked ≡ false → IsTrue (is_called asked)
    → IsTrue (answers_all (step_calls s op) asked) → IsTrue (irq_level (step s op Asked.Nothing))
up-taken s op asked took called answered =
    subst (λ (s : State). IsTrue (irq_level s)) (step-taken s op asked took)
    (up_after_call s op asked (outcome_of (sends_byte s op)) (fits s op asked answered) called)

retry-none : (s : State) (op : Op) (n : ℕ) → step_calls s op ≡ n → n ≤ 2 → length (conditions_due (step s op Asked.Nothing)) ≡ 0
    → n ≡ 0
retry-none s op zero is few none = refl
retry-none s op (suc zero) is few none =
    absurd (up-not (step s op Asked.Nothing) none (up-taken s op Asked.Took refl refl (ap (λ n. n == 1) is)))
retry-none s op (suc (suc zero)) is few none =
    absurd (up-not (step s op Asked.Nothing) none (up-taken s op Asked.TookTook refl refl (ap (λ n. n == 2) is)))
retry-none s op (suc (suc (suc n))) is few none = absurd (omega (arith, few))

one-clear : (condition : Condition) (s : State) (op : Op) (retried : Bool)
    → (if retried then length (conditions_due (step s op Asked.Nothing)) else (step_calls s op + 0)) ≡ 0
    → has_bits s.interrupt_identification (iir_bit condition) ≡ false
    → has_bits (step s op Asked.Nothing).interrupt_identification (iir_bit condition) ≡ false
one-clear condition s op true none clear =
    step-clear condition s op (retry-none s op (step_calls s op) refl (few_calls (decode_in s op) s) none) clear
one-clear condition s op false none clear = step-clear condition s op (omega (arith, none)) clear

-- ---- a call, and several

never : (refused : Bool) (due calls : ℕ) → (if refused && false then due else calls) ≡ 0 → calls ≡ 0
never refused due calls none = grind arith

pub call-clear : (condition : Condition) (call : Call) (c : ConsoleState) → is_reset call c ≡ false → interrupts_of call c ≡ 0
    → has_bits c.port.interrupt_identification (iir_bit condition) ≡ false
    → has_bits (after call c).port.interrupt_identification (iir_bit condition) ≡ false
call-clear condition (Reads offset) c kept none clear = steps-clear condition c.port (port_calls (Reads offset) c) (never c.is_refused _ _ none) clear
call-clear condition (Receives bytes) c kept none clear = steps-clear condition c.port (port_calls (Receives bytes) c) (never c.is_refused _ _ none) clear
call-clear condition (Writes offset value) c kept none clear = one-clear condition c.port (Write offset value) (c.is_refused && (offset == 1)) none clear
call-clear condition Turns c kept none clear = one-clear condition c.port CharacterTimeout (c.is_refused && true) none clear
call-clear condition (Consumes count) c kept none clear = clear
call-clear condition Refuses c kept none clear = clear
call-clear condition Suspends c kept none clear = clear
call-clear condition (SetsPolled is_polled) c kept none clear = clear
call-clear condition Resets c kept none clear = absurd (false≢true (sym kept))

asks-none : (n : ℕ) → not (n == 0) ≡ false → n ≡ 0
asks-none n none = grind (arith, nat_tests)

pub clear-run : (condition : Condition) (calls : List Call) (c : ConsoleState) → in_one is_reset calls c ≡ false
    → in_one asks calls c ≡ false → has_bits c.port.interrupt_identification (iir_bit condition) ≡ false
    → has_bits (after_calls calls c).port.interrupt_identification (iir_bit condition) ≡ false
clear-run condition [] c kept none clear = clear
clear-run condition (call ∷ later) c kept none clear =
    clear-run condition later (after call c) (later_none (is_reset call c) _ kept) (later_none (asks call c) _ none)
    (call-clear condition call c (first_none (is_reset call c) _ kept) (asks-none (interrupts_of call c) (first_none (asks call c) _ none)) clear)

some-asks : (asked pending : Bool) → (asked ≡ false → pending ≡ false) → IsTrue pending → IsTrue asked
some-asks true pending clear is = refl
some-asks false pending clear is = absurd (false≢true (sym (clear refl) ∙ is))

pub asked_law : AskedLaw
asked_law condition calls c kept clear pending =
    some-asks (in_one asks calls c) _ (λ none. clear-run condition calls c kept none clear) pending
