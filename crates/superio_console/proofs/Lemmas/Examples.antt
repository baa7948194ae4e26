-- SPDX-License-Identifier: Apache-2.0 OR BSD-3-Clause
-- Worked examples of a console: the interrupts that its calls ask for, when it wakes the loop, what the loop wants, and
-- calls as the laws assume them.
mod Driver
use Rattle.std.proofs.Common.{◌≡◌, ℕ, Bool, true, false, List, [], ◌∷◌, refl}
use Rattle.superio_laws.specs.Serial.{has_bits, with_bits, only_bits}
use Rattle.superio_console.specs.Console.{ConsoleState, Call, Reads, Writes, Receives, Consumes, Turns, Refuses, Resets, Suspends, SetsPolled, new_console, wants_of, after, interrupts_of, opens_gate, wakes}
use Rattle.superio_console.specs.Laws.{after_calls, in_each, in_one, received_at, asks_for_thre, EachTakes}

abbrev fresh : ConsoleState
fresh = new_console false

-- what each call has, as a list
abbrev each : {A : Type 0} → (of : Call → ConsoleState → A) (calls : List Call) (c : ConsoleState) → List A
each of calls c = in_each (λ call c. of call c ∷ []) calls c

-- a driver enables RDA, two bytes arrive, and its handler takes one. It finds nothing pending, and is asked again
abbrev opened : List Call
opened = Receives (0x61 ∷ []) ∷ Writes 1 0x01 ∷ Receives (0x68 ∷ 0x69 ∷ []) ∷ []

abbrev handler : List Call
handler = Reads 2 ∷ Reads 0 ∷ Reads 2 ∷ []

asks_again_after_none : each interrupts_of handler (after_calls opened fresh) ≡ 0 ∷ 0 ∷ 1 ∷ []
unfolding has_bits with_bits only_bits
asks_again_after_none = refl

-- nothing goes in before the driver is ready; then it wakes the loop
waits_for_the_driver : in_each received_at opened fresh ≡ 0x68 ∷ 0x69 ∷ []
unfolding has_bits with_bits only_bits
waits_for_the_driver = refl

wakes_for_input_and_a_turn : each wakes opened fresh ≡ false ∷ true ∷ true ∷ []
unfolding has_bits with_bits only_bits
wakes_for_input_and_a_turn = refl

wants_64_then_62 :
    each (λ call c. wants_of (after call c)) opened fresh
    ≡ record { input = 0; output = false; turn = false }
    ∷ record { input = 64; output = false; turn = false }
    ∷ record { input = 62; output = false; turn = true }
    ∷ []
unfolding has_bits with_bits only_bits
wants_64_then_62 = refl

-- a driver that reads IIR once takes one byte and is not asked again before the turn that the loop is told to make
abbrev once : List Call
once = Reads 2 ∷ Reads 0 ∷ []

abbrev left_one : ConsoleState
left_one = after_calls once (after_calls opened fresh)

is_told_to_turn : wants_of left_one ≡ record { input = 63; output = false; turn = true }
unfolding has_bits with_bits only_bits
is_told_to_turn = refl

a_turn_asks : each interrupts_of (Consumes 3 ∷ Turns ∷ Turns ∷ []) left_one ≡ 0 ∷ 1 ∷ 0 ∷ []
unfolding has_bits with_bits only_bits
a_turn_asks = refl

takes_in_each : EachTakes (once ∷ (Turns ∷ once) ∷ []) (after_calls opened fresh)
unfolding has_bits with_bits only_bits
takes_in_each = (λ some. refl, (λ some. refl, tt))

-- the interrupt is refused: a turn is wanted, and asks again. A read of IIR ends the refusal
refused_and_retried :
    each interrupts_of (Writes 1 0x02 ∷ Refuses ∷ Turns ∷ Refuses ∷ Writes 1 0x02 ∷ Turns ∷ []) fresh
    ≡ 1 ∷ 0 ∷ 1 ∷ 0 ∷ 1 ∷ 0 ∷ []
unfolding has_bits with_bits only_bits
refused_and_retried = refl

masked_and_retried :
    each {A = ℕ × Bool} (λ call c. (interrupts_of call c, (wants_of (after call c)).turn))
    (Writes 1 0x02 ∷ Refuses ∷ Writes 1 0x00 ∷ Turns ∷ Writes 1 0x02 ∷ []) fresh
    ≡ (1, false) ∷ (0, true) ∷ (0, false) ∷ (0, false) ∷ (1, false) ∷ []
unfolding has_bits with_bits only_bits
masked_and_retried = refl

ended_by_iir :
    each (λ call c. (wants_of (after call c)).turn) (Writes 1 0x02 ∷ Refuses ∷ Reads 2 ∷ Writes 0 0x41 ∷ []) fresh
    ≡ false ∷ true ∷ false ∷ false ∷ []
unfolding has_bits with_bits only_bits
ended_by_iir = refl

-- a driver sends: it is interrupted for the next byte, and the byte waits for the reader
sends_one :
    (each interrupts_of (Writes 1 0x02 ∷ Reads 2 ∷ Writes 0 0x41 ∷ []) fresh ≡ 1 ∷ 0 ∷ 1 ∷ [])
    × ((after_calls (Writes 1 0x02 ∷ Reads 2 ∷ Writes 0 0x41 ∷ Resets ∷ []) fresh).output ≡ 0x41 ∷ [])
    × (asks_for_thre (Writes 0 0x41) (after_calls (Writes 1 0x02 ∷ Reads 2 ∷ []) fresh) ≡ true)
unfolding has_bits with_bits only_bits
sends_one = (refl, refl, refl)

-- a driver that tests its port in loopback opens no gate
tests_its_port : in_one opens_gate (Writes 4 0x1E ∷ Writes 1 0x0F ∷ Writes 1 0x00 ∷ Writes 0 0x41 ∷ Reads 0 ∷ Writes 4 0x0B ∷ []) fresh ≡ false
unfolding has_bits with_bits only_bits
tests_its_port = refl

-- a guest that polls gets input at once. A kernel that the monitor no longer says to poll gets it once its driver is ready
polls_then_drives :
    in_each received_at (SetsPolled true ∷ Receives (0x61 ∷ []) ∷ Reads 0 ∷ SetsPolled false ∷ Receives (0x62 ∷ []) ∷ Writes 1 0x01 ∷ Receives (0x63 ∷ []) ∷ []) fresh
    ≡ 0x61 ∷ 0x63 ∷ []
unfolding has_bits with_bits only_bits
polls_then_drives = refl

-- a guest that sleeps gets none, even if it polls, until a reset or until its driver is ready
sleeps :
    (in_each received_at (Suspends ∷ Receives (0x61 ∷ []) ∷ SetsPolled true ∷ Receives (0x62 ∷ []) ∷ []) (after_calls opened fresh) ≡ [])
    × (in_each received_at (SetsPolled true ∷ Suspends ∷ Receives (0x61 ∷ []) ∷ Resets ∷ Receives (0x62 ∷ []) ∷ []) fresh ≡ 0x62 ∷ [])
    × (in_each received_at (Suspends ∷ Receives (0x61 ∷ []) ∷ Writes 1 0x05 ∷ Receives (0x62 ∷ []) ∷ []) (after_calls opened fresh) ≡ 0x62 ∷ [])
unfolding has_bits with_bits only_bits
sleeps = (refl, refl, refl)

-- the monitor's word wakes the loop, since input may go in now; a suspend does not
wakes_for_a_guest_that_polls :
    each wakes (SetsPolled true ∷ SetsPolled true ∷ Suspends ∷ SetsPolled false ∷ SetsPolled true ∷ Resets ∷ []) fresh
    ≡ true ∷ false ∷ false ∷ false ∷ false ∷ true ∷ []
unfolding has_bits with_bits only_bits
wakes_for_a_guest_that_polls = refl
