-- SPDX-License-Identifier: Apache-2.0 OR BSD-3-Clause
-- Two runs of a driver that reads IIR once, on a console. They keep the rules that the law `EachByteIsThroughLaw`
-- supposes, so the law says that their bytes get through.
use Rattle.std.proofs.Common.{◌≡◌, ◌==◌, ℕ, true, false, if◌then◌else◌, inl, inr, List, [], ◌∷◌, ◌++◌, length, refl, arith}
use Rattle.superio_laws.specs.Serial.{fresh_state, Read, Write, CharacterTimeout, Trace, TraceEntry, is_iir_read, has_bits, with_bits, only_bits}
use Rattle.superio_laws.specs.Serial.Laws.UartRun.{without_results}
use Rattle.superio_laws.specs.Serial.Laws.GuestDriver.{Driver, sent, IsDriverRun, SentInOrder, after_runs}
use Rattle.superio_laws.proofs.Lemmas.Examples.GuestDriver.{none_by, asks_by}
use Rattle.superio_console.specs.Console.{ConsoleState, Call, Reads, Writes, Receives, Turns, Refuses, new_console, wants_of, interrupts_of}
use Rattle.superio_console.specs.Laws.{after_calls, left_in_runs}
use Rattle.superio_console.specs.Driver.{IsAt, newest, AreRuns, AllIsThrough, runs_of, EachByteIsThroughLaw}
use Rattle.superio_console.proofs.Lemmas.Point.{first_law, next_law}

-- the driver is ready, and two bytes arrive. Then it is given two of its own, and enables THRE
abbrev opened : List Call
opened = Writes 1 0x01 ∷ Receives (0x61 ∷ 0x62 ∷ []) ∷ Writes 1 0x03 ∷ []

abbrev begun : ConsoleState
begun = after_calls opened (new_console false)

abbrev before : Trace
before = newest opened (new_console false) ++ []

is_at : IsAt fresh_state before begun
is_at = next_law fresh_state [] (new_console false) opened (first_law false) refl

abbrev plain : Driver
plain = record {
  given_at = λ trace entry. if length trace == 2 then 0x41 ∷ 0x42 ∷ [] else [];
  sends_own = λ trace entry. true;
  is_stopped = λ trace. false;
}

-- it takes a byte and sends one. The interrupt that this asks for is refused, and a turn asks again, for both
abbrev first_run : List Call
first_run = Reads 2 ∷ Reads 0 ∷ Writes 0 0x41 ∷ Refuses ∷ Turns ∷ []

abbrev second_run : List Call
second_run = Reads 2 ∷ Reads 0 ∷ Writes 0 0x42 ∷ []

abbrev runs : List (List Call)
runs = first_run ∷ second_run ∷ []

abbrev read : (offset : ℕ) → TraceEntry
read offset = without_results (Read offset)

abbrev sends : (value : ℕ) → TraceEntry
sends value = without_results (Write 0 value)

abbrev timeout : TraceEntry
timeout = without_results CharacterTimeout

abbrev first_entries : Trace
first_entries = timeout ∷ sends 0x41 ∷ read 0 ∷ read 2 ∷ []

abbrev second_entries : Trace
second_entries = sends 0x42 ∷ read 0 ∷ read 2 ∷ []

first_is : IsDriverRun plain fresh_state before first_entries
unfolding has_bits with_bits only_bits
first_is = record {
  takes = λ some. omega arith;
  ends = inr (record {
    pass = timeout ∷ sends 0x41 ∷ read 0 ∷ [];
    iir = read 2;
    earlier = [];
    place = refl;
    reads = refl;
    is_pass = record {
      unread = none_by fresh_state is_iir_read (timeout ∷ sends 0x41 ∷ read 0 ∷ []) (read 2 ∷ before) refl;
      sends = inl (record {
        later = timeout ∷ [];
        entry = sends 0x41;
        earlier = read 0 ∷ [];
        value = 0x41;
        place = refl;
        writes = refl;
        own = refl;
        enabled = refl;
      });
    };
  });
  asks = asks_by plain fresh_state before first_entries refl;
}

second_is : IsDriverRun plain fresh_state (first_entries ++ before) second_entries
unfolding has_bits with_bits only_bits
second_is = record {
  takes = λ some. omega arith;
  ends = inr (record {
    pass = sends 0x42 ∷ read 0 ∷ [];
    iir = read 2;
    earlier = [];
    place = refl;
    reads = refl;
    is_pass = record {
      unread = none_by fresh_state is_iir_read (sends 0x42 ∷ read 0 ∷ []) (read 2 ∷ first_entries ++ before) refl;
      sends = inl (record {
        later = [];
        entry = sends 0x42;
        earlier = read 0 ∷ [];
        value = 0x42;
        place = refl;
        writes = refl;
        own = refl;
        enabled = refl;
      });
    };
  });
  asks = asks_by plain fresh_state (first_entries ++ before) second_entries refl;
}

are_runs : AreRuns plain fresh_state before runs begun
unfolding has_bits with_bits only_bits
are_runs = (refl, first_is, (refl, second_is, tt))

-- so the law applies
all_is_through : EachByteIsThroughLaw → AllIsThrough plain fresh_state before runs begun
all_is_through law = law plain fresh_state before begun runs is_at are_runs

-- and it says that the two bytes held at first are read out, and the two that are left at first are sent
both_are_through :
    (left_in_runs runs begun ≡ 0x61 ∷ 0x62 ∷ [])
    × (sent plain fresh_state (after_runs before (runs_of runs begun)) ≡ 0x41 ∷ 0x42 ∷ [])
    × SentInOrder plain fresh_state (after_runs before (runs_of runs begun))
unfolding has_bits with_bits only_bits
both_are_through = (refl, refl, refl)

-- after the refusal `wants` names a turn, which asks for both conditions
is_due_then :
    let refused : ConsoleState = after_calls (Reads 2 ∷ Reads 0 ∷ Writes 0 0x41 ∷ Refuses ∷ []) begun in
    ((wants_of refused).turn ≡ true) × (interrupts_of Turns refused ≡ 2)
unfolding has_bits with_bits only_bits
is_due_then = (refl, refl)
