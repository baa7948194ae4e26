-- SPDX-License-Identifier: Apache-2.0 OR BSD-3-Clause
-- A driver that only receives has nothing to send, and a run of it takes a byte.
use Rattle.std.proofs.Common.{◌≡◌, ℕ, ◌+◌, ◌<◌, Bool, true, false, not, ◌&&◌, List, [], ◌∷◌, ◌++◌, length, take, drop, inr, refl, ap, sym, ◌∙◌, append-nil, length-append, arith, IsTrue}
use Rattle.std.proofs.lemmas.Bool.{false≢true}
use Rattle.superio_laws.specs.Serial.{Asked, Sent, Read, State, Trace, TraceEntry, is_iir_read, decode_read, register_at, not_empty}
use Rattle.superio_laws.specs.Serial.History.{dlab_after, held_bytes, accepted_bytes, read_out_bytes, read_out_by, state_of_history}
use Rattle.superio_laws.specs.Serial.Laws.GuestDriver.{IsDriverRun, AreDriverRuns, after_runs, has_to_send, left}
use Rattle.superio_laws.specs.Serial.Laws.Line.{timeout_entry}
use Rattle.superio_laws.proofs.Lemmas.Serial.Laws.Consequences.{none_more, nowhere}
use Rattle.superio_examples.specs.Traced.{receiver}

abbrev pub read_of : (offset : ℕ) → TraceEntry
read_of offset = record { op = Read offset; asked = Asked.Nothing; sent = Sent.Nothing }

-- it has nothing to send
stopped : (some : Bool) → (some && not true) ≡ false
stopped some = grind arith

idle : (start : State) (trace : Trace) → has_to_send receiver start trace ≡ false
idle start trace = stopped (not_empty (left receiver start trace))

-- the read of RBR takes a byte, if one is held
no_iir : (dlab : Bool) → is_iir_read (decode_read (register_at dlab 0)) ≡ false
no_iir dlab = grind arith

one_more : (before held new : List ℕ) → IsTrue (not_empty held) → new ≡ ((before ++ []) ++ take 1 held) ++ [] → length before < length new
one_more before [] new some is = absurd (false≢true some)
one_more before (byte ∷ held) new some is =
    omega (arith, ap length is, length-append ((before ++ []) ++ byte ∷ []) [], length-append (before ++ []) (byte ∷ []), length-append before [])

held_same : (start : State) (before : Trace) → held_bytes start (read_of 2 ∷ before) ≡ held_bytes start before
held_same start before =
    ap (λ taken. drop (length taken) (start.in_buffer ++ (accepted_bytes start before ++ []))) (append-nil (read_out_bytes start before))
    ∙ ap (λ added. drop (length (read_out_bytes start before)) (start.in_buffer ++ added)) (append-nil (accepted_bytes start before))

-- a run: the read of IIR and of RBR, and the monitor's timeout
abbrev pub run_of : (asked : Asked) → Trace
run_of asked = timeout_entry asked ∷ read_of 0 ∷ read_of 2 ∷ []

pub is_run : (start : State) (before : Trace) (asked : Asked) → dlab_after start before ≡ false
    → IsDriverRun receiver start before (run_of asked)
is_run start before asked hidden =
    let taken = read_out_bytes start before in
    let held = held_bytes start (read_of 2 ∷ before) in
    record {
      takes = λ some. one_more taken held _ (ap not_empty (held_same start before) ∙ some)
          (ap (λ dlab. ((taken ++ []) ++ read_out_by (decode_read (register_at dlab 0)) held) ++ []) hidden);
      ends = inr (record {
        pass = timeout_entry asked ∷ read_of 0 ∷ [];
        iir = read_of 2;
        earlier = [];
        place = refl;
        reads = refl;
        is_pass = record {
          unread = none_more start is_iir_read (read_of 0 ∷ []) (read_of 2 ∷ before) (timeout_entry asked) refl
              (none_more start is_iir_read [] (read_of 2 ∷ before) (read_of 0) (no_iir (dlab_after start before))
              (nowhere start is_iir_read (read_of 2 ∷ before)));
          sends = inr ([], timeout_entry asked ∷ read_of 0 ∷ [], refl, idle start (timeout_entry asked ∷ read_of 0 ∷ read_of 2 ∷ before));
        };
      });
      asks = λ later earlier entry place has. absurd (false≢true (sym (idle start (entry ∷ earlier ++ before)) ∙ has));
    }

-- `count` runs of a loop lead to a state, and any runs after them continue them
pub record RunsSoFar (start : State) (count : ℕ) (s : State) : Type 0 where
  pub before : Trace
  pub state : s ≡ state_of_history start before
  pub runs :
      (rest : List Trace) → AreDriverRuns receiver start before rest
      → (all : List Trace) × AreDriverRuns receiver start [] all × (length all ≡ count + length rest)
      × (after_runs [] all ≡ after_runs before rest)
