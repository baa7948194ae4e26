-- SPDX-License-Identifier: Apache-2.0 OR BSD-3-Clause
-- A console's calls as entries of its port's history: where each call leads, and the character timeout after each read
-- of IIR that shows nothing pending.
use Rattle.std.proofs.Common.{◌≡◌, ℕ, Bool, true, false, ◌==◌, ◌&&◌, ◌||◌, inr, if◌then◌else◌, List, [], ◌∷◌, ◌++◌, refl, sym, ap, subst, ◌∙◌, append_assoc, arith}
use Rattle.std.proofs.lemmas.Bool.{false≢true}
use Rattle.std.proofs.lemmas.Bool.Decides.{nat_tests}
use Rattle.superio_core.proofs.Lemmas.Serial.{fresh_coherent}
use Rattle.superio_laws.specs.Serial.{State, Asked, Op, Read, Write, Enqueue, CharacterTimeout, Trace, TraceEntry, DecodedOp, IirRead, Register, decode_read, decode_write, register_at, register_read, Coherent, has_bits, with_bits}
use Rattle.superio_core.specs.declared.serial.registers.Register.TheVariants.{Iir}
use Rattle.superio_laws.specs.Serial.History.{state_of_history, decode_at, dlab_after, loopback_after}
use Rattle.superio_laws.specs.Serial.Laws.{state_after}
use Rattle.superio_laws.specs.Serial.Laws.Line.{timeout_entry}
use Rattle.superio_laws.specs.Serial.Laws.UartRun.{trace_with, without_results}
use Rattle.superio_laws.specs.Serial.Laws.GuestDriver.{ShowsNone, TimeoutAfterNone}
use Rattle.superio_laws.proofs.Lemmas.Serial.Laws.StepsOfHistory.{state_law}
use Rattle.superio_console.specs.Console.{ConsoleState, Call, Reads, Writes, Receives, Consumes, Turns, Refuses, Resets, Suspends, SetsPolled, new_console, port_calls, steps, shown_at, answers_none, after}
use Rattle.superio_console.specs.Laws.{after_calls, in_each, in_one, is_reset}
use Rattle.superio_console.specs.Driver.{IsAt, newest, StartLaw, FirstLaw, NextLaw, ResetLaw, TimeoutLaw, MonitoredLaw}
use Rattle.superio_console.proofs.Lemmas.Port.{steps-trace, steps-run, steps-call, first_none, later_none}

-- ---- traces

pub trace-append : (a b : Trace) (ops : List Op) → trace_with (a ++ b) ops ≡ trace_with a ops ++ b
trace-append a b [] = refl
trace-append a b (op ∷ later) = trace-append (without_results op ∷ a) b later

pub trace-ops : (trace : Trace) (first second : List Op) → trace_with trace (first ++ second) ≡ trace_with (trace_with trace first) second
trace-ops trace [] second = refl
trace-ops trace (op ∷ first) second = trace-ops (without_results op ∷ trace) first second

-- the entries of a call alone
abbrev pub entries_of : (call : Call) (c : ConsoleState) → Trace
entries_of call c = trace_with [] (port_calls call c)

pub newest-more : (call : Call) (later : List Call) (c : ConsoleState)
    → newest (call ∷ later) c ≡ newest later (after call c) ++ entries_of call c
newest-more call later c =
    trace-ops [] (port_calls call c) (in_each port_calls later (after call c))
    ∙ trace-append [] (entries_of call c) (in_each port_calls later (after call c))

-- ---- where calls lead

pub start_law : StartLaw
start_law c coherent = record { coherent = coherent; port = state_law c.port [] coherent }

pub first_law : FirstLaw
first_law is_polled = start_law (new_console is_polled) fresh_coherent

pub reset_law : ResetLaw
reset_law c = start_law (after Resets c) fresh_coherent

at-ops : (start : State) (before : Trace) (s : State) (ops : List Op) → Coherent start → s ≡ state_of_history start before
    → steps ops s ≡ state_of_history start (trace_with [] ops ++ before)
at-ops start before s ops coherent same =
    ap (steps ops) (same ∙ sym (state_law start before coherent))
    ∙ sym (steps-trace ops start before)
    ∙ ap (state_after start) (trace-append [] before ops)
    ∙ state_law start (trace_with [] ops ++ before) coherent

pub at-call : (start : State) (before : Trace) (c : ConsoleState) (call : Call) → IsAt start before c → is_reset call c ≡ false
    → IsAt start (entries_of call c ++ before) (after call c)
at-call start before c call is none = record {
  coherent = is.coherent;
  port = steps-call call c none ∙ at-ops start before c.port (port_calls call c) is.coherent is.port;
}

pub next_law : NextLaw
next_law start before c calls is none = record {
  coherent = is.coherent;
  port = steps-run calls c none ∙ at-ops start before c.port (in_each port_calls calls c) is.coherent is.port;
}

-- ---- the places of two lists of entries

pub nothing_there : (after before : Trace) (x : TraceEntry) → [] ≡ after ++ x ∷ before → ⊥
nothing_there [] before x e = cc
nothing_there (y ∷ after) before x e = cc

pub data Place (second first later earlier : Trace) (x : TraceEntry) : Type 0 where
  in_second : (rest : Trace) → second ≡ later ++ x ∷ rest → earlier ≡ rest ++ first → Place second first later earlier x
  in_first : (front : Trace) → later ≡ second ++ front → first ≡ front ++ x ∷ earlier → Place second first later earlier x

place-more : (y : TraceEntry) (second first later earlier : Trace) (x : TraceEntry) → Place second first later earlier x
    → Place (y ∷ second) first (y ∷ later) earlier x
place-more y second first later earlier x (in_second rest there left) = in_second rest (ap (λ list. y ∷ list) there) left
place-more y second first later earlier x (in_first front there left) = in_first front (ap (λ list. y ∷ list) there) left

pub place-of : (second first later earlier : Trace) (x : TraceEntry) → second ++ first ≡ later ++ x ∷ earlier
    → Place second first later earlier x
place-of [] first later earlier x whole = in_first later refl whole
place-of (y ∷ second) first [] earlier x whole =
    let same : y ≡ x = cc in
    let rest : second ++ first ≡ earlier = cc in
    in_second second (ap (λ x. x ∷ second) same) (sym rest)
place-of (y ∷ second) first (z ∷ later) earlier x whole =
    let same : y ≡ z = cc in
    let rest : second ++ first ≡ later ++ x ∷ earlier = cc in
    subst (λ z. Place (y ∷ second) first (z ∷ later) earlier x) same
    (place-more y second first later earlier x (place-of second first later earlier x rest))

-- what holds of the older entries and of the newer ones holds of both
timed-both : (start : State) (before first second : Trace) → TimeoutAfterNone start before first
    → TimeoutAfterNone start (first ++ before) second → TimeoutAfterNone start before (second ++ first)
timed-both start before first second old new later earlier read whole reads none =
    by-place (place-of second first later earlier read whole) where
      by-place : Place second first later earlier read → (more : Trace) × (asked : Asked) × (later ≡ more ++ timeout_entry asked ∷ [])
      by-place (in_second rest there left) =
          let same : earlier ++ before ≡ rest ++ (first ++ before) =
          ap (λ (list : Trace). list ++ before) left ∙ append_assoc rest first before in
          new later rest read there (subst (λ (trace : Trace). decode_at start trace read.op ≡ IirRead) same reads)
          (subst (ShowsNone start) same none)
      by-place (in_first front there left) =
          let (more, asked, ends) = old front earlier read left reads none in
          (second ++ more, asked, there ∙ ap (λ (list : Trace). second ++ list) ends ∙ sym (append_assoc second more (timeout_entry asked ∷ [])))

-- ---- a call

one-other : (start : State) (before : Trace) (op : Op) → (decode_at start before op ≡ IirRead → ⊥)
    → TimeoutAfterNone start before (without_results op ∷ [])
one-other start before op other [] [] read whole reads none =
    let same : without_results op ≡ read = cc in
    absurd (other (subst (λ (read : TraceEntry). decode_at start before read.op ≡ IirRead) (sym same) reads))
one-other start before op other [] (x ∷ earlier) read whole reads none = absurd cc
one-other start before op other (x ∷ later) earlier read whole reads none =
    let rest : [] ≡ later ++ read ∷ earlier = cc in
    absurd (nothing_there later earlier read rest)

no-write : (register : Register) (loopback : Bool) (value : ℕ) → decode_write register loopback value ≡ IirRead → ⊥
no-write register loopback value is = grind arith

no-enqueue : (loopback : Bool) (bytes : List ℕ) → (if loopback then DecodedOp.Other else DecodedOp.RxInput bytes) ≡ IirRead → ⊥
no-enqueue loopback bytes is = grind arith

no-timeout : DecodedOp.Timeout ≡ IirRead → ⊥
no-timeout is = cc

no-other : (register : Register) → (decode_read register ≡ IirRead) → register ≡ Iir
no-other register is = grind arith

at-two : (dlab : Bool) (offset : ℕ) → register_at dlab offset ≡ Iir → (offset == 2) ≡ true
at-two dlab offset is = grind (arith, nat_tests)

shows-none : (s : State) → s.interrupt_identification ≡ 0x01 → has_bits (register_read Iir s) 0x01 ≡ true
unfolding has_bits with_bits
shows-none s none = ap (λ byte. has_bits (with_bits byte 0xC0) 0x01) none

answers : (s : State) (dlab : Bool) (offset : ℕ) → decode_read (register_at dlab offset) ≡ IirRead
    → s.interrupt_identification ≡ 0x01 → answers_none offset (register_read (register_at dlab offset) s) ≡ true
answers s dlab offset reads none =
    let is = no-other (register_at dlab offset) reads in
    ap (λ two. two && has_bits (register_read (register_at dlab offset) s) 0x01) (at-two dlab offset is)
    ∙ ap (λ register. has_bits (register_read register s) 0x01) is
    ∙ shows-none s none

-- a read, and the timeout that follows it or not
timed-read : (start : State) (before : Trace) (offset : ℕ) (none : Bool)
    → (decode_at start before (Read offset) ≡ IirRead → ShowsNone start before → none ≡ true)
    → TimeoutAfterNone start before (trace_with [] (Read offset ∷ (if none then CharacterTimeout ∷ [] else [])))
timed-read start before offset true is [] [] read whole reads shows = absurd cc
timed-read start before offset true is [] (x ∷ earlier) read whole reads shows =
    let same : timeout_entry Asked.Nothing ≡ read = cc in
    absurd (no-timeout (subst (λ (read : TraceEntry). decode_at start (x ∷ earlier ++ before) read.op ≡ IirRead) (sym same) reads))
timed-read start before offset true is (x ∷ []) earlier read whole reads shows = ([], Asked.Nothing, cc)
timed-read start before offset true is (x ∷ y ∷ later) earlier read whole reads shows =
    let rest : [] ≡ later ++ read ∷ earlier = cc in
    absurd (nothing_there later earlier read rest)
timed-read start before offset false is [] [] read whole reads shows =
    let same : without_results (Read offset) ≡ read = cc in
    absurd (false≢true (is (subst (λ (read : TraceEntry). decode_at start before read.op ≡ IirRead) (sym same) reads) shows))
timed-read start before offset false is [] (x ∷ earlier) read whole reads shows = absurd cc
timed-read start before offset false is (x ∷ later) earlier read whole reads shows =
    let rest : [] ≡ later ++ read ∷ earlier = cc in
    absurd (nothing_there later earlier read rest)

none-at : (start : State) (before : Trace) (c : ConsoleState) (offset : ℕ) → IsAt start before c
    → decode_at start before (Read offset) ≡ IirRead → ShowsNone start before
    → answers_none offset (shown_at offset c.port) ≡ true
none-at start before c offset is reads (no_thre, no_rda) =
    let s = state_of_history start before in
    let clear : s.interrupt_identification ≡ 0x01 = rw (no_thre, no_rda) refl in
    ap (λ (s : State). answers_none offset (shown_at offset s)) is.port
    ∙ answers s (dlab_after start before) offset reads clear

timed-none : (start : State) (before : Trace) → TimeoutAfterNone start before []
timed-none start before later earlier read whole reads none = absurd (nothing_there later earlier read whole)

timed-call : (start : State) (before : Trace) (c : ConsoleState) (call : Call) → IsAt start before c
    → TimeoutAfterNone start before (entries_of call c)
timed-call start before c (Reads offset) is =
    timed-read start before offset (answers_none offset (shown_at offset c.port)) (none-at start before c offset is)
timed-call start before c (Writes offset value) is =
    one-other start before (Write offset value) (no-write (register_at (dlab_after start before) offset) (loopback_after start before) value)
timed-call start before c (Receives bytes) is =
    one-other start before (Enqueue _) (no-enqueue (loopback_after start before) _)
timed-call start before c Turns is = one-other start before CharacterTimeout no-timeout
timed-call start before c (Consumes count) is = timed-none start before
timed-call start before c Refuses is = timed-none start before
timed-call start before c Resets is = timed-none start before
timed-call start before c Suspends is = timed-none start before
timed-call start before c (SetsPolled is_polled) is = timed-none start before

pub timeout_law : TimeoutLaw
timeout_law start before c [] is none = timed-none start before
timeout_law start before c (call ∷ calls) is none =
    subst (TimeoutAfterNone start before) (sym (newest-more call calls c))
    (timed-both start before (entries_of call c) (newest calls (after call c)) (timed-call start before c call is)
    (timeout_law start (entries_of call c ++ before) (after call c) calls
    (at-call start before c call is (first_none (is_reset call c) _ none)) (later_none (is_reset call c) _ none)))

-- ---- and a turn

pub in-each-append : {A : Type 0} → (of : Call → ConsoleState → List A) (calls more : List Call) (c : ConsoleState)
    → in_each of (calls ++ more) c ≡ in_each of calls c ++ in_each of more (after_calls calls c)
in-each-append of [] more c = refl
in-each-append of (call ∷ calls) more c =
    ap (λ ops. of call c ++ ops) (in-each-append of calls more (after call c))
    ∙ sym (append_assoc (of call c) (in_each of calls (after call c)) (in_each of more (after_calls calls (after call c))))

turned : (calls : List Call) (c : ConsoleState) → newest (calls ++ Turns ∷ []) c ≡ timeout_entry Asked.Nothing ∷ newest calls c
turned calls c =
    ap (trace_with []) (in-each-append port_calls calls (Turns ∷ []) c)
    ∙ trace-ops [] (in_each port_calls calls c) (CharacterTimeout ∷ [])

no-reset : (calls : List Call) (c : ConsoleState) → in_one is_reset calls c ≡ false → in_one is_reset (calls ++ Turns ∷ []) c ≡ false
no-reset [] c none = refl
no-reset (call ∷ calls) c none =
    both_none (is_reset call c) _ (first_none (is_reset call c) _ none) (no-reset calls (after call c) (later_none (is_reset call c) _ none)) where
      both_none : (first later : Bool) → first ≡ false → later ≡ false → (first || later) ≡ false
      both_none first later no_first no_later = grind arith

pub monitored_law : MonitoredLaw
monitored_law driver start before c calls is none = record {
  after_none = timeout_law start before c (calls ++ Turns ∷ []) is (no-reset calls c none);
  in_loop = inr (record {
    later = [];
    asked = Asked.Nothing;
    earlier = newest calls c;
    place = turned calls c;
    unread = λ later earlier entry place. absurd (nothing_there later earlier entry place);
  });
}
