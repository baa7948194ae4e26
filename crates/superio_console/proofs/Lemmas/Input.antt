-- SPDX-License-Identifier: Apache-2.0 OR BSD-3-Clause
-- The order of what goes through the FIFO, and when input goes in.
use Rattle.std.proofs.Common.{◌≡◌, ℕ, ◌-◌, Bool, true, false, ◌&&◌, ◌||◌, not, List, [], ◌∷◌, ◌++◌, length, take, ap, sym, refl, ◌∙◌, inl, inr, arith, append_assoc, append-nil, if◌then◌else◌, IsTrue}
use Rattle.std.proofs.lemmas.Bool.{false≢true}
use Rattle.std.proofs.lemmas.List.{take-take, take_all}
use Rattle.superio_laws.specs.Serial.{State, Asked, Sent, Read, Write, CharacterTimeout, Response, Register, is_loopback, is_dlab, register_at, enqueued_bytes, step, step_response, decode_read, decode_write}
use Rattle.superio_laws.specs.Serial.History.{byte_read, accepted_by}
use Rattle.superio_laws.proofs.Lemmas.Serial.Laws.OneCall.{one_read, received_bytes}
use Rattle.superio_console.specs.Console.{ConsoleState, Call, Reads, Writes, Receives, Consumes, Turns, Refuses, Resets, Suspends, SetsPolled, input_room, is_open, new_console, shown_at, answers_none, steps, after}
use Rattle.superio_console.specs.Laws.{after_calls, IsSplit, KeepsInput, left_at, received_at, looped_at, InputLaw, in_each, in_one, is_reset, is_ready_write, lets_poll, NoneBefore, closes_gate, NamesRoom, GateLaw, SleepLaw, OpenLaw, PolledLaw}
use Rattle.superio_console.proofs.Lemmas.Port.{first_none, later_none}
use Rattle.superio_console.proofs.Lemmas.Output.{split-append}

-- ---- a call, and several calls

taken-whole : (loopback is_open : Bool) (room : ℕ) (bytes : List ℕ)
    → (if loopback then [] else take room (take (if is_open && not loopback then room else 0) bytes))
    ≡ take (if is_open && not loopback then room else 0) bytes
taken-whole true true room bytes = refl
taken-whole true false room bytes = refl
taken-whole false true room bytes = take-take room room bytes (omega arith)
taken-whole false false room bytes = take_all room [] (omega arith)

whole-input : (c : ConsoleState) (bytes : List ℕ)
    → enqueued_bytes c.port (take (input_room c) bytes) ≡ take (input_room c) bytes
whole-input c bytes =
    taken-whole (is_loopback c.port.modem_control) (is_open c) (64 - length c.port.in_buffer) bytes

split-first : (bytes : List ℕ) → IsSplit bytes bytes []
split-first [] = (refl, refl)
split-first (byte ∷ bytes) = inl (bytes, refl, split-first bytes)

split-second : (bytes : List ℕ) → IsSplit bytes [] bytes
split-second [] = (refl, refl)
split-second (byte ∷ bytes) = inr (bytes, refl, split-second bytes)

-- a character timeout keeps the bytes
read-held : (none : Bool) (read : State) → (steps (if none then CharacterTimeout ∷ [] else []) read).in_buffer ≡ read.in_buffer
read-held true read = refl
read-held false read = refl

-- a read of no data register, and a write, take nothing
accepted-none : (register : Register) (held : List ℕ) → accepted_by (decode_read register) held ≡ []
accepted-none register held = grind arith

none-read : (register : Register) (loopback : Bool) (value : ℕ) (held : List ℕ) (reply : Response)
    → byte_read (decode_write register loopback value) held reply ≡ []
none-read register loopback value held reply = grind arith

keeps-call : (call : Call) (c : ConsoleState) → KeepsInput (left_at call c) (received_at call c) (looped_at call c) c (after call c)
keeps-call (Reads offset) c =
    let s = c.port in
    let none = answers_none offset (shown_at offset s) in
    record {
      arrived = [];
      sources = (refl, refl);
      in_order =
          ap (λ held. left_at (Reads offset) c ++ held) (read-held none (step s (Read offset) Asked.Nothing))
          ∙ one_read s (Read offset) Asked.Nothing Sent.Nothing
          ∙ ap (λ bytes. s.in_buffer ++ bytes) (accepted-none (register_at (is_dlab s.line_control) offset) s.in_buffer);
    }
keeps-call (Writes offset value) c = record {
  arrived = looped_at (Writes offset value) c;
  sources = split-second (looped_at (Writes offset value) c);
  in_order =
      ap (λ bytes. bytes ++ (after (Writes offset value) c).port.in_buffer)
      (sym (none-read (register_at (is_dlab c.port.line_control) offset) (is_loopback c.port.modem_control) value c.port.in_buffer
      (step_response c.port (Write offset value) Asked.Nothing Sent.Nothing)))
      ∙ one_read c.port (Write offset value) Asked.Nothing Sent.Nothing;
}
keeps-call (Receives bytes) c = record {
  arrived = take (input_room c) bytes;
  sources = split-first (take (input_room c) bytes);
  in_order =
      received_bytes (enqueued_bytes c.port (take (input_room c) bytes)) c.port
      ∙ ap (λ more. c.port.in_buffer ++ more) (whole-input c bytes);
}
keeps-call (Consumes count) c = record { arrived = []; sources = (refl, refl); in_order = sym (append-nil c.port.in_buffer) }
keeps-call Turns c = record { arrived = []; sources = (refl, refl); in_order = sym (append-nil c.port.in_buffer) }
keeps-call Refuses c = record { arrived = []; sources = (refl, refl); in_order = sym (append-nil c.port.in_buffer) }
keeps-call Suspends c = record { arrived = []; sources = (refl, refl); in_order = sym (append-nil c.port.in_buffer) }
keeps-call (SetsPolled is_polled) c = record { arrived = []; sources = (refl, refl); in_order = sym (append-nil c.port.in_buffer) }
keeps-call Resets c = record { arrived = []; sources = (refl, refl); in_order = refl }

keeps-then : (left received looped left_more received_more looped_more : List ℕ) (old middle new : ConsoleState)
    → KeepsInput left received looped old middle → KeepsInput left_more received_more looped_more middle new
    → KeepsInput (left ++ left_more) (received ++ received_more) (looped ++ looped_more) old new
keeps-then left received looped left_more received_more looped_more old middle new first second = record {
  arrived = first.arrived ++ second.arrived;
  sources = split-append first.arrived second.arrived received looped received_more looped_more first.sources second.sources;
  in_order =
      append_assoc left left_more new.port.in_buffer
      ∙ ap (λ bytes. left ++ bytes) second.in_order
      ∙ sym (append_assoc left middle.port.in_buffer second.arrived)
      ∙ ap (λ bytes. bytes ++ second.arrived) first.in_order
      ∙ append_assoc old.port.in_buffer first.arrived second.arrived;
}

pub input_law : InputLaw
input_law [] c = record { arrived = []; sources = (refl, refl); in_order = sym (append-nil c.port.in_buffer) }
input_law (call ∷ later) c =
    let next = after call c in
    keeps-then (left_at call c) (received_at call c) (looped_at call c) _ _ _ c next (after_calls later next)
    (keeps-call call c) (input_law later next)

-- ---- when input goes in

shut : (is_open loopback : Bool) (room : ℕ) (bytes : List ℕ) → is_open ≡ false
    → take (if is_open && not loopback then room else 0) bytes ≡ []
shut true loopback room bytes is = absurd (false≢true (sym is))
shut false loopback room bytes is = refl

pub none-in : (call : Call) (c : ConsoleState) → is_open c ≡ false → received_at call c ≡ []
none-in (Receives bytes) c is =
    shut (is_open c) (is_loopback c.port.modem_control) (64 - length c.port.in_buffer) bytes is
none-in (Reads offset) c is = refl
none-in (Writes offset value) c is = refl
none-in (Consumes count) c is = refl
none-in Turns c is = refl
none-in Refuses c is = refl
none-in Resets c is = refl
none-in Suspends c is = refl
none-in (SetsPolled is_polled) c is = refl

neither : (ready polled asleep : Bool) → ready ≡ false → polled ≡ false → ((ready || polled) && not asleep) ≡ false
neither ready polled asleep no_ready no_polled = grind arith

stays-unready : (call : Call) (c : ConsoleState) → c.is_ready ≡ false → is_ready_write call c ≡ false → (after call c).is_ready ≡ false
stays-unready call c no_ready none = grind arith

stays-unpolled : (call : Call) (c : ConsoleState) → c.is_polled ≡ false → lets_poll call c ≡ false → (after call c).is_polled ≡ false
stays-unpolled call c no_polled none = grind arith

none-before : (c : ConsoleState) → c.is_ready ≡ false → c.is_polled ≡ false → NoneBefore c
none-before c no_ready no_polled [] none none_polls = refl
none-before c no_ready no_polled (call ∷ later) none none_polls =
    let next = after call c in
    ap (λ bytes. bytes ++ in_each received_at later next)
    (none-in call c (neither c.is_ready c.is_polled c.is_asleep no_ready no_polled))
    ∙ none-before next (stays-unready call c no_ready (first_none (is_ready_write call c) _ none))
    (stays-unpolled call c no_polled (first_none (lets_poll call c) _ none_polls)) later
    (later_none (is_ready_write call c) _ none) (later_none (lets_poll call c) _ none_polls)

pub gate_law : GateLaw
gate_law = (none-before (new_console false) refl refl, λ c no_polled. none-before (after Resets c) refl no_polled)

asleep_shut : (ready polled asleep : Bool) → IsTrue asleep → ((ready || polled) && not asleep) ≡ false
asleep_shut ready polled asleep is = grind arith

stays-asleep : (call : Call) (c : ConsoleState) → IsTrue c.is_asleep → is_ready_write call c ≡ false → is_reset call c ≡ false
    → IsTrue (after call c).is_asleep
stays-asleep call c is none no_reset = grind arith

asleep-run : (calls : List Call) (c : ConsoleState) → IsTrue c.is_asleep → in_one is_ready_write calls c ≡ false
    → in_one is_reset calls c ≡ false → in_each received_at calls c ≡ []
asleep-run [] c is none no_reset = refl
asleep-run (call ∷ later) c is none no_reset =
    let next = after call c in
    ap (λ bytes. bytes ++ in_each received_at later next) (none-in call c (asleep_shut c.is_ready c.is_polled c.is_asleep is))
    ∙ asleep-run later next
    (stays-asleep call c is (first_none (is_ready_write call c) _ none) (first_none (is_reset call c) _ no_reset))
    (later_none (is_ready_write call c) _ none) (later_none (is_reset call c) _ no_reset)

pub sleep_law : SleepLaw
sleep_law calls c none no_reset = asleep-run calls (after Suspends c) refl none no_reset

all_room : (is_open loopback : Bool) (room : ℕ) → IsTrue is_open → loopback ≡ false
    → (if is_open && not loopback then room else 0) ≡ room
all_room is_open loopback room is outside = grind arith

names-room : (c : ConsoleState) → IsTrue (is_open c) → NamesRoom c
names-room c is outside = all_room (is_open c) (is_loopback c.port.modem_control) (64 - length c.port.in_buffer) is outside

awake_open : (ready polled asleep : Bool) → IsTrue ready → asleep ≡ false → IsTrue ((ready || polled) && not asleep)
awake_open ready polled asleep is awake = grind arith

polled_open : (ready polled asleep : Bool) → IsTrue polled → asleep ≡ false → IsTrue ((ready || polled) && not asleep)
polled_open ready polled asleep is awake = grind arith

stays-ready : (call : Call) (c : ConsoleState) → IsTrue c.is_ready → closes_gate call c ≡ false → IsTrue (after call c).is_ready
stays-ready call c is none = grind arith

stays-awake : (call : Call) (c : ConsoleState) → c.is_asleep ≡ false → closes_gate call c ≡ false → (after call c).is_asleep ≡ false
stays-awake call c awake none = grind arith

open-run : (rest : List Call) (c : ConsoleState) → IsTrue c.is_ready → c.is_asleep ≡ false → in_one closes_gate rest c ≡ false
    → NamesRoom (after_calls rest c)
open-run [] c is awake none = names-room c (awake_open c.is_ready c.is_polled c.is_asleep is awake)
open-run (call ∷ rest) c is awake none =
    open-run rest (after call c) (stays-ready call c is (first_none (closes_gate call c) _ none))
    (stays-awake call c awake (first_none (closes_gate call c) _ none)) (later_none (closes_gate call c) _ none)

is-ready : (write : Call) (c : ConsoleState) → IsTrue (is_ready_write write c) → IsTrue (after write c).is_ready
is-ready write c opens = grind arith

is-awake : (write : Call) (c : ConsoleState) → IsTrue (is_ready_write write c) → (after write c).is_asleep ≡ false
is-awake write c opens = grind arith

pub open_law : OpenLaw
open_law write rest c opens none = open-run rest (after write c) (is-ready write c opens) (is-awake write c opens) none

pub polled_law : PolledLaw
polled_law c is awake = names-room c (polled_open c.is_ready c.is_polled c.is_asleep is awake)
