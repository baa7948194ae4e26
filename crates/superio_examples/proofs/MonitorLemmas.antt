-- SPDX-License-Identifier: Apache-2.0 OR BSD-3-Clause
-- The events' claims, by the laws of a console over the calls that they make.
use Rattle.std.proofs.Common.{◌≡◌, ℕ, zero, suc, ◌+◌, ◌-◌, ◌^◌, ◌<◌, ◌==◌, Bool, true, false, not, ◌&&◌, nat_lt, min, List, [], ◌∷◌, ◌++◌, length, take, map, Option, Some, None, refl, sym, ap, subst, ◌∙◌, append_assoc, append-nil, length-append, take-append-drop, if◌then◌else◌, arith}
use Rattle.std.specs.Option.{option_map}
use Rattle.std.proofs.lemmas.Bool.Decides.{nat_tests}
use Rattle.std.proofs.lemmas.List.{take_all}
use Rattle.superio_laws.specs.Serial.{DecodedOp, Write, not_empty, sent_by, decode_in}
use Rattle.superio_console.specs.Console.{ConsoleState, Call, Reads, Writes, Receives, Consumes, Turns, Refuses, Resets, Suspends, SetsPolled, output_with, dropped_with, is_open, input_room, after}
use Rattle.superio_console.specs.Laws.{after_calls, in_each, in_one, left_at, looped_at, received_at, taken_at, KeepsInput}
use Rattle.superio_console.proofs.Lemmas.Input.{input_law, none-in}
use Rattle.superio_console.proofs.Lemmas.Port.{first_none, later_none}
use Rattle.superio_examples.specs.declared.monitor.Answer.TheVariants as answer
use Rattle.superio_examples.specs.declared.monitor.MachineEvent.TheVariants.{PortRead, PortWrite, MemoryRead, MemoryWrite, Typed, Drained, Moment, Timer, Refused, Suspended}
use Rattle.superio_examples.specs.Monitor.{Machine, MachineEvent, call_of, call_then, calls_of, console_after, after_event, after_events, answer_to, replies_to, asks_reset, is_reset_answer, is_reset_reply, accepted_by, accepted, InputInOrder, may_open, KeepsOut, kept_at, dropped_at, KeepsOutput, OutputInOrder}

-- ---- the console

one-call : (call : Option Call) (calls : List Call) (c : ConsoleState)
    → after_calls calls (console_after call c) ≡ after_calls (call_then call calls) c
one-call None calls c = refl
one-call (Some call) calls c = refl

pub console-run : (events : List MachineEvent) (m : Machine)
    → (after_events events m).console ≡ after_calls (calls_of events) m.console
console-run [] m = refl
console-run (event ∷ events) m =
    console-run events (after_event event m) ∙ one-call (call_of event) (calls_of events) m.console

-- ---- resets

reset-answer : (event : MachineEvent) (m : Machine) → is_reset_answer (answer_to event m) ≡ asks_reset event
reset-answer event m = grind arith

pub resets-run : (events : List MachineEvent) (m : Machine) → map is_reset_reply (replies_to events m) ≡ map asks_reset events
resets-run [] m = refl
resets-run (event ∷ events) m =
    ap (λ asked. asked ∷ map is_reset_reply (replies_to events (after_event event m))) (reset-answer event m)
    ∙ ap (λ resets. asks_reset event ∷ resets) (resets-run events (after_event event m))

-- ---- input that is accepted

one-typed : (room byte : ℕ) → accepted_by (Typed byte) (if room == 0 then answer.Full else answer.Done) ≡ take room (byte ∷ [])
one-typed zero byte = refl
one-typed (suc room) byte =
    let some : (suc room == 0) ≡ false = grind (arith, nat_tests) in
    ap (λ none. accepted_by (Typed byte) (if none then answer.Full else answer.Done)) some
    ∙ ap (λ more. byte ∷ more) (sym (take_all room [] (omega arith)))

no-read : (offset : Option ℕ) (calls : List Call) (c : ConsoleState)
    → in_each received_at calls (console_after (option_map Reads offset) c) ≡ in_each received_at (call_then (option_map Reads offset) calls) c
no-read None calls c = refl
no-read (Some offset) calls c = refl

no-write : (resets : Bool) (offset : Option ℕ) (value : ℕ) (calls : List Call) (c : ConsoleState)
    → in_each received_at calls (console_after (if resets then Some Resets else option_map (λ offset. Writes offset value) offset) c)
    ≡ in_each received_at (call_then (if resets then Some Resets else option_map (λ offset. Writes offset value) offset) calls) c
no-write true offset value calls c = refl
no-write false None value calls c = refl
no-write false (Some offset) value calls c = refl

one-accepted : (event : MachineEvent) (calls : List Call) (m : Machine)
    → accepted_by event (answer_to event m) ++ in_each received_at calls (console_after (call_of event) m.console)
    ≡ in_each received_at (call_then (call_of event) calls) m.console
one-accepted (PortRead port) calls m = no-read _ calls m.console
one-accepted (PortWrite port value) calls m = no-write _ _ value calls m.console
one-accepted (MemoryRead address) calls m = refl
one-accepted (MemoryWrite address value) calls m = refl
one-accepted (Typed byte) calls m =
    ap (λ bytes. bytes ++ in_each received_at calls (after (Receives (byte ∷ [])) m.console))
    (one-typed (input_room m.console) byte)
one-accepted (Drained count) calls m = refl
one-accepted (Moment moment) calls m = refl
one-accepted Timer calls m = refl
one-accepted Refused calls m = refl
one-accepted Suspended calls m = refl

accepted-run : (events : List MachineEvent) (m : Machine)
    → accepted events (replies_to events m) ≡ in_each received_at (calls_of events) m.console
accepted-run [] m = refl
accepted-run (event ∷ events) m =
    ap (λ bytes. accepted_by event (answer_to event m) ++ bytes) (accepted-run events (after_event event m))
    ∙ one-accepted event (calls_of events) m

pub input-run : (events : List MachineEvent) (m : Machine) → InputInOrder events (replies_to events m) m (after_events events m)
input-run events m =
    let calls = calls_of events in
    let left = in_each left_at calls m.console in
    let looped = in_each looped_at calls m.console in
    subst (λ (c : ConsoleState). KeepsInput left (accepted events (replies_to events m)) looped m.console c) (sym (console-run events m))
    (subst (λ (bytes : List ℕ). KeepsInput left bytes looped m.console (after_calls calls m.console)) (sym (accepted-run events m))
    (input_law calls m.console))

-- ---- when input goes in

stays-shut : (call : Call) (c : ConsoleState) → is_open c ≡ false → may_open call c ≡ false → is_open (after call c) ≡ false
stays-shut call c is none = grind arith

shut-run : (calls : List Call) (c : ConsoleState) → is_open c ≡ false → in_one may_open calls c ≡ false
    → in_each received_at calls c ≡ []
shut-run [] c is none = refl
shut-run (call ∷ later) c is none =
    let next = after call c in
    ap (λ bytes. bytes ++ in_each received_at later next) (none-in call c is)
    ∙ shut-run later next (stays-shut call c is (first_none (may_open call c) _ none)) (later_none (may_open call c) _ none)

pub gate-run : (events : List MachineEvent) (m : Machine) → KeepsOut events (replies_to events m) m
gate-run events m is none = accepted-run events m ∙ shut-run (calls_of events) m.console is none

-- ---- output

one-byte : (room : Bool) (byte : ℕ) (output : List ℕ) (count : ℕ) → count < 2 ^ 64
    → ((if room then output ++ byte ∷ [] else output) ≡ output ++ (if true && not room then [] else byte ∷ []))
    × ((if room then count else min (count + 1) (2 ^ 64 - 1))
    ≡ min (count + length (if true && not room then byte ∷ [] else [])) (2 ^ 64 - 1))
one-byte true byte output count few = (refl, omega (arith, few))
one-byte false byte output count few = (sym (append-nil output), refl)

one-kind : (kind : DecodedOp) (output : List ℕ) (count : ℕ) → count < 2 ^ 64
    → (output_with (sent_by kind) output
    ≡ output ++ (if not_empty (sent_by kind) && not (nat_lt (length output) 4096) then [] else sent_by kind))
    × (dropped_with (sent_by kind) output count
    ≡ min (count + length (if not_empty (sent_by kind) && not (nat_lt (length output) 4096) then sent_by kind else [])) (2 ^ 64 - 1))
one-kind (DecodedOp.ThrWrite value) output count few = one-byte (nat_lt (length output) 4096) value output count few
one-kind _ output count few = (sym (append-nil output), omega (arith, few))

one-output : (call : Call) (c : ConsoleState) → c.dropped < 2 ^ 64
    → (taken_at call c ++ (after call c).output ≡ c.output ++ kept_at call c)
    × ((after call c).dropped ≡ min (c.dropped + length (dropped_at call c)) (2 ^ 64 - 1))
one-output (Writes offset value) c few = one-kind (decode_in c.port (Write offset value)) c.output c.dropped few
one-output (Consumes count) c few = (take-append-drop count c.output ∙ sym (append-nil c.output), omega (arith, few))
one-output (Reads offset) c few = (sym (append-nil c.output), omega (arith, few))
one-output (Receives bytes) c few = (sym (append-nil c.output), omega (arith, few))
one-output Turns c few = (sym (append-nil c.output), omega (arith, few))
one-output Refuses c few = (sym (append-nil c.output), omega (arith, few))
one-output Resets c few = (sym (append-nil c.output), omega (arith, few))
one-output Suspends c few = (sym (append-nil c.output), omega (arith, few))
one-output (SetsPolled is_polled) c few = (sym (append-nil c.output), omega (arith, few))

more_counted : (count one other limit : ℕ) → min (min (count + one) limit + other) limit ≡ min (count + (one + other)) limit
more_counted count one other limit = omega arith

still_few : (new count : ℕ) → new ≡ min count (2 ^ 64 - 1) → new < 2 ^ 64
still_few new count is = omega (arith, is)

output-calls : (calls : List Call) (c : ConsoleState) → c.dropped < 2 ^ 64 → KeepsOutput calls c (after_calls calls c)
output-calls [] c few = record { in_order = sym (append-nil c.output); counted = omega (arith, few) }
output-calls (call ∷ later) c few =
    let next = after call c in
    let first = one-output call c few in
    let rest = output-calls later next (still_few next.dropped _ first.1) in
    record {
      in_order =
          append_assoc (taken_at call c) (in_each taken_at later next) (after_calls later next).output
          ∙ ap (λ bytes. taken_at call c ++ bytes) rest.in_order
          ∙ sym (append_assoc (taken_at call c) next.output (in_each kept_at later next))
          ∙ ap (λ bytes. bytes ++ in_each kept_at later next) first.0
          ∙ append_assoc c.output (kept_at call c) (in_each kept_at later next);
      counted =
          rest.counted
          ∙ ap (λ count. min (count + length (in_each dropped_at later next)) (2 ^ 64 - 1)) first.1
          ∙ more_counted c.dropped (length (dropped_at call c)) (length (in_each dropped_at later next)) (2 ^ 64 - 1)
          ∙ ap (λ more. min (c.dropped + more) (2 ^ 64 - 1)) (sym (length-append (dropped_at call c) (in_each dropped_at later next)));
    }

pub output-run : (events : List MachineEvent) (m : Machine) → m.console.dropped < 2 ^ 64 → OutputInOrder events m (after_events events m)
output-run events m few =
    subst (λ (c : ConsoleState). KeepsOutput (calls_of events) m.console c) (sym (console-run events m))
    (output-calls (calls_of events) m.console few)
