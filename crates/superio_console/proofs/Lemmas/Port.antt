-- SPDX-License-Identifier: Apache-2.0 OR BSD-3-Clause
-- The port under a console's calls is the port to which its trace leads.
use Rattle.std.proofs.Common.{◌≡◌, Bool, false, ◌||◌, List, [], ◌∷◌, ◌++◌, refl, sym, ap, ◌∙◌, arith}
use Rattle.superio_laws.specs.Serial.{State, Op, Trace, Asked, step}
use Rattle.superio_laws.specs.Serial.Laws.{state_after}
use Rattle.superio_laws.specs.Serial.Laws.UartRun.{trace_with, without_results}
use Rattle.superio_console.specs.Console.{ConsoleState, Call, port_calls, port_after, steps, after}
use Rattle.superio_console.specs.Laws.{after_calls, in_each, in_one, is_reset, PortLaw}

-- the trace's steps, oldest first
pub steps-trace : (ops : List Op) (start : State) (trace : Trace)
    → state_after start (trace_with trace ops) ≡ steps ops (state_after start trace)
steps-trace [] start trace = refl
steps-trace (op ∷ ops) start trace = steps-trace ops start (without_results op ∷ trace)

pub steps-append : (first second : List Op) (s : State) → steps (first ++ second) s ≡ steps second (steps first s)
steps-append [] second s = refl
steps-append (op ∷ first) second s = steps-append first second (step s op Asked.Nothing)

pub first_none : (first later : Bool) → (first || later) ≡ false → first ≡ false
first_none first later none = grind arith

pub later_none : (first later : Bool) → (first || later) ≡ false → later ≡ false
later_none first later none = grind arith

pub steps-call : (call : Call) (c : ConsoleState) → is_reset call c ≡ false → port_after call c ≡ steps (port_calls call c) c.port
steps-call call c none = grind arith

pub steps-run : (calls : List Call) (c : ConsoleState) → in_one is_reset calls c ≡ false
    → (after_calls calls c).port ≡ steps (in_each port_calls calls c) c.port
steps-run [] c none = refl
steps-run (call ∷ later) c none =
    steps-run later (after call c) (later_none (is_reset call c) _ none)
    ∙ ap (steps (in_each port_calls later (after call c))) (steps-call call c (first_none (is_reset call c) _ none))
    ∙ sym (steps-append (port_calls call c) (in_each port_calls later (after call c)) c.port)

pub port_law : PortLaw
port_law calls c none = steps-run calls c none ∙ sym (steps-trace (in_each port_calls calls c) c.port [])
