-- SPDX-License-Identifier: Apache-2.0 OR BSD-3-Clause
-- The history gives the state after a trace and the response of each call. So whole runs are as it says, and so are
-- whole runs of a port without objects.
use Rattle.std.proofs.Common.{arith, sym, ◌≡◌, ℕ, Bool, false, List, [], refl, ap, ◌∙◌, ◌+◌, not, ◌&&◌, ◌∷◌, subst, IsTrue, ◌++◌, length, append_assoc, append-nil, if◌then◌else◌}
use Rattle.std.proofs.lemmas.Bool.{and_parts}
use Rattle.std.specs.Bool.{beq}
use Rattle.std.specs.Cmp.Derive.{both_true}
use Rattle.superio_laws.specs.Serial.{decode_in, Asked, Sent, Op, Restore, TraceEntry, NoResponse, is_sent, count_if, DecodedOp, Response, State, conditions_due, step_response, step, step_events, Rda, Thre, answers_all}
use Rattle.superio_laws.specs.Serial.{step_calls, sends_byte, answers_fit, Coherent, Other, RxInput, decode_read, sent_by, Write, Enqueue, CharacterTimeout, ByteRead, Trace, Read, not_empty, Register, is_dlab, register_at, bytes_that_fit}
use Rattle.superio_laws.specs.Serial.{decoded_calls}
use Rattle.superio_laws.specs.Serial.History.{history_response, state_of_history, calls_due, decoded_events, loopback_after, held_bytes, decode_at, dlab_after, ier_after, raises_rda, is_pending, raises_thre, is_fitting, output, accepted_by}
use Rattle.superio_laws.specs.Serial.Laws.{state_after, StateLaw, ResponseLaw, StepLaw, CallLaw, RetryLaw, StepsFollow, RunAgrees, WholeRunLaw}
use Rattle.superio_laws.proofs.Lemmas.Serial.Laws.{state_of_history-by_state, held_bytes_law, line_status_law}
use Rattle.superio_laws.proofs.Lemmas.Serial.Laws.Interrupts.{interrupt_law, due_is, coherent_after}
use Rattle.superio_laws.proofs.Lemmas.Serial.Laws.Consequences.{call_written, due_so_far, due-within}
use Rattle.superio_laws.specs.Serial.Laws.UartRun.{UartCall, UartRead, UartWrite, UartEnqueue, UartTimeout, UartRestore, IsUartCall, UartCallsFollow, op_of_call, ops_of_calls, without_results}
use Rattle.superio_laws.specs.Serial.Laws.UartRun.{trace_with, EffectsAre, AllEffectsAre, UartRunLaw, byte_to_send, bytes_to_send, UartOutputLaw, interrupts_of, interrupts_to_raise, UartBoundLaw}

pub state_law : StateLaw
state_law start trace coherent =
    let interrupts = interrupt_law start trace coherent.thre coherent.rda coherent.identification in
    (λ i. record (state_after start trace) {
      interrupt_identification = interrupts.pending i;
      line_status = line_status_law start trace coherent.data_ready i;
      in_buffer = held_bytes_law start trace i;
    })
    ∙ sym (state_of_history-by_state start trace _ _ _)

answer_reported : (start : State) (trace : List TraceEntry) (op : Op) (asked : Asked) (outcome : Sent)
    → step_response (state_of_history start trace) op asked outcome ≡ history_response start trace op asked outcome
answer_reported start trace op asked outcome = grind arith

pub response_law : ResponseLaw
response_law start trace entry coherent =
    ap (λ (s : State). step_response s entry.op entry.asked entry.sent) (state_law start trace coherent)
    ∙ answer_reported start trace entry.op entry.asked entry.sent

pub ruleset states_of_history_laws = (state_law, response_law)

-- ---- a call in the state that a trace describes is a step of the history

-- a call reports the events of its kind, with the bytes that it leaves
reported : (s : State) (op : Op) (asked : Asked) (outcome : Sent) → IsTrue (beq (is_sent outcome) (sends_byte s op))
    → step_events s op outcome ≡ decoded_events (decode_in s op) (step s op asked).in_buffer outcome
reported s op asked outcome fits = grind arith

-- ---- trigger calls

-- as long as none is refused, THRE is raised as if no call were made for the other condition
none_refused : (k : DecodedOp) (enable : ℕ) (called pending : Bool)
    → (raises_thre k enable false && not pending)
    ≡ (raises_thre k enable (called && false) && not pending)
none_refused k enable called pending = grind arith

calls_at_point : (start : State) (trace : List TraceEntry) (op : Op)
    → step_calls (state_of_history start trace) op ≡ calls_due start trace op
calls_at_point start trace op =
    let k = decode_at start trace op in
    let raised = raises_rda k (held_bytes start trace) (ier_after start trace) in
    let called = raised && not (is_pending Rda start trace) in
    due_is k (state_of_history start trace) (is_pending Thre start trace) (is_pending Rda start trace) refl
    ∙ ap (λ second. count_if called + count_if second)
    (none_refused k (ier_after start trace) called (is_pending Thre start trace))

-- ---- the laws

pub step_law : StepLaw
step_law start trace coherent =
    let interrupts = interrupt_law start trace coherent.thre coherent.rda coherent.identification in
    let here = state_law start trace coherent in
    record {
      calls = calls_at_point start trace;
      restoring = ap conditions_due (sym here) ∙ interrupts.restoring;
      steps = λ entry fits.
          let outcome_fits = (and_parts (answers_all (step_calls (state_of_history start trace) entry.op) entry.asked)
          (beq (is_sent entry.sent) (sends_byte (state_of_history start trace) entry.op)) fits).1 in
          let goes_on = ap (λ (s : State). step s entry.op entry.asked) (sym here)
          ∙ state_law start (entry ∷ trace) coherent in
          record {
            response = ap (λ (s : State). step_response s entry.op entry.asked entry.sent) (sym here)
                ∙ response_law start trace entry coherent;
            state = goes_on;
            events =
                reported (state_of_history start trace) entry.op entry.asked entry.sent outcome_fits
                ∙ ap (λ (s : State). decoded_events (decode_at start trace entry.op) s.in_buffer entry.sent) goes_on;
            output = call_written (dlab_after start trace) (loopback_after start trace) entry.op entry.sent outcome_fits;
          };
    }

pub call_law : CallLaw
call_law start trace entry reply old new coherent is fits replied stepped =
    let interrupts = interrupt_law start trace coherent.thre coherent.rda coherent.identification in
    let after = state_law start trace coherent in
    let here = subst (λ (s : State). IsTrue (answers_fit s entry.op entry.asked entry.sent)) is fits in
    let agrees = (step_law start trace coherent).steps entry here in
    record {
      fitting = sym (interrupts.calls entry)
          ∙ subst (λ (s : State). IsTrue (answers_fit s entry.op entry.asked entry.sent)) (sym after) here;
      response = replied ∙ ap (λ (s : State). step_response s entry.op entry.asked entry.sent) is ∙ agrees.response;
      state = stepped ∙ ap (λ (s : State). step s entry.op entry.asked) is ∙ agrees.state;
    }

pub retry_law : RetryLaw
retry_law start trace s coherent here = record {
  calls = ap conditions_due here ∙ (step_law start trace coherent).restoring;
  counted =
      call_law start trace (record { op = Restore; asked = Asked.Nothing; sent = Sent.Nothing }) NoResponse s s coherent here
      refl refl refl;
}

-- ---- entries that follow each other by steps form a fitting trace

run_from : (start : State) (trace : List TraceEntry) (calls : List (TraceEntry × Response)) (end : State) → Coherent start
    → IsTrue (is_fitting start trace) → StepsFollow (state_after start trace) calls end
    → RunAgrees start trace calls end
run_from start trace [] end coherent fitting follow = record {
  fitting = fitting;
  responses = tt;
  state = follow ∙ state_law start trace coherent;
  coherent = subst Coherent (sym follow) (coherent_after start trace coherent);
}
run_from start trace (call ∷ later) end coherent fitting follow =
    let interrupts = interrupt_law start trace coherent.thre coherent.rda coherent.identification in
    let here = sym (interrupts.calls call.0) ∙ follow.0 in
    let all = both_true here fitting in
    let rest = run_from start (call.0 ∷ trace) later end coherent all follow.2 in
    record {
      fitting = rest.fitting;
      responses = (follow.1 ∙ response_law start trace call.0 coherent, rest.responses);
      state = rest.state;
      coherent = rest.coherent;
    }

pub whole_run_law : WholeRunLaw
whole_run_law start end calls coherent follow = run_from start [] calls end coherent refl follow

-- ---- the calls of a port without objects, by the history

-- ---- one call

-- it is a step without a refusal
pub step-of-call : (call : UartCall) (old new : State) → IsUartCall call old new → new ≡ step old (op_of_call call) Asked.Nothing
step-of-call call old new is = grind arith

read-possible :
    (register : Register) (s : State)
    → IsTrue (answers_all (decoded_calls (decode_read register) s) Asked.Nothing
    && beq (is_sent Sent.Nothing) (not_empty (sent_by (decode_read register))))
read-possible register s = grind arith

-- the byte of a read's response
abbrev byte_in : Response → ℕ
byte_in (ByteRead byte) = byte
byte_in _ = 0

-- how many bytes an enqueue takes
taken-accepted :
    (loopback : Bool) (bytes held : List ℕ)
    → length (if loopback then [] else bytes_that_fit held bytes)
    ≡ length (accepted_by (if loopback then Other else RxInput bytes) held)
taken-accepted loopback bytes held = grind arith

module _ (start : State) (coherent : Coherent start) where
  effects-at-point : (trace : Trace) (call : UartCall) (new : State) → IsUartCall call (state_of_history start trace) new → EffectsAre start trace call
  effects-at-point trace (UartRead offset effects) new is =
      let s = state_of_history start trace in
      let possible = read-possible (register_at (is_dlab s.line_control) offset) s in (
        ap byte_in is.response,
        is.events ∙ ((step_law start trace coherent).steps (without_results (Read offset)) possible).events,
      )
  effects-at-point trace (UartWrite offset value effects) new is =
      (is.sends, is.interrupts ∙ (step_law start trace coherent).calls (Write offset value))
  effects-at-point trace (UartEnqueue bytes effects) new is = (
    is.accepted ∙ taken-accepted (loopback_after start trace) bytes (held_bytes start trace),
    is.fifo_full,
    is.interrupts ∙ (step_law start trace coherent).calls (Enqueue bytes),
  )
  effects-at-point trace (UartTimeout interrupts) new is = is.interrupts ∙ (step_law start trace coherent).calls CharacterTimeout
  effects-at-point trace (UartRestore interrupts) new is = is.0 ∙ ap (λ due. length due) (step_law start trace coherent).restoring

  state-at-point :
      (trace : Trace) (call : UartCall) (new : State) → IsUartCall call (state_of_history start trace) new
      → new ≡ state_of_history start (without_results (op_of_call call) ∷ trace)
  state-at-point trace call new is =
      step-of-call call (state_of_history start trace) new is
      ∙ ap (λ (s : State). step s (op_of_call call) Asked.Nothing) (sym (state_law start trace coherent))
      ∙ state_law start (without_results (op_of_call call) ∷ trace) coherent

  -- calls that follow each other
  run-from :
      (trace : Trace) (s end : State) (calls : List UartCall) → s ≡ state_of_history start trace → UartCallsFollow s calls end
      → AllEffectsAre start trace calls × (end ≡ state_of_history start (trace_with trace (ops_of_calls calls)))
  run-from trace s end [] here done = (tt, done ∙ here)
  run-from trace s end (call ∷ later) here calls =
      let is = subst (λ s. IsUartCall call s calls.0) here calls.1 in
      let rest = run-from (without_results (op_of_call call) ∷ trace) calls.0 end later (state-at-point trace call calls.0 is) calls.2 in
      ((effects-at-point trace call calls.0 is, rest.0), rest.1)

pub port_run_law : UartRunLaw
port_run_law start end calls before follow =
    let run = run-from start before [] start end calls (state_law start [] before) follow in
    let trace = trace_with [] (ops_of_calls calls) in
    record {
      effects = run.0;
      state = run.1;
      coherent = subst Coherent (state_law start trace before ∙ sym run.1) (coherent_after start trace before);
    }

-- ---- the output

told-at-point :
    (start : State) (trace : Trace) (call : UartCall) → EffectsAre start trace call
    → byte_to_send call ≡ sent_by (decode_at start trace (op_of_call call))
told-at-point start trace call are = grind arith

told-is-output :
    (start : State) (trace : Trace) (calls : List UartCall) → AllEffectsAre start trace calls
    → output start [] trace ++ bytes_to_send calls ≡ output start [] (trace_with trace (ops_of_calls calls))
told-is-output start trace [] are = append-nil (output start [] trace)
told-is-output start trace (call ∷ later) are =
    let entry = without_results (op_of_call call) in
    let at_end : sent_by (decode_at start (trace ++ []) entry.op) ≡ sent_by (decode_at start trace entry.op) =
    ap (λ before. sent_by (decode_at start before entry.op)) (append-nil trace) in
    sym (append_assoc (output start [] trace) (byte_to_send call) (bytes_to_send later))
    ∙ ap (λ now. (output start [] trace ++ now) ++ bytes_to_send later) (told-at-point start trace call are.0 ∙ sym at_end)
    ∙ told-is-output start (entry ∷ trace) later are.1

pub port_output_law : UartOutputLaw
port_output_law start end calls before follow =
    told-is-output start [] calls (port_run_law start end calls before follow).effects

-- ---- interrupts

module _ (start : State) (coherent : Coherent start) where
  told-due :
      (trace : Trace) (call : UartCall) → EffectsAre start trace call
      → interrupts_of call ≡ calls_due start trace (op_of_call call)
  told-due trace call are = grind arith

  told-so-far :
      (trace : Trace) (calls : List UartCall) → AllEffectsAre start trace calls
      → interrupts_to_raise calls + due_so_far start trace ≡ due_so_far start (trace_with trace (ops_of_calls calls))
  told-so-far trace [] are = omega arith
  told-so-far trace (call ∷ later) are =
      omega (arith, told-due trace call are.0, told-so-far (without_results (op_of_call call) ∷ trace) later are.1)

pub port_bound_law : UartBoundLaw
port_bound_law start end calls before follow =
    omega (
      arith,
      told-so-far start before [] calls (port_run_law start end calls before follow).effects,
      due-within start (trace_with [] (ops_of_calls calls)),
    )

pub ruleset uart_run_laws = (port_run_law, port_output_law, port_bound_law)
