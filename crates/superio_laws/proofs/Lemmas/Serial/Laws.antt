-- SPDX-License-Identifier: Apache-2.0 OR BSD-3-Clause
-- The register law: one call leaves in each register what it wrote there, and otherwise what was there.
pub mod Consequences
pub mod GuestDriver
pub mod InterruptDriver
pub mod Interrupts
pub mod ListsOfOps
pub mod OneCall
pub mod Reads
pub mod StepsOfHistory
pub mod Transmit
use Rattle.std.proofs.Common.{rules, ◌≡◌, ℕ, Bool, List, [], ◌∷◌, Option, None, refl, ap, sym, ◌∙◌, arith, subst, ◌++◌, length, drop, append_assoc, append-nil, length-append, if◌then◌else◌, unwrap_or}
use Rattle.std.specs.Option.{option_map_or}
use Rattle.std.proofs.Math.Seq.{drop-append-add}
use Rattle.superio_laws.specs.Serial.{ier_bits, Asked, Op, TraceEntry, DecodedOp, decode, State, not_empty, only_bits, has_bits, is_dlab, is_loopback, step, decode_in}
use Rattle.superio_laws.specs.Serial.History.{state_of_history, with_data_ready, value_written_at, last_found, dlab_after, decode_at, accepted_by, read_out_by, remaining_bytes, accepted_bytes, read_out_bytes, held_bytes}
use Rattle.superio_laws.specs.Serial.Laws.{RegisterLaw, state_after, HeldBytesLaw, LineStatusLaw}
use Rattle.superio_core.proofs.Lemmas.Serial.Step.{SameBytes, by_kind, next_by_kind}
use Rattle.superio_laws.specs.Serial.Laws.Consequences.{ReadOutThenHeldLaw}
use Rattle.superio_laws.proofs.Lemmas.{data_ready_right, data_ready_twice}
use Rattle.superio_laws.proofs.Lemmas.Serial.Laws.OneCall.{taken_first, left_by_kind}

-- ---- one call

-- the call leaves in each register what the operation wrote there, under this DLAB
pub record Steps (dlab : Bool) (op : Op) (s new : State) : Type 0 where
  pub divisor_low : new.baud_divisor_low ≡ unwrap_or (if dlab then value_written_at 0 op else None) s.baud_divisor_low
  pub divisor_high : new.baud_divisor_high ≡ unwrap_or (if dlab then value_written_at 1 op else None) s.baud_divisor_high
  pub interrupt_enable : new.interrupt_enable
      ≡ option_map_or (λ value. only_bits value ier_bits) (if dlab then None else value_written_at 1 op) s.interrupt_enable
  pub line_control : new.line_control ≡ unwrap_or (value_written_at 3 op) s.line_control
  pub modem_control : new.modem_control ≡ unwrap_or (value_written_at 4 op) s.modem_control
  pub modem_status : new.modem_status ≡ s.modem_status
  pub scratch : new.scratch ≡ unwrap_or (value_written_at 7 op) s.scratch

pub call_done : (s : State) (op : Op) (asked : Asked) → Steps (is_dlab s.line_control) op s (step s op asked)
call_done s op asked = record {
  divisor_low = grind arith;
  divisor_high = grind arith;
  interrupt_enable = grind arith;
  line_control = grind arith;
  modem_control = grind arith;
  modem_status = grind arith;
  scratch = grind arith;
}

-- ---- any trace

-- what the newest entry left of what the others left is what the whole trace says
more : (found : List TraceEntry → Op → Option ℕ) (entry : TraceEntry) (trace : List TraceEntry) (byte old new : ℕ)
    → old ≡ unwrap_or (last_found found trace) byte → new ≡ unwrap_or (found trace entry.op) old
    → new ≡ unwrap_or (last_found found (entry ∷ trace)) byte
more found entry trace byte old new before step = grind arith

more_masked : (found : List TraceEntry → Op → Option ℕ) (entry : TraceEntry) (trace : List TraceEntry) (byte old new : ℕ)
    → old ≡ option_map_or (λ value. only_bits value ier_bits) (last_found found trace) byte
    → new ≡ option_map_or (λ value. only_bits value ier_bits) (found trace entry.op) old
    → new ≡ option_map_or (λ value. only_bits value ier_bits) (last_found found (entry ∷ trace)) byte
more_masked found entry trace byte old new before step = grind arith

pub register_law : RegisterLaw
register_law start [] = search rules
register_law start (entry ∷ trace) =
    let before = register_law start trace in
    let step = call_done (state_after start trace) entry.op entry.asked in
    let same : is_dlab (state_after start trace).line_control ≡ dlab_after start trace = ap is_dlab before.line_control in
    record {
      divisor_low = more _ entry trace _ _ _ before.divisor_low (rw same at step.divisor_low);
      divisor_high = more _ entry trace _ _ _ before.divisor_high (rw same at step.divisor_high);
      interrupt_enable = more_masked _ entry trace _ _ _ before.interrupt_enable (rw same at step.interrupt_enable);
      line_control = more (λ _ op. value_written_at 3 op) entry trace _ _ _ before.line_control step.line_control;
      modem_control = more (λ _ op. value_written_at 4 op) entry trace _ _ _ before.modem_control step.modem_control;
      modem_status = step.modem_status ∙ before.modem_status;
      scratch = more (λ _ op. value_written_at 7 op) entry trace _ _ _ before.scratch step.scratch;
    }

-- except for IIR, LSR and the bytes, the state of the history is the state after the trace
pub state_of_history-by_state :
    (start : State) (trace : List TraceEntry) (identification line_status : ℕ) (bytes : List ℕ) →
    record (state_of_history start trace) {
      interrupt_identification = identification;
      line_status = line_status;
      in_buffer = bytes;
    }
    ≡ record (state_after start trace) {
      interrupt_identification = identification;
      line_status = line_status;
      in_buffer = bytes;
    }
state_of_history-by_state start trace identification line_status bytes =
    let registers = register_law start trace in
    λ i. record {
      baud_divisor_low = sym registers.divisor_low i;
      baud_divisor_high = sym registers.divisor_high i;
      interrupt_enable = sym registers.interrupt_enable i;
      interrupt_identification = identification;
      line_control = sym registers.line_control i;
      line_status = line_status;
      modem_control = sym registers.modem_control i;
      modem_status = sym registers.modem_status i;
      scratch = sym registers.scratch i;
      in_buffer = bytes;
    }

-- ---- a call at a point of a trace, by what its operation is there

-- the state after a trace tells what an operation is at that point
pub same_kind : (start : State) (trace : List TraceEntry) (op : Op)
    → decode_in (state_after start trace) op ≡ decode_at start trace op
same_kind start trace op =
    let s = state_after start trace in
    let registers = register_law start trace in
    ap (λ byte. decode (is_dlab byte) (is_loopback s.modem_control) op) registers.line_control
    ∙ ap (λ byte. decode (dlab_after start trace) (is_loopback byte) op) registers.modem_control

-- so the state after one more entry is that by its kind there
pub next_at_point : (start : State) (trace : List TraceEntry) (entry : TraceEntry)
    → SameBytes (state_after start (entry ∷ trace))
    (by_kind (decode_at start trace entry.op) entry.asked (state_after start trace))
next_at_point start trace entry =
    let s = state_after start trace in
    subst (λ (k : DecodedOp). SameBytes (step s entry.op entry.asked) (by_kind k entry.asked s))
    (same_kind start trace entry.op)
    (next_by_kind s entry.op entry.asked)

-- ---- the held-bytes law: no byte is lost or made up, and data ready says whether one is held

-- what is left of all bytes and the new ones, after those taken and then some more
drop_more : (all read_out_bytes remaining_bytes more new : List ℕ) → read_out_bytes ++ remaining_bytes ≡ all
    → drop (length (read_out_bytes ++ more)) (all ++ new) ≡ drop (length more) (remaining_bytes ++ new)
drop_more all read_out_bytes remaining_bytes more new parts =
    ap (λ bytes. drop (length (read_out_bytes ++ more)) (bytes ++ new)) (sym parts)
    ∙ ap (drop (length (read_out_bytes ++ more))) (append_assoc read_out_bytes remaining_bytes new)
    ∙ ap (λ n. drop n (read_out_bytes ++ (remaining_bytes ++ new))) (length-append read_out_bytes more)
    ∙ drop-append-add read_out_bytes (remaining_bytes ++ new) (length more)

-- the held bytes after one more entry, if those taken and those held are all bytes
pub held_more : (start : State) (trace : List TraceEntry) (entry : TraceEntry)
    → read_out_bytes start trace ++ held_bytes start trace ≡ start.in_buffer ++ accepted_bytes start trace
    → let k = decode_at start trace entry.op in
    held_bytes start (entry ∷ trace)
    ≡ drop (length (read_out_by k (held_bytes start trace))) (held_bytes start trace ++ accepted_by k (held_bytes start trace))
held_more start trace entry parts =
    let k = decode_at start trace entry.op in
    let bytes = held_bytes start trace in
    ap (drop (length (read_out_bytes start (entry ∷ trace))))
    (sym (append_assoc start.in_buffer (accepted_bytes start trace) (accepted_by k bytes)))
    ∙ drop_more (start.in_buffer ++ accepted_bytes start trace) (read_out_bytes start trace) bytes (read_out_by k bytes)
    (accepted_by k bytes) parts

pub read_out_then_held : ReadOutThenHeldLaw
read_out_then_held start [] = refl
read_out_then_held start (entry ∷ trace) =
    let before = read_out_then_held start trace in
    let k = decode_at start trace entry.op in
    let bytes = held_bytes start trace in
    ap (λ rest. read_out_bytes start (entry ∷ trace) ++ rest) (held_more start trace entry before)
    ∙ append_assoc (read_out_bytes start trace) (read_out_by k bytes) _
    ∙ ap (λ rest. read_out_bytes start trace ++ rest) (taken_first k bytes (accepted_by k bytes))
    ∙ sym (append_assoc (read_out_bytes start trace) bytes (accepted_by k bytes))
    ∙ ap (λ all. all ++ accepted_by k bytes) before
    ∙ append_assoc start.in_buffer (accepted_bytes start trace) (accepted_by k bytes)

pub held_bytes_law : HeldBytesLaw
held_bytes_law start [] = sym (append-nil start.in_buffer)
held_bytes_law start (entry ∷ trace) =
    let s = state_after start trace in
    let k = decode_at start trace entry.op in
    (next_at_point start trace entry).in_buffer
    ∙ left_by_kind k entry.asked s
    ∙ ap (λ bytes. drop (length (read_out_by k bytes)) (bytes ++ accepted_by k bytes)) (held_bytes_law start trace)
    ∙ sym (held_more start trace entry (read_out_then_held start trace))

-- ---- data ready

-- LSR of a state shows whether bytes are held
abbrev IsReady : State → Type 0
IsReady s = s.line_status ≡ with_data_ready s.line_status (not_empty s.in_buffer)

-- LSR that a call leaves, from one that shows whether bytes are held
ready_more : (s : State) (op : Op) (asked : Asked) → IsReady s
    → (step s op asked).line_status ≡ with_data_ready s.line_status (not_empty (step s op asked).in_buffer)
ready_more s op asked ready = grind arith

-- the start's LSR, with data ready as bytes are held now
ready_after : (start : State) (trace : List TraceEntry)
    → has_bits start.line_status 0x01 ≡ not_empty start.in_buffer
    → (state_after start trace).line_status
    ≡ with_data_ready start.line_status (not_empty (state_after start trace).in_buffer)
ready_after start [] right =
    sym (data_ready_right start.line_status) ∙ ap (with_data_ready start.line_status) right
ready_after start (entry ∷ trace) right =
    let s = state_after start trace in
    let before = ready_after start trace right in
    let again = λ (ready : Bool). data_ready_twice start.line_status (not_empty s.in_buffer) ready in
    let ready : IsReady s =
    before ∙ sym (again (not_empty s.in_buffer))
    ∙ ap (λ byte. with_data_ready byte (not_empty s.in_buffer)) (sym before) in
    let now = not_empty (step s entry.op entry.asked).in_buffer in
    ready_more s entry.op entry.asked ready ∙ ap (λ byte. with_data_ready byte now) before ∙ again now

pub line_status_law : LineStatusLaw
line_status_law start trace right =
    ready_after start trace right
    ∙ ap (λ bytes. with_data_ready start.line_status (not_empty bytes)) (held_bytes_law start trace)

pub ruleset held_bytes_laws = (held_bytes_law, line_status_law)
