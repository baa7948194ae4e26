-- SPDX-License-Identifier: Apache-2.0 OR BSD-3-Clause
-- The history of registers and bytes: the last write to each register, and the bytes accepted, taken and held. No state
-- is kept along a trace: each definition searches the start and the trace. Restores change nothing.
use Rattle.std.specs.Prelude.{◌≡◌, ℕ, ◌-◌, Bool, ◌==◌, if◌then◌else◌, List, [], ◌∷◌, ◌++◌, length, take, drop, Option, Some, None, unwrap_or}
use Rattle.std.specs.Option.{option_or, option_map_or}
use Rattle.superio_laws.specs.Serial.{only_bits, ier_bits, State, fifo_size, is_dlab, is_loopback, Op, Write, Trace, DecodedOp, RbrRead, RxInput, decode}

-- ---- the last effective write to a register

-- the value that an operation writes at an offset
abbrev pub value_written_at : (offset : ℕ) (op : Op) → Option ℕ
value_written_at offset (Write at value) = if at == offset then Some value else None
value_written_at offset _ = None

-- the last value found; each operation is looked at with the trace before it
abbrev pub last_found : (find : Trace → Op → Option ℕ) (trace : Trace) → Option ℕ
last_found find [] = None
last_found find (entry ∷ trace) = option_or (find trace entry.op) (last_found find trace)

-- LCR, MCR and SCR: the last write at offset 3, 4 or 7, or the start's byte
abbrev pub lcr_after : (start : State) (trace : Trace) → ℕ
lcr_after start trace = unwrap_or (last_found (λ before op. value_written_at 3 op) trace) start.line_control

abbrev pub mcr_after : (start : State) (trace : Trace) → ℕ
mcr_after start trace = unwrap_or (last_found (λ before op. value_written_at 4 op) trace) start.modem_control

abbrev pub scr_after : (start : State) (trace : Trace) → ℕ
scr_after start trace = unwrap_or (last_found (λ before op. value_written_at 7 op) trace) start.scratch

abbrev pub dlab_after : (start : State) (trace : Trace) → Bool
dlab_after start trace = is_dlab (lcr_after start trace)

abbrev pub loopback_after : (start : State) (trace : Trace) → Bool
loopback_after start trace = is_loopback (mcr_after start trace)

-- DLL and DLM: the last write at offset 0 or 1 with DLAB set at that point, or the start's byte
abbrev pub divisor_low : (start : State) (trace : Trace) → ℕ
divisor_low start trace =
    unwrap_or (last_found (λ before op. if dlab_after start before then value_written_at 0 op else None) trace)
    start.baud_divisor_low

abbrev pub divisor_high : (start : State) (trace : Trace) → ℕ
divisor_high start trace =
    unwrap_or (last_found (λ before op. if dlab_after start before then value_written_at 1 op else None) trace)
    start.baud_divisor_high

-- IER: the bits that it keeps of the last write at offset 1 with DLAB clear at that point, or the start's whole byte
abbrev pub ier_after : (start : State) (trace : Trace) → ℕ
ier_after start trace =
    option_map_or (λ value. only_bits value ier_bits)
    (last_found (λ before op. if dlab_after start before then None else value_written_at 1 op) trace)
    start.interrupt_enable

-- the start with each register at its last effective write. MSR keeps its byte, and IIR and LSR have rules of their own
abbrev pub with_last_writes : (start : State) (trace : Trace) → State
with_last_writes start trace = record start {
  baud_divisor_low = divisor_low start trace;
  baud_divisor_high = divisor_high start trace;
  interrupt_enable = ier_after start trace;
  line_control = lcr_after start trace;
  modem_control = mcr_after start trace;
  scratch = scr_after start trace;
}

-- a state with these registers, whatever its IIR, its LSR and its received bytes are
pub record RegistersAgree (start : State) (trace : Trace) (s : State) : Type 0 where
  pub divisor_low : s.baud_divisor_low ≡ divisor_low start trace
  pub divisor_high : s.baud_divisor_high ≡ divisor_high start trace
  pub interrupt_enable : s.interrupt_enable ≡ ier_after start trace
  pub line_control : s.line_control ≡ lcr_after start trace
  pub modem_control : s.modem_control ≡ mcr_after start trace
  pub modem_status : s.modem_status ≡ start.modem_status
  pub scratch : s.scratch ≡ scr_after start trace

-- what an operation means at this point
abbrev pub decode_at : (start : State) (trace : Trace) (op : Op) → DecodedOp
decode_at start trace op = decode (dlab_after start trace) (loopback_after start trace) op

-- ---- received bytes

-- the accepted bytes are the first of the bytes that come in, as many as fit beside the held ones in a FIFO of 64
abbrev pub accepted_by : (kind : DecodedOp) (held : List ℕ) → List ℕ
accepted_by (RxInput bytes) held = take (fifo_size - length held) bytes
accepted_by _ held = []

-- an RBR read takes the first held byte, if there is one
abbrev pub read_out_by : (kind : DecodedOp) (held : List ℕ) → List ℕ
read_out_by RbrRead held = take 1 held
read_out_by _ held = []

-- the bytes that remain: if k bytes were taken, these are the bytes at the start, followed by the accepted bytes,
-- without the first k
abbrev pub remaining_bytes : (first accepted taken : List ℕ) → List ℕ
remaining_bytes first accepted taken = drop (length taken) (first ++ accepted)

-- all bytes accepted so far, and all taken, each in order
abbrev mutual
  pub accepted_bytes : (start : State) (trace : Trace) → List ℕ
  accepted_bytes start [] = []
  accepted_bytes start (entry ∷ trace) =
      accepted_bytes start trace
      ++ accepted_by (decode_at start trace entry.op)
      (remaining_bytes start.in_buffer (accepted_bytes start trace) (read_out_bytes start trace))

  pub read_out_bytes : (start : State) (trace : Trace) → List ℕ
  read_out_bytes start [] = []
  read_out_bytes start (entry ∷ trace) =
      read_out_bytes start trace
      ++ read_out_by (decode_at start trace entry.op)
      (remaining_bytes start.in_buffer (accepted_bytes start trace) (read_out_bytes start trace))

-- the bytes held
abbrev pub held_bytes : (start : State) (trace : Trace) → List ℕ
held_bytes start trace = remaining_bytes start.in_buffer (accepted_bytes start trace) (read_out_bytes start trace)
