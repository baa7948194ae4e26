-- SPDX-License-Identifier: Apache-2.0 OR BSD-3-Clause
-- The objects that the devices of a board own: what calls make of the interrupt line, of the counts of events and of
-- the output.
use Rattle.std.specs.Prelude.{◌≡◌, ℕ, ◌+◌, ◌-◌, ◌^◌, Bool, ◌&&◌, ◌==◌, nat_lt, min, if◌then◌else◌, List, [], ◌∷◌, ◌++◌, Result, Ok, Err}
use Rattle.std.specs.Int.{bit_at}
use Rattle.std.proofs.Common.{subst, sym}
use Rattle.superio_core.specs.Serial.Operations.{Event, buffer_read, out_byte, tx_lost_byte, in_buffer_empty}
use Rattle.vm_superio.specs.Rtc.{RtcEvent, invalid_read, invalid_write}
use Rattle.board_objects.specs.declared.Line.{Line}
use Rattle.board_objects.specs.declared.LineRefused.{LineRefused}
use Rattle.board_objects.specs.declared.Counts.{Counts}
use Rattle.board_objects.specs.declared.Output.{Output}

-- an interrupt line that was never called
abbrev pub fresh_interrupt_line : (mask : ℕ) → Line
fresh_interrupt_line mask = record { calls = 0; mask = mask }

-- the call with this number, counted from 0, is refused: the number is below 64, and the mask has that bit
abbrev pub is_call_refused : (mask number : ℕ) → Bool
is_call_refused mask number = nat_lt number 64 && (bit_at mask number == 1)

-- a count that saturates at 2^64 - 1
abbrev pub saturated : (count : ℕ) → ℕ
saturated count = min count (2 ^ 64 - 1)

-- one more than a count, up to 2^64 - 1
abbrev pub saturating_increment : (count : ℕ) → ℕ
saturating_increment count = saturated (count + 1)

-- the response to the next call
abbrev pub next_call_answer : (line : Line) → Result (Unit {0}) LineRefused
next_call_answer line = if is_call_refused line.mask line.calls then Err (record {}) else Ok tt

-- the interrupt line after one more call
abbrev pub interrupt_line_after_call : (line : Line) → Line
interrupt_line_after_call line = record { calls = saturating_increment line.calls; mask = line.mask }

-- calls with these responses, in order, take the interrupt line from old to new
abbrev pub InterruptLineLink :
    (old : Line) (responses : List (Result (Unit {0}) LineRefused)) (new : Line) → Type 0
InterruptLineLink old [] new = old ≡ new
InterruptLineLink old (response ∷ responses) new =
    (response ≡ next_call_answer old) × InterruptLineLink (interrupt_line_after_call old) responses new

-- calls that follow each other are one list of calls
pub InterruptLineLink-append :
    (x y z : Line) (first second : List (Result (Unit {0}) LineRefused)) →
    InterruptLineLink x first y → InterruptLineLink y second z → InterruptLineLink x (first ++ second) z
InterruptLineLink-append x y z [] second same h = subst (λ line. InterruptLineLink line second z) (sym same) h
InterruptLineLink-append x y z (response ∷ responses) second l h =
    (l.0, InterruptLineLink-append (interrupt_line_after_call x) y z responses second l.1 h)

-- ---- counts of the events that devices report

-- no event was reported
abbrev pub no_counts : Counts
no_counts = record {
  buffer_reads = 0;
  out_bytes = 0;
  tx_lost_bytes = 0;
  in_buffer_empties = 0;
  invalid_reads = 0;
  invalid_writes = 0;
}

-- the counts after one event of a serial port
abbrev pub counts_after_event : (counts : Counts) (event : Event) → Counts
counts_after_event counts buffer_read =
    record counts { buffer_reads = saturating_increment counts.buffer_reads }
counts_after_event counts out_byte =
    record counts { out_bytes = saturating_increment counts.out_bytes }
counts_after_event counts tx_lost_byte =
    record counts { tx_lost_bytes = saturating_increment counts.tx_lost_bytes }
counts_after_event counts in_buffer_empty =
    record counts { in_buffer_empties = saturating_increment counts.in_buffer_empties }

-- the counts after one event of a clock
abbrev pub counts_after_clock_event : (counts : Counts) (event : RtcEvent) → Counts
counts_after_clock_event counts invalid_read =
    record counts { invalid_reads = saturating_increment counts.invalid_reads }
counts_after_clock_event counts invalid_write =
    record counts { invalid_writes = saturating_increment counts.invalid_writes }

-- ---- what a contract sees of an output

-- how many bytes it takes at most
abbrev pub output_limit : ℕ
output_limit = 256

-- the bytes that it has taken, oldest first
abbrev pub written_bytes : (output : Output) → List ℕ
written_bytes output = output.bytes.items
