-- SPDX-License-Identifier: Apache-2.0 OR BSD-3-Clause
-- The laws of one call, in any state.
use Rattle.std.specs.Prelude.{◌≡◌, ℕ, Bool, true, false, List, ◌∷◌, ◌++◌, ◌<◌, ◌&&◌, length, count_by, IsTrue}
use Rattle.superio_laws.specs.Serial.{
  Asked,
  Sent,
  Op,
  Read,
  Write,
  Response,
  ByteRead,
  WriteOk,
  Event,
  out_byte,
  tx_lost_byte,
  answer_count,
  is_sent,
  sent_by,
  has_bits,
  lsr_dr_bit,
  State,
  not_empty,
  Thre,
  is_dlab,
  is_loopback,
  iir_after_raise,
  receive_bytes,
  step,
  step_response,
  step_events,
  decode_in,
  answers_fit,
}
use Rattle.superio_laws.specs.Serial.{turned_on_count}
use Rattle.superio_laws.specs.Serial.History.{byte_read, accepted_by, read_out_by}

-- the bytes that a call takes, followed by those held after it, are those held before it, followed by those that it
-- accepts
abbrev pub OneCallLaw : Type 0
OneCallLaw = (s : State) (op : Op) (asked : Asked)
    → read_out_by (decode_in s op) s.in_buffer ++ (step s op asked).in_buffer
    ≡ s.in_buffer ++ accepted_by (decode_in s op) s.in_buffer

-- the byte that a call gives a guest from the FIFO, followed by the bytes held after the call, are those held before
-- it, followed by those that it accepts
abbrev pub OneReadLaw : Type 0
OneReadLaw = (s : State) (op : Op) (asked : Asked) (sent : Sent)
    → byte_read (decode_in s op) s.in_buffer (step_response s op asked sent) ++ (step s op asked).in_buffer
    ≡ s.in_buffer ++ accepted_by (decode_in s op) s.in_buffer

-- received bytes follow the held ones, and nothing else changes except LSR and IIR
abbrev pub ReceivedLaw : Type 0
ReceivedLaw = (s : State) (bytes : List ℕ)
    → receive_bytes bytes s ≡ record s {
      in_buffer = s.in_buffer ++ bytes;
      line_status = (receive_bytes bytes s).line_status;
      interrupt_identification = (receive_bytes bytes s).interrupt_identification;
    }

-- an RBR read in a state that holds bytes gives the oldest and leaves the others. Nothing else changes except LSR and
-- IIR
pub record GivesOldest (s new : State) (byte : ℕ) : Type 0 where
  pub bytes : byte ∷ new.in_buffer ≡ s.in_buffer
  pub rest_unchanged : new ≡ record s {
    in_buffer = new.in_buffer;
    line_status = new.line_status;
    interrupt_identification = new.interrupt_identification;
  }

abbrev pub RbrReadLaw : Type 0
RbrReadLaw = (s : State) (byte : ℕ) → is_dlab s.line_control ≡ false → 0 < length s.in_buffer
    → ByteRead byte ≡ step_response s (Read 0) Asked.Nothing Sent.Nothing
    → GivesOldest s (step s (Read 0) Asked.Nothing) byte

-- after an RBR read LSR shows data ready if it did before and a byte is left
abbrev pub RbrDataReadyLaw : Type 0
RbrDataReadyLaw = (s : State) → is_dlab s.line_control ≡ false
    → let new = step s (Read 0) Asked.Nothing in
    has_bits new.line_status lsr_dr_bit ≡ (has_bits s.line_status lsr_dr_bit && not_empty new.in_buffer)

-- a THR write outside loopback sends its byte: the writer takes it, or fails. THRE is raised, and nothing else changes.
-- `Ok` means that the writer took the byte: its contents, if they are known, grew by it
pub record SendsByte (s new : State) (value : ℕ) (response : Response) (sent : Sent) : Type 0 where
  pub outcome : IsTrue (is_sent sent)
  pub state : new ≡ record s {
    interrupt_identification = iir_after_raise Thre s.interrupt_enable s.interrupt_identification;
  }
  pub taken : WriteOk ≡ response → sent ≡ Sent.Out

abbrev pub ThrWriteLaw : Type 0
ThrWriteLaw = (s : State) (value : ℕ) (asked : Asked) (sent : Sent)
    → is_dlab s.line_control ≡ false → is_loopback s.modem_control ≡ false
    → IsTrue (answers_fit s (Write 0 value) asked sent)
    → SendsByte s (step s (Write 0 value) asked) value (step_response s (Write 0 value) asked sent) sent

-- the events that report the outcome of a byte
abbrev pub reports_outcome : (event : Event) → Bool
reports_outcome out_byte = true
reports_outcome tx_lost_byte = true
reports_outcome _ = false

-- a THR write outside loopback reports either that its byte is out or that it is lost, once, and no other call reports
-- either
abbrev pub OutcomeEventsLaw : Type 0
OutcomeEventsLaw = (s : State) (op : Op) (asked : Asked) (sent : Sent) → IsTrue (answers_fit s op asked sent)
    → count_by reports_outcome (step_events s op sent) ≡ length (sent_by (decode_in s op))

-- the trigger is called once for each of the two pending bits of IIR that the call turns from clear to set
abbrev pub TurnedBitsLaw : Type 0
TurnedBitsLaw = (s : State) (op : Op) (asked : Asked) (sent : Sent)
    → IsTrue (answers_fit s op asked sent)
    → answer_count asked ≡ turned_on_count s (step s op asked)
