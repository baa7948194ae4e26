-- SPDX-License-Identifier: Apache-2.0 OR BSD-3-Clause
-- One call: the bytes that it takes, accepts and gives, the byte that a THR write sends, and the bits of IIR that it
-- turns.
use Rattle.std.proofs.Common.{false, ◌≡◌, ℕ, Bool, true, List, [], ◌∷◌, ◌++◌, length, drop, refl, ap, sym, ◌∙◌, append-nil, ◌<◌, subst, arith, IsTrue, if◌then◌else◌, ◌&&◌, count_by, ◌+◌, not, ◌==◌}
use Rattle.std.specs.Bool.{beq}
use Rattle.std.proofs.lemmas.Bool.{and_parts, eqb-true}
use Rattle.superio_laws.specs.Serial.{ier_bits, Asked, Sent, Op, Read, Write, ByteRead, WriteOk, WriterFailed, TriggerRefused, is_sent, is_lost, ends_in_refusal, DecodedOp, RbrRead}
use Rattle.superio_laws.specs.Serial.{decode_read, sent_by, State, not_empty, has_bits, without_bits, receive_bytes, iir_after_raise, decode_in, answers_all, step_calls, sends_byte, step, read_step, step_response}
use Rattle.superio_laws.specs.Serial.{step_events, Register, Thre, register_at, is_dlab, is_loopback, is_refused_at_once, count_if, answer_count, IerWrite, only_bits, with_bits, Rda, decoded_calls, becomes_pending}
use Rattle.superio_laws.specs.Serial.History.{byte_read, accepted_by, read_out_by}
use Rattle.superio_laws.specs.Serial.Laws.OneCall.{OneCallLaw, ReceivedLaw, OneReadLaw, RbrReadLaw, RbrDataReadyLaw, ThrWriteLaw, OutcomeEventsLaw, reports_outcome, TurnedBitsLaw}
use Rattle.superio_core.proofs.Lemmas.Serial.{data_ready_cleared}
use Rattle.superio_core.proofs.Lemmas.Serial.Step.{by_kind, next_by_kind, answers_counted, rda_sets}
use Rattle.std.proofs.lemmas.Nat.{and_or_self, and_or_apart}
use Rattle.superio_laws.specs.Serial.{turns_on}
use Rattle.superio_core.proofs.Lemmas.{and-without, and-without-apart}

-- ---- bytes taken and accepted

-- what is taken is the front of what is there
pub taken_first : (k : DecodedOp) (bytes new : List ℕ)
    → read_out_by k bytes ++ drop (length (read_out_by k bytes)) (bytes ++ new) ≡ bytes ++ new
taken_first k bytes new = grind arith

pub received : ReceivedLaw
received s h = grind (arith, append-nil)

pub received_bytes : (new : List ℕ) (s : State) → (receive_bytes new s).in_buffer ≡ s.in_buffer ++ new
received_bytes new s = ap (λ (left : State). left.in_buffer) (received s new)

first_gone : (bytes : List ℕ) → drop 1 bytes ≡ drop (length (read_out_by RbrRead bytes)) (bytes ++ [])
first_gone bytes = grind (arith, append-nil)

-- the steps take and accept what the history says
pub left_by_kind : (k : DecodedOp) (asked : Asked) (s : State)
    → (by_kind k asked s).in_buffer ≡ drop (length (read_out_by k s.in_buffer)) (s.in_buffer ++ accepted_by k s.in_buffer)
left_by_kind k asked s = grind (arith, first_gone, received_bytes, append-nil)

pub one_call : OneCallLaw
one_call s op asked =
    ap (λ bytes. read_out_by (decode_in s op) s.in_buffer ++ bytes)
    ((next_by_kind s op asked).in_buffer ∙ left_by_kind (decode_in s op) asked s)
    ∙ taken_first (decode_in s op) s.in_buffer (accepted_by (decode_in s op) s.in_buffer)

-- ---- bytes read

of_step : (s : State) (op : Op) (asked : Asked) (sent : Sent)
    → byte_read (decode_in s op) s.in_buffer (step_response s op asked sent)
    ≡ read_out_by (decode_in s op) s.in_buffer
of_step s op asked sent = grind arith

pub one_read : OneReadLaw
one_read s op asked sent =
    ap (λ byte. byte ++ (step s op asked).in_buffer) (of_step s op asked sent) ∙ one_call s op asked

-- while the latch is hidden
is_oldest : (held left : List ℕ) (byte : ℕ) → 0 < length held
    → byte_read RbrRead held (ByteRead byte) ++ left ≡ held ++ [] → byte ∷ left ≡ held
is_oldest held left byte some is = grind (arith, append-nil)

-- a read changes no register but LSR and IIR
pub kept : (register : Register) (s : State) → read_step register s ≡ record s {
  in_buffer = (read_step register s).in_buffer;
  line_status = (read_step register s).line_status;
  interrupt_identification = (read_step register s).interrupt_identification;
}
kept register s = grind arith

pub rbr_read : RbrReadLaw
rbr_read s byte hidden some response = record {
  bytes = is_oldest s.in_buffer _ byte some
      (subst (λ kind. byte_read kind s.in_buffer (ByteRead byte) ++ (step s (Read 0) Asked.Nothing).in_buffer
      ≡ s.in_buffer ++ accepted_by kind s.in_buffer) (ap (λ latch. decode_read (register_at latch 0)) hidden)
      (rw response (one_read s (Read 0) Asked.Nothing Sent.Nothing)));
  rest_unchanged = kept (register_at (is_dlab s.line_control) 0) s;
}

-- LSR after a read that leaves these bytes
ready_where : (left : List ℕ) (line_status : ℕ)
    → has_bits (if not_empty left then line_status else without_bits line_status 0x01) 0x01
    ≡ (has_bits line_status 0x01 && not_empty left)
ready_where left line_status = grind (arith, data_ready_cleared)

pub rbr_data_ready : RbrDataReadyLaw
rbr_data_ready s hidden = subst
    (λ latch. let new = read_step (register_at latch 0) s in
    has_bits new.line_status 0x01 ≡ (has_bits s.line_status 0x01 && not_empty new.in_buffer))
    (sym hidden) (ready_where (drop 1 s.in_buffer) s.line_status)

-- ---- a THR write outside loopback

-- `Ok` is no failure of the writer
taken : (is_refused : Bool) (sent : Sent) → IsTrue (is_sent sent)
    → WriteOk ≡ (if is_refused then TriggerRefused else (if is_lost sent then WriterFailed else WriteOk))
    → sent ≡ Sent.Out
taken is_refused sent outcome ok = grind arith

-- if a byte is sent, a fitting call has an outcome of it
outcome : (is_answered sends : Bool) (sent : Sent) → sends ≡ true → IsTrue (is_answered && beq (is_sent sent) sends)
    → IsTrue (is_sent sent)
outcome is_answered sends sent is fits = grind arith

sends : (s : State) (value : ℕ) → is_dlab s.line_control ≡ false → is_loopback s.modem_control ≡ false
    → sends_byte s (Write 0 value) ≡ true
sends s value hidden outside = grind arith

raises : (s : State) (value : ℕ) (asked : Asked) → is_dlab s.line_control ≡ false → is_loopback s.modem_control ≡ false
    → step s (Write 0 value) asked ≡ record s { interrupt_identification = iir_after_raise Thre s.interrupt_enable s.interrupt_identification }
raises s value asked hidden outside = grind arith

pub thr_write : ThrWriteLaw
thr_write s value asked sent hidden outside fits =
    let has_outcome = outcome (answers_all (step_calls s (Write 0 value)) asked) (sends_byte s (Write 0 value)) sent (sends s value hidden outside) fits in
    record {
      outcome = has_outcome;
      state = raises s value asked hidden outside;
      taken = taken (ends_in_refusal asked) sent has_outcome;
    }

pub ruleset one_call_laws = (one_call, received, one_read, rbr_read, rbr_data_ready, thr_write)

-- ---- one call, in any state: the events that it reports

reported : (s : State) (op : Op) (outcome : Sent) → IsTrue (beq (is_sent outcome) (sends_byte s op))
    → count_by reports_outcome (step_events s op outcome) ≡ length (sent_by (decode_in s op))
reported s op outcome fit = grind arith

pub events_law : OutcomeEventsLaw
events_law s op asked outcome fit =
    reported s op outcome (and_parts (answers_all (step_calls s op) asked) _ fit).1

-- ---- one call, in any state: the trigger is called once for each pending bit that it turns from clear to set

-- ---- the bits of an IIR, whatever byte it is

-- how many of the two bits are turned
abbrev count : ℕ → ℕ → ℕ
count old new = count_if (turns_on 0x04 old new) + count_if (turns_on 0x02 old new)

module _ (old : ℕ) where
  pub rda_left : has_bits (with_bits (without_bits old 0x01) 0x02) 0x04 ≡ has_bits old 0x04
  unfolding has_bits with_bits
  rda_left = ap (λ n. n == 0x04) (and_or_apart 0x04 (without_bits old 0x01) 0x02 refl ∙ and-without-apart old 0x01 0x04 refl)

  pub rda_cleared : has_bits (without_bits old 0x04) 0x04 ≡ false
  unfolding has_bits
  rda_cleared = ap (λ n. n == 0x04) (and-without old 0x04)

  pub thre_left : has_bits (with_bits (without_bits old 0x01) 0x04) 0x02 ≡ has_bits old 0x02
  unfolding has_bits with_bits
  thre_left = ap (λ n. n == 0x02) (and_or_apart 0x02 (without_bits old 0x01) 0x04 refl ∙ and-without-apart old 0x01 0x02 refl)

  pub thre_set : has_bits (with_bits (without_bits old 0x01) 0x02) 0x02 ≡ true
  unfolding has_bits with_bits
  thre_set = ap (λ n. n == 0x02) (and_or_self 0x02 (without_bits old 0x01))

  pub thre_kept : has_bits (without_bits old 0x04) 0x02 ≡ has_bits old 0x02
  unfolding has_bits
  thre_kept = ap (λ n. n == 0x02) (and-without-apart old 0x04 0x02 refl)

pub no_rda : has_bits 1 0x04 ≡ false
unfolding has_bits
no_rda = refl

pub no_thre : has_bits 1 0x02 ≡ false
unfolding has_bits
no_thre = refl

pub none_set : has_bits 0 0x02 ≡ false
unfolding has_bits
none_set = refl

pub ruleset bits = (rda_left, rda_sets, rda_cleared, thre_left, thre_set, thre_kept, no_rda, no_thre, none_set)

-- ---- one operation

-- an IER write, first for RDA, and then for THRE, unless the trigger refused
pub ier_write_turned : (held refused : Bool) (enable old : ℕ)
    → let first = if held then iir_after_raise Rda enable old else old in
    count_if (held && becomes_pending Rda enable old) + count_if (becomes_pending Thre enable first && not refused)
    ≡ count old (if refused then first else iir_after_raise Thre enable first)
ier_write_turned held refused enable old = grind (arith, bits)

pub turned_by_kind : (k : DecodedOp) (asked : Asked) (s : State)
    → IsTrue (answers_all (decoded_calls k s) asked)
    → answer_count asked ≡ count s.interrupt_identification (by_kind k asked s).interrupt_identification
turned_by_kind (IerWrite value) asked s fit =
    let enable = only_bits value ier_bits in
    let old = s.interrupt_identification in
    let held = not_empty s.in_buffer in
    let call = held && becomes_pending Rda enable old in
    eqb-true _ _ (sym (answers_counted call (becomes_pending Thre enable (if held then iir_after_raise Rda enable old else old)) asked) ∙ fit)
    ∙ ier_write_turned held (call && is_refused_at_once asked) enable old
turned_by_kind k asked s fit = grind (arith, bits)

pub turned_bits_law : TurnedBitsLaw
turned_bits_law s op asked outcome fit =
    turned_by_kind (decode_in s op) asked s (and_parts (answers_all (step_calls s op) asked) _ fit).0
    ∙ ap (count s.interrupt_identification) (sym (next_by_kind s op asked).interrupt_identification)
