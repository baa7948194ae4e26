-- SPDX-License-Identifier: Apache-2.0 OR BSD-3-Clause
-- A step keeps a coherent state coherent.
use Rattle.std.proofs.Common.{◌≡◌, ℕ, ◌+◌, ◌≤◌, Bool, true, false, not, ◌==◌, ◌&&◌, ◌||◌, List, [], ◌∷◌, ◌++◌, length, drop, refl, ap, sym, ◌∙◌, subst, length-append, length-take, length-drop, arith, if◌then◌else◌, IsTrue}
use Rattle.superio_core.specs.Serial.Operations.{Asked, Op, Write, Enqueue, is_refused_at_once, DecodedOp, RbrRead, IirRead, IerWrite, ThrWrite, RxInput, Timeout, Other}
use Rattle.superio_core.specs.declared.serial.Asked.TheVariants.{Nothing}
use Rattle.superio_core.specs.Serial.{State, not_empty, Coherent}
use Rattle.superio_core.specs.Serial.RegisterMap.{Thre, Rda, ier_bits, identification_of, is_loopback}
use Rattle.superio_core.specs.Bits.{has_bits, only_bits, without_bits}
use Rattle.superio_core.specs.Serial.Step.{iir_after_raise, raise_rda_while_held, rda_becomes_pending, receive_bytes, bytes_that_fit, step, decode_in}
use Rattle.superio_core.proofs.Lemmas.Serial.{data_ready_set, data_ready_cleared}
use Rattle.superio_core.proofs.Lemmas.Serial.Step.{by_kind, next_by_kind, read_clears, raise_rda, raise_thre, ier_write_raises_rda, ier_write_leaves, timeout_raises}

-- ---- the conditions that are pending after an operation

-- an IER write calls the trigger for RDA
abbrev pub rda_asked : (value : ℕ) (held : List ℕ) (rda : Bool) → Bool
rda_asked value held rda = (has_bits value 0x01 && not_empty held) && not rda

abbrev pub thre_next : DecodedOp → List ℕ → ℕ → Asked → Bool → Bool → Bool
thre_next RbrRead held enable asked thre rda = thre
thre_next IirRead held enable asked thre rda = false
thre_next (IerWrite value) held enable asked thre rda =
    (has_bits value 0x02 && not (rda_asked value held rda && is_refused_at_once asked)) || thre
thre_next (ThrWrite value) held enable asked thre rda = has_bits enable 0x02 || thre
thre_next (RxInput bytes) held enable asked thre rda = thre
thre_next Timeout held enable asked thre rda = thre
thre_next Other held enable asked thre rda = thre

abbrev pub rda_next : DecodedOp → List ℕ → ℕ → Bool → Bool
rda_next RbrRead held enable rda = false
rda_next IirRead held enable rda = false
rda_next (IerWrite value) held enable rda = (has_bits value 0x01 && not_empty held) || rda
rda_next (ThrWrite value) held enable rda = rda
rda_next (RxInput bytes) held enable rda = (not_empty (bytes_that_fit held bytes) && has_bits enable 0x01) || rda
rda_next Timeout held enable rda = (has_bits enable 0x01 && not_empty held) || rda
rda_next Other held enable rda = rda

received_pending : (new : List ℕ) (s : State) (thre receive_before : Bool)
    → s.interrupt_identification ≡ identification_of thre receive_before
    → (receive_bytes new s).interrupt_identification
    ≡ identification_of thre ((not_empty new && has_bits s.interrupt_enable 0x01) || receive_before)
received_pending [] s thre before e = e
received_pending (byte ∷ bytes) s thre before e =
    ap (iir_after_raise Rda s.interrupt_enable) e ∙ raise_rda s.interrupt_enable thre before

-- what an IER write leaves of an IIR, if the trigger refuses for RDA or not
abbrev enabled_if : Bool → List ℕ → ℕ → ℕ → ℕ
enabled_if refused held_bytes value old =
    let new = raise_rda_while_held held_bytes (only_bits value ier_bits) old in
    if refused then new else iir_after_raise Thre (only_bits value ier_bits) new

abbrev enabled : List ℕ → ℕ → Asked → ℕ → ℕ
enabled held_bytes value asked old =
    enabled_if (rda_becomes_pending held_bytes (only_bits value ier_bits) old && is_refused_at_once asked) held_bytes value old

-- from the IIR of two conditions to the IIR of the next two
pub pending_by_kind : (k : DecodedOp) (asked : Asked) (s : State) (thre rda : Bool)
    → s.interrupt_identification ≡ identification_of thre rda
    → (by_kind k asked s).interrupt_identification
    ≡ identification_of (thre_next k s.in_buffer s.interrupt_enable asked thre rda)
    (rda_next k s.in_buffer s.interrupt_enable rda)
pending_by_kind RbrRead asked s thre rda e =
    ap (λ old. let new = without_bits old 0x04 in if new == 0 then 1 else new) e ∙ read_clears thre rda
pending_by_kind IirRead asked s thre rda e = refl
pending_by_kind (IerWrite value) asked s thre rda e =
    ap (λ old. enabled s.in_buffer value asked old) e
    ∙ ap (λ new. enabled_if (new && is_refused_at_once asked) s.in_buffer value (identification_of thre rda))
    (ier_write_raises_rda s.in_buffer value thre rda)
    ∙ ier_write_leaves (rda_asked value s.in_buffer rda && is_refused_at_once asked) s.in_buffer value thre rda
pending_by_kind (ThrWrite value) asked s thre rda e =
    ap (iir_after_raise Thre s.interrupt_enable) e ∙ raise_thre s.interrupt_enable thre rda
pending_by_kind (RxInput bytes) asked s thre rda e =
    received_pending (bytes_that_fit s.in_buffer bytes) s thre rda e
pending_by_kind Timeout asked s thre rda e =
    ap (raise_rda_while_held s.in_buffer s.interrupt_enable) e ∙ timeout_raises s.in_buffer s.interrupt_enable thre rda
pending_by_kind Other asked s thre rda e = e

-- ---- what a coherent state has

pub not_empty-append : (old : List ℕ) (byte : ℕ) (bytes : List ℕ) → not_empty (old ++ byte ∷ bytes) ≡ true
not_empty-append [] byte bytes = refl
not_empty-append (first ∷ old) byte bytes = refl

received_by_kind : (k : DecodedOp) (asked : Asked) (s : State) (before : Bool)
    → (IsTrue before → IsTrue (not_empty s.in_buffer))
    → IsTrue (rda_next k s.in_buffer s.interrupt_enable before) → IsTrue (not_empty (by_kind k asked s).in_buffer)
received_by_kind k asked s before kept now = grind arith

-- data ready is set exactly while a byte is held
read_shows : (bytes : List ℕ) (line_status : ℕ) → has_bits line_status 0x01 ≡ not_empty bytes
    → has_bits (if not_empty (drop 1 bytes) then line_status else without_bits line_status 0x01) 0x01
    ≡ not_empty (drop 1 bytes)
read_shows [] line_status shows = data_ready_cleared line_status
read_shows (byte ∷ []) line_status shows = data_ready_cleared line_status
read_shows (byte ∷ other ∷ bytes) line_status shows = shows

received_shows : (new : List ℕ) (s : State) → has_bits s.line_status 0x01 ≡ not_empty s.in_buffer
    → has_bits (receive_bytes new s).line_status 0x01 ≡ not_empty (receive_bytes new s).in_buffer
received_shows [] s shows = shows
received_shows (byte ∷ bytes) s shows = data_ready_set s.line_status ∙ sym (not_empty-append s.in_buffer byte bytes)

shown_by_kind : (k : DecodedOp) (asked : Asked) (s : State) → has_bits s.line_status 0x01 ≡ not_empty s.in_buffer
    → has_bits (by_kind k asked s).line_status 0x01 ≡ not_empty (by_kind k asked s).in_buffer
shown_by_kind RbrRead asked s shows = read_shows s.in_buffer s.line_status shows
shown_by_kind (RxInput bytes) asked s shows = received_shows (bytes_that_fit s.in_buffer bytes) s shows
shown_by_kind IirRead asked s shows = shows
shown_by_kind _ asked s shows = shows

-- at most 64 bytes are held
received_length : (new : List ℕ) (s : State) → length (receive_bytes new s).in_buffer ≡ length s.in_buffer + length new
received_length [] s = omega arith
received_length (byte ∷ bytes) s = length-append s.in_buffer (byte ∷ bytes)

few_by_kind : (k : DecodedOp) (asked : Asked) (s : State) → length s.in_buffer ≤ 64
    → length (by_kind k asked s).in_buffer ≤ 64
few_by_kind RbrRead asked s few = simp length-drop (omega arith)
few_by_kind (RxInput bytes) asked s few = rw received_length (simp length-take (omega arith))
few_by_kind IirRead asked s few = few
few_by_kind _ asked s few = few

pub coherence_law : (s : State) (op : Op) (asked : Asked) → Coherent s → Coherent (step s op asked)
coherence_law s op asked coherent =
    let k = decode_in s op in
    let same = next_by_kind s op asked in
    record {
      thre = thre_next k s.in_buffer s.interrupt_enable asked coherent.thre coherent.rda;
      rda = rda_next k s.in_buffer s.interrupt_enable coherent.rda;
      identification =
          same.interrupt_identification
          ∙ pending_by_kind k asked s coherent.thre coherent.rda coherent.identification;
      received = λ now. ap not_empty same.in_buffer ∙ received_by_kind k asked s coherent.rda coherent.received now;
      data_ready =
          ap (λ byte. has_bits byte 0x01) same.line_status ∙ shown_by_kind k asked s coherent.data_ready
          ∙ ap not_empty (sym same.in_buffer);
      at_most_64 = rw same.in_buffer (few_by_kind k asked s coherent.at_most_64);
    }

-- bytes that are received outside loopback keep a coherent state coherent
pub receive-coherent :
    (s : State) (bytes : List ℕ) → is_loopback s.modem_control ≡ false → Coherent s
    → Coherent (receive_bytes (bytes_that_fit s.in_buffer bytes) s)
receive-coherent s bytes outside before =
    subst (λ loopback. Coherent (receive_bytes (if loopback then [] else bytes_that_fit s.in_buffer bytes) s)) outside
    (coherence_law s (Enqueue bytes) Nothing before)

-- ---- a write and an enqueue, in the form in which the search applies them

pub write_coherent : (s : State) (offset value : ℕ) → Coherent s → Coherent (step s (Write offset value) Nothing)
write_coherent s offset value before = coherence_law s (Write offset value) Nothing before

pub enqueue_coherent : (s : State) (bytes : List ℕ) → Coherent s → Coherent (step s (Enqueue bytes) Nothing)
enqueue_coherent s bytes before = coherence_law s (Enqueue bytes) Nothing before
