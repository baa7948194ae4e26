-- SPDX-License-Identifier: Apache-2.0 OR BSD-3-Clause
-- Lemmas on the step of a call.
use Rattle.std.proofs.Common.{arith, ◌≡◌, ℕ, Bool, true, false, List, refl, ◌+◌, not, ◌==◌, ◌&&◌, ◌||◌, ap, ◌∙◌, length, if◌then◌else◌, IsTrue}
use Rattle.std.proofs.lemmas.Bool.{false≢true}
use Rattle.std.proofs.lemmas.Nat.{and_or_self}
use Rattle.superio_core.specs.Serial.Operations.{Asked, Op, Read, Write, Enqueue, CharacterTimeout, Restore, DecodedOp, RbrRead, IirRead, IerWrite, ThrWrite, RxInput, Timeout, Other, decode_read, decode_write, decode, is_refused_at_once, count_if, answer_count}
use Rattle.superio_core.specs.Serial.{State, not_empty, is_asserted, irq_level, conditions_due, RdaCoversHeldBytes}
use Rattle.superio_core.specs.Bits.{only_bits, has_bits, with_bits, without_bits}
use Rattle.superio_core.specs.Serial.RegisterMap.{Register, Data, Ier, ier_bits, register_at, is_dlab, is_loopback, Thre, Rda, identification_of, pending_in_order}
use Rattle.superio_core.specs.Serial.Step.{iir_after_raise, enqueued_bytes, receive_bytes, bytes_that_fit, becomes_pending, rda_becomes_pending, raise_rda_while_held, decode_in, step, rbr_read, ier_write, read_step, write_step, character_timeout, answers_all}
use Rattle.superio_core.proofs.Lemmas.{and-or-apart, and-without-apart}
use Rattle.superio_core.proofs.Lemmas.Serial.{enables_rda, enables_thre}

-- ---- the state

-- what an operation of this kind leaves of IER, IIR, LSR and the bytes
abbrev pub by_kind : DecodedOp → Asked → State → State
by_kind RbrRead asked s = rbr_read s
by_kind IirRead asked s = record s { interrupt_identification = 1 }
by_kind (IerWrite value) asked s = ier_write (only_bits value ier_bits) asked s
by_kind (ThrWrite value) asked s =
    record s { interrupt_identification = iir_after_raise Thre s.interrupt_enable s.interrupt_identification }
by_kind (RxInput bytes) asked s = receive_bytes (bytes_that_fit s.in_buffer bytes) s
by_kind Timeout asked s = character_timeout s
by_kind Other asked s = s

pub record SameBytes (one other : State) : Type 0 where
  pub interrupt_enable : one.interrupt_enable ≡ other.interrupt_enable
  pub interrupt_identification : one.interrupt_identification ≡ other.interrupt_identification
  pub line_status : one.line_status ≡ other.line_status
  pub in_buffer : one.in_buffer ≡ other.in_buffer

same_bytes : (s : State) → SameBytes s s
same_bytes s = record { interrupt_enable = refl; interrupt_identification = refl; line_status = refl; in_buffer = refl }

read_by_kind : (r : Register) (asked : Asked) (s : State) → SameBytes (read_step r s) (by_kind (decode_read r) asked s)
read_by_kind r asked s = grind arith

write_by_kind : (r : Register) (loopback : Bool) (value : ℕ) (asked : Asked) (s : State)
    → is_loopback s.modem_control ≡ loopback
    → SameBytes (write_step r value asked s) (by_kind (decode_write r loopback value) asked s)
write_by_kind Data true value asked s e = rw e (same_bytes _)
write_by_kind Data false value asked s e = rw e (same_bytes _)
write_by_kind Ier loopback value asked s e = same_bytes _
write_by_kind _ loopback value asked s e =
    record { interrupt_enable = refl; interrupt_identification = refl; line_status = refl; in_buffer = refl }

enqueue_by_kind : (loopback dlab : Bool) (bytes : List ℕ) (asked : Asked) (s : State)
    → is_loopback s.modem_control ≡ loopback
    → SameBytes (receive_bytes (enqueued_bytes s bytes) s) (by_kind (decode dlab loopback (Enqueue bytes)) asked s)
enqueue_by_kind true dlab bytes asked s e = rw e (same_bytes _)
enqueue_by_kind false dlab bytes asked s e = rw e (same_bytes _)

pub next_by_kind : (s : State) (op : Op) (asked : Asked)
    → SameBytes (step s op asked) (by_kind (decode_in s op) asked s)
next_by_kind s (Read offset) asked = read_by_kind (register_at (is_dlab s.line_control) offset) asked s
next_by_kind s (Write offset value) asked =
    write_by_kind (register_at (is_dlab s.line_control) offset) (is_loopback s.modem_control) value asked s refl
next_by_kind s (Enqueue bytes) asked =
    enqueue_by_kind (is_loopback s.modem_control) (is_dlab s.line_control) bytes asked s refl
next_by_kind s CharacterTimeout asked = same_bytes _
next_by_kind s Restore asked = same_bytes _

-- ---- raising both conditions

-- to set RDA leaves the bit of THRE as it was
pub thre_beside_rda : (identification : ℕ)
    → has_bits (with_bits (without_bits identification 0x01) 0x04) 0x02 ≡ has_bits identification 0x02
unfolding has_bits with_bits
thre_beside_rda identification =
    ap (λ n. n == 0x02)
    (and-or-apart (without_bits identification 0x01) 0x04 0x02 refl ∙ and-without-apart identification 0x01 0x02 refl)

-- ---- raising a condition, if IIR shows two conditions

-- ---- the bits of an IIR

pub rda_bit : (thre rda : Bool) → has_bits (identification_of thre rda) 0x04 ≡ rda
unfolding has_bits
rda_bit thre rda = grind arith

pub thre_bit : (thre rda : Bool) → has_bits (identification_of thre rda) 0x02 ≡ thre
unfolding has_bits
thre_bit thre rda = grind arith

-- an RBR read clears RDA
pub read_clears : (thre rda : Bool)
    → (let identification =
    without_bits (identification_of thre rda) 0x04 in if identification == 0 then 1 else identification)
    ≡ identification_of thre false
unfolding only_bits
read_clears thre rda = grind arith

-- ---- raising

raised_rda : (enabled thre rda : Bool) → let identification = identification_of thre rda in
    (if enabled
    && not (has_bits identification 0x04) then with_bits (without_bits identification 0x01) 0x04 else identification)
    ≡ identification_of thre (enabled || rda)
unfolding has_bits only_bits with_bits
raised_rda enabled thre rda = grind arith

raised_thre : (enabled thre rda : Bool) → let identification = identification_of thre rda in
    (if enabled
    && not (has_bits identification 0x02) then with_bits (without_bits identification 0x01) 0x02 else identification)
    ≡ identification_of (enabled || thre) rda
unfolding has_bits only_bits with_bits
raised_thre enabled thre rda = grind arith

pub raise_rda : (enable : ℕ) (thre rda : Bool)
    → iir_after_raise Rda enable (identification_of thre rda)
    ≡ identification_of thre (has_bits enable 0x01 || rda)
raise_rda enable thre rda = raised_rda (has_bits enable 0x01) thre rda

pub raise_thre : (enable : ℕ) (thre rda : Bool)
    → iir_after_raise Thre enable (identification_of thre rda)
    ≡ identification_of (has_bits enable 0x02 || thre) rda
raise_thre enable thre rda = raised_thre (has_bits enable 0x02) thre rda

pub rda_new : (enable : ℕ) (thre rda : Bool)
    → becomes_pending Rda enable (identification_of thre rda) ≡ (has_bits enable 0x01 && not rda)
rda_new enable thre rda = ap (λ bit. has_bits enable 0x01 && not bit) (rda_bit thre rda)

pub thre_new : (enable : ℕ) (thre rda : Bool)
    → becomes_pending Thre enable (identification_of thre rda) ≡ (has_bits enable 0x02 && not thre)
thre_new enable thre rda = ap (λ bit. has_bits enable 0x02 && not bit) (thre_bit thre rda)

-- ---- an IER write of a value, or a character timeout, while bytes are held or not

held_first : (held enabled rda : Bool) → (held && (enabled && not rda)) ≡ ((enabled && held) && not rda)
held_first held enabled rda = grind arith

pub ier_write_raises_rda : (held : List ℕ) (value : ℕ) (thre rda : Bool)
    → rda_becomes_pending held (only_bits value ier_bits) (identification_of thre rda)
    ≡ ((has_bits value 0x01 && not_empty held) && not rda)
ier_write_raises_rda held value thre rda =
    ap (λ new. not_empty held && new)
    (rda_new (only_bits value ier_bits) thre rda ∙ ap (λ bit. bit && not rda) (enables_rda value))
    ∙ held_first (not_empty held) (has_bits value 0x01) rda

held_asked : (held enabled thre rda : Bool)
    → (if held then identification_of thre (enabled || rda) else identification_of thre rda)
    ≡ identification_of thre ((enabled && held) || rda)
held_asked held enabled thre rda = grind arith

pub ier_write_raises : (held : List ℕ) (value : ℕ) (thre rda : Bool)
    → raise_rda_while_held held (only_bits value ier_bits) (identification_of thre rda)
    ≡ identification_of thre ((has_bits value 0x01 && not_empty held) || rda)
ier_write_raises held value thre rda =
    ap (λ asked. if not_empty held then asked else identification_of thre rda)
    (raise_rda (only_bits value ier_bits) thre rda
    ∙ ap (λ bit. identification_of thre (bit || rda)) (enables_rda value))
    ∙ held_asked (not_empty held) (has_bits value 0x01) thre rda

pub timeout_raises_rda : (held : List ℕ) (enable : ℕ) (thre rda : Bool)
    → rda_becomes_pending held enable (identification_of thre rda)
    ≡ ((has_bits enable 0x01 && not_empty held) && not rda)
timeout_raises_rda held enable thre rda =
    ap (λ new. not_empty held && new) (rda_new enable thre rda)
    ∙ held_first (not_empty held) (has_bits enable 0x01) rda

pub timeout_raises : (held : List ℕ) (enable : ℕ) (thre rda : Bool)
    → raise_rda_while_held held enable (identification_of thre rda)
    ≡ identification_of thre ((has_bits enable 0x01 && not_empty held) || rda)
timeout_raises held enable thre rda =
    ap (λ asked. if not_empty held then asked else identification_of thre rda) (raise_rda enable thre rda)
    ∙ held_asked (not_empty held) (has_bits enable 0x01) thre rda

refused_or_asked : (refused enabled thre rda : Bool)
    → (if refused then identification_of thre rda else identification_of (enabled || thre) rda)
    ≡ identification_of ((enabled && not refused) || thre) rda
refused_or_asked refused enabled thre rda = grind arith

-- IIR afterwards, whether or not the trigger refused for RDA
pub ier_write_leaves : (refused : Bool) (held : List ℕ) (value : ℕ) (thre rda : Bool)
    → (let identification = raise_rda_while_held held (only_bits value ier_bits) (identification_of thre rda) in
    if refused then identification else iir_after_raise Thre (only_bits value ier_bits) identification)
    ≡ identification_of ((has_bits value 0x02 && not refused) || thre)
    ((has_bits value 0x01 && not_empty held) || rda)
ier_write_leaves refused held value thre rda =
    let after = (has_bits value 0x01 && not_empty held) || rda in
    ap (λ identification. if refused then identification else iir_after_raise Thre (only_bits value ier_bits) identification)
    (ier_write_raises held value thre rda)
    ∙ ap (λ asked. if refused then identification_of thre after else asked)
    (raise_thre (only_bits value ier_bits) thre after
    ∙ ap (λ bit. identification_of (bit || thre) after) (enables_thre value))
    ∙ refused_or_asked refused (has_bits value 0x02) thre after

pub ier_write_raises_thre : (held : List ℕ) (value : ℕ) (thre rda : Bool)
    → becomes_pending Thre (only_bits value ier_bits)
    (raise_rda_while_held held (only_bits value ier_bits) (identification_of thre rda))
    ≡ (has_bits value 0x02 && not thre)
ier_write_raises_thre held value thre rda =
    ap (becomes_pending Thre (only_bits value ier_bits)) (ier_write_raises held value thre rda)
    ∙ thre_new (only_bits value ier_bits) thre ((has_bits value 0x01 && not_empty held) || rda)
    ∙ ap (λ bit. bit && not thre) (enables_thre value)

-- ---- the answers to the calls that are due

-- two calls may be due, and the second is not made if the first is refused
pub answers_counted : (first second : Bool) (asked : Asked)
    → answers_all (count_if first + count_if second) asked
    ≡ (answer_count asked == count_if first + count_if (second && not (first && is_refused_at_once asked)))
answers_counted first second asked = grind arith

-- ---- the line is up exactly while a restore has a trigger call to make

pub one_or_both : (thre rda : Bool) → (thre || rda) ≡ not (length (pending_in_order thre rda) == 0)
one_or_both thre rda = grind arith

pub up_while_due : (s : State) → irq_level s ≡ not (length (conditions_due s) == 0)
up_while_due s = one_or_both (is_asserted Thre s) (is_asserted Rda s)

-- ---- after a character timeout IIR shows RDA if bytes are held and IER enables it, whatever IIR was

-- raising RDA sets its bit
pub rda_sets : (old : ℕ) → has_bits (with_bits (without_bits old 0x01) 0x04) 0x04 ≡ true
unfolding has_bits with_bits
rda_sets old = ap (λ n. n == 0x04) (and_or_self 0x04 (without_bits old 0x01))

pub rda_asked : (old : ℕ) (enabled pending : Bool) → has_bits old 0x04 ≡ pending
    → has_bits (if enabled && not pending then with_bits (without_bits old 0x01) 0x04 else old) 0x04 ≡ (enabled || pending)
rda_asked old true true e = e
rda_asked old true false e = rda_sets old
rda_asked old false pending e = e

timeout_shows : (held : Bool) (enable old : ℕ) → IsTrue held → IsTrue (has_bits enable 0x01)
    → IsTrue (has_bits (if held then iir_after_raise Rda enable old else old) 0x04)
timeout_shows true enable old some enabled =
    rda_asked old (has_bits enable 0x01) (has_bits old 0x04) refl ∙ ap (λ bit. bit || has_bits old 0x04) enabled
timeout_shows false enable old some enabled = absurd (false≢true some)

pub shows_held_bytes : (s : State) (asked : Asked) → RdaCoversHeldBytes (step s CharacterTimeout asked)
shows_held_bytes s asked some enabled =
    timeout_shows (not_empty s.in_buffer) s.interrupt_enable s.interrupt_identification some enabled
