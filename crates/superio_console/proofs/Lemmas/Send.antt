-- SPDX-License-Identifier: Apache-2.0 OR BSD-3-Clause
-- After a write that asks for THRE it is pending until IIR is read.
use Rattle.std.proofs.Common.{◌≡◌, ℕ, Bool, true, false, if◌then◌else◌, List, [], ◌∷◌, refl, sym, ap, ◌∙◌, arith, IsTrue}
use Rattle.std.proofs.lemmas.Bool.{false≢true}
use Rattle.superio_core.proofs.Lemmas.Serial.{enables_thre}
use Rattle.superio_core.proofs.Lemmas.Serial.Step.{by_kind, next_by_kind}
use Rattle.superio_laws.specs.Serial.{State, Op, Read, Write, Enqueue, CharacterTimeout, Asked, Register, DecodedOp, RxInput, Other, has_bits, register_at, is_dlab, is_loopback, decode_in, decode_write, is_iir_read, step}
use Rattle.superio_laws.specs.Serial.History.{raises_thre}
use Rattle.superio_laws.proofs.Lemmas.Serial.Laws.OneCall.{bits}
use Rattle.superio_console.specs.Console.{ConsoleState, Call, Reads, Writes, Receives, Consumes, Turns, Refuses, Resets, Suspends, SetsPolled, shown_at, answers_none, steps, after}
use Rattle.superio_console.specs.Laws.{after_calls, in_one, is_reset, asks_for_thre, reads_iir, SendLaw}
use Rattle.superio_console.proofs.Lemmas.Port.{first_none, later_none}

-- ---- one step

thre_raised : (k : DecodedOp) (s : State) → IsTrue (raises_thre k s.interrupt_enable false)
    → IsTrue (has_bits (by_kind k Asked.Nothing s).interrupt_identification 0x02)
thre_raised k s raises = grind (arith, bits, enables_thre)

thre_kept_by : (k : DecodedOp) (s : State) → is_iir_read k ≡ false → IsTrue (has_bits s.interrupt_identification 0x02)
    → IsTrue (has_bits (by_kind k Asked.Nothing s).interrupt_identification 0x02)
thre_kept_by k s unread was = grind (arith, bits)

thre-step : (s : State) (op : Op) → is_iir_read (decode_in s op) ≡ false → IsTrue (has_bits s.interrupt_identification 0x02)
    → IsTrue (has_bits (step s op Asked.Nothing).interrupt_identification 0x02)
thre-step s op unread was =
    ap (λ byte. has_bits byte 0x02) (next_by_kind s op Asked.Nothing).interrupt_identification
    ∙ thre_kept_by (decode_in s op) s unread was

-- ---- a call, and several

no-write : (register : Register) (loopback : Bool) (value : ℕ) → is_iir_read (decode_write register loopback value) ≡ false
no-write register loopback value = grind arith

no-enqueue : (loopback : Bool) (bytes : List ℕ) → is_iir_read (if loopback then Other else RxInput bytes) ≡ false
no-enqueue loopback bytes = grind arith

thre-read : (none : Bool) (read : State) → IsTrue (has_bits read.interrupt_identification 0x02)
    → IsTrue (has_bits (steps (if none then CharacterTimeout ∷ [] else []) read).interrupt_identification 0x02)
thre-read true read was = thre-step read CharacterTimeout refl was
thre-read false read was = was

thre-call : (call : Call) (c : ConsoleState) → reads_iir call c ≡ false → is_reset call c ≡ false
    → IsTrue (has_bits c.port.interrupt_identification 0x02) → IsTrue (has_bits (after call c).port.interrupt_identification 0x02)
thre-call (Reads offset) c unread kept was =
    thre-read (answers_none offset (shown_at offset c.port)) (step c.port (Read offset) Asked.Nothing)
    (thre-step c.port (Read offset) unread was)
thre-call (Writes offset value) c unread kept was =
    thre-step c.port (Write offset value)
    (no-write (register_at (is_dlab c.port.line_control) offset) (is_loopback c.port.modem_control) value) was
thre-call (Receives bytes) c unread kept was =
    thre-step c.port (Enqueue _) (no-enqueue (is_loopback c.port.modem_control) _) was
thre-call Turns c unread kept was = thre-step c.port CharacterTimeout refl was
thre-call (Consumes count) c unread kept was = was
thre-call Refuses c unread kept was = was
thre-call Suspends c unread kept was = was
thre-call (SetsPolled is_polled) c unread kept was = was
thre-call Resets c unread kept was = absurd (false≢true (sym kept))

thre-run : (rest : List Call) (c : ConsoleState) → in_one reads_iir rest c ≡ false → in_one is_reset rest c ≡ false
    → IsTrue (has_bits c.port.interrupt_identification 0x02)
    → IsTrue (has_bits (after_calls rest c).port.interrupt_identification 0x02)
thre-run [] c unread kept was = was
thre-run (call ∷ rest) c unread kept was =
    thre-run rest (after call c) (later_none (reads_iir call c) _ unread) (later_none (is_reset call c) _ kept)
    (thre-call call c (first_none (reads_iir call c) _ unread) (first_none (is_reset call c) _ kept) was)

-- ---- the write

written : (write : Call) (c : ConsoleState) → IsTrue (asks_for_thre write c)
    → IsTrue (has_bits (after write c).port.interrupt_identification 0x02)
written (Writes offset value) c raises =
    ap (λ byte. has_bits byte 0x02) (next_by_kind c.port (Write offset value) Asked.Nothing).interrupt_identification
    ∙ thre_raised (decode_in c.port (Write offset value)) c.port raises
written (Reads offset) c raises = absurd (false≢true raises)
written (Receives bytes) c raises = absurd (false≢true raises)
written (Consumes count) c raises = absurd (false≢true raises)
written Turns c raises = absurd (false≢true raises)
written Refuses c raises = absurd (false≢true raises)
written Resets c raises = absurd (false≢true raises)
written Suspends c raises = absurd (false≢true raises)
written (SetsPolled is_polled) c raises = absurd (false≢true raises)

pub send_law : SendLaw
send_law write rest c raises unread kept = thre-run rest (after write c) unread kept (written write c raises)
