-- SPDX-License-Identifier: Apache-2.0 OR BSD-3-Clause
-- What a call keeps: the registers of other offsets, the transmitter's bits, and what is pending.
use Rattle.std.proofs.Common.{◌≡◌, ℕ, ◌+◌, ◌≤◌, Bool, false, ◌&&◌, ◌||◌, Option, List, [], ◌∷◌, refl, ap, ◌∙◌, arith, IsTrue, if◌then◌else◌}
use Rattle.vm_superio.specs.Serial.{acknowledged_at, SerialView, State, Asked, Sent, Response, CharacterTimeout, answer_count, answers_all, decoded_calls, step_calls, decode_read, Op}
use Rattle.vm_superio.specs.Serial.{DecodedOp, Read, Write, Enqueue, Other, RxInput, is_iir_read, is_rbr_read, decode_write, Register, Data, Iir, register_at}
use Rattle.vm_superio.specs.Serial.{has_bits, with_bits, only_bits, without_bits, count_if, is_dlab, is_loopback, decode_in, step, read_step, write_step, turned_on_count, turns_on}
use Rattle.vm_superio.specs.Serial.Step.{IsSerialStep, SameElsewhere, transmitter, pending_count}
use Rattle.superio_core.proofs.Lemmas.{and-without-apart}
use Rattle.superio_core.proofs.Lemmas.Serial.Step.{by_kind, next_by_kind}
use Rattle.std.proofs.lemmas.List.Sums.{sum_by-cons}
use Rattle.std.proofs.lemmas.Nat.{and_or_apart}
use Rattle.vm_superio.specs.Links.Writer.{SerialLinks}
use Rattle.vm_superio.specs.Serial.Run.{Call, Done, Reply, Byte, Wrote, Enqueued, TimedOut, Restored, NotRestored, acknowledged_by, acknowledged_in, answers_in_records}
use Rattle.vm_superio.specs.Serial.Run.Steps.{IsCallStep, IsRun}
use Rattle.vm_superio.specs.declared.run.Call.TheVariants as call
use Rattle.superio_laws.proofs.Lemmas.Serial.Laws.OneCall.{bits, turned_bits_law}

-- ---- the registers of other offsets

pub elsewhere : (dlab : Bool) (offset value : ℕ) (asked : Asked) (s : State)
    → SameElsewhere offset s (write_step (register_at dlab offset) value asked s)
elsewhere dlab offset value asked s = record {
  held = grind arith;
  divisor_low = grind arith;
  divisor_high = grind arith;
  modem_status = grind arith;
  enable = grind arith;
  line_control = grind arith;
  modem_control = grind arith;
  scratch = grind arith;
}

-- ---- the transmitter's bits

-- data ready is none of them
ready-set : (status : ℕ) → only_bits (with_bits status 0x01) 0x60 ≡ only_bits status 0x60
unfolding only_bits with_bits
ready-set status = and_or_apart 0x60 status 0x01 refl

ready-cleared : (status : ℕ) → only_bits (without_bits status 0x01) 0x60 ≡ only_bits status 0x60
unfolding only_bits
ready-cleared status = and-without-apart status 0x01 0x60 refl

kept-by-kind : (k : DecodedOp) (asked : Asked) (s : State) → transmitter (by_kind k asked s) ≡ transmitter s
kept-by-kind k asked s = grind (arith, ready-set, ready-cleared)

pub transmitter-kept : (s : State) (op : Op) (asked : Asked) → transmitter (step s op asked) ≡ transmitter s
transmitter-kept s op asked =
    ap (λ status. only_bits status 0x60) (next_by_kind s op asked).line_status ∙ kept-by-kind (decode_in s op) asked s

-- ---- what is pending

-- the two bits of IIR
abbrev pending_in : ℕ → ℕ
pending_in iir = count_if (has_bits iir 0x04) + count_if (has_bits iir 0x02)

abbrev turned_in : ℕ → ℕ → ℕ
turned_in old new = count_if (turns_on 0x04 old new) + count_if (turns_on 0x02 old new)

-- the conditions that a read of a register acknowledges
abbrev acknowledged_of : Register → ℕ
acknowledged_of Data = 1
acknowledged_of Iir = 2
acknowledged_of _ = 0

-- a call of no such kind turns none off
pending-by-kind : (k : DecodedOp) (asked : Asked) (s : State) → (is_iir_read k || is_rbr_read k) ≡ false
    → let new = (by_kind k asked s).interrupt_identification in
    pending_in new ≡ pending_in s.interrupt_identification + turned_in s.interrupt_identification new
pending-by-kind k asked s other = grind (arith, bits)

pub pending-kept : (s : State) (op : Op) (asked : Asked) → (is_iir_read (decode_in s op) || is_rbr_read (decode_in s op)) ≡ false
    → pending_count (step s op asked) ≡ pending_count s + turned_on_count s (step s op asked)
pending-kept s op asked other =
    let iir = (next_by_kind s op asked).interrupt_identification in
    rw iir (pending-by-kind (decode_in s op) asked s other)

-- a write acknowledges nothing
writes : (register : Register) (inside : Bool) (value : ℕ)
    → (is_iir_read (decode_write register inside value) || is_rbr_read (decode_write register inside value)) ≡ false
writes register inside value = grind arith

pub pending-written : (s : State) (offset value : ℕ) (asked : Asked)
    → pending_count (step s (Write offset value) asked) ≡ pending_count s + turned_on_count s (step s (Write offset value) asked)
pending-written s offset value asked =
    pending-kept s (Write offset value) asked (writes (register_at (is_dlab s.line_control) offset) (is_loopback s.modem_control) value)

-- nor does an enqueue
enqueues : (inside : Bool) (bytes : List ℕ)
    → (is_iir_read (if inside then Other else RxInput bytes) || is_rbr_read (if inside then Other else RxInput bytes)) ≡ false
enqueues inside bytes = grind arith

pub pending-enqueued : (s : State) (bytes : List ℕ) (asked : Asked)
    → pending_count (step s (Enqueue bytes) asked) ≡ pending_count s + turned_on_count s (step s (Enqueue bytes) asked)
pending-enqueued s bytes asked = pending-kept s (Enqueue bytes) asked (enqueues (is_loopback s.modem_control) bytes)

-- a read of IIR acknowledges both conditions, one of RBR only RDA, and no other read any
pending-by-read : (register : Register) (s : State)
    → pending_count s ≤ pending_count (read_step register s) + acknowledged_of register
pending-by-read register s = grind (arith, bits)

acknowledged-at : (dlab : Bool) (offset : ℕ) → acknowledged_of (register_at dlab offset) ≤ acknowledged_at offset
acknowledged-at dlab offset = grind arith

pub pending-read : (s : State) (offset : ℕ) (asked : Asked)
    → pending_count s ≤ pending_count (step s (Read offset) asked) + acknowledged_at offset
pending-read s offset asked =
    let register = register_at (is_dlab s.line_control) offset in
    omega (arith, pending-by-read register s, acknowledged-at (is_dlab s.line_control) offset)

-- ---- over a run of calls

none-asked : (asked : Asked) (outcome : Bool) → IsTrue (answers_all 0 asked && outcome) → answer_count asked ≡ 0
none-asked asked outcome fit = grind arith

-- the pending conditions of any state are at most two
few : (s : State) → pending_count s ≤ 2
few s = grind arith

-- a call that acknowledges nothing adds as many as it calls the trigger for
asked-once : {T E EV W : Type 0} {links : SerialLinks T E EV W} {op : Op} {asked : Asked} {sent : Sent} {reply : Response}
    {refusal : Option E} {old new : SerialView T EV W} → IsSerialStep links op asked sent reply refusal old new
    → pending_count (step old.state op asked) ≡ pending_count old.state + turned_on_count old.state (step old.state op asked)
    → answer_count asked + pending_count old.state ≤ pending_count new.state
asked-once {op = op} {asked = asked} {sent = sent} {old = old} made kept =
    rw made.state (omega (arith, kept, turned_bits_law old.state op asked sent made.fits))

-- a read calls no trigger
no-calls-by : (register : Register) (s : State) → decoded_calls (decode_read register) s ≡ 0
no-calls-by register s = grind arith

no-calls : (s : State) (offset : ℕ) → step_calls s (Read offset) ≡ 0
no-calls s offset = no-calls-by (register_at (is_dlab s.line_control) offset) s

read-once : {T E EV W : Type 0} {links : SerialLinks T E EV W} {offset : ℕ} {asked : Asked} {sent : Sent} {reply : Response}
    {refusal : Option E} {old new : SerialView T EV W} → IsSerialStep links (Read offset) asked sent reply refusal old new
    → answer_count asked + pending_count old.state ≤ pending_count new.state + acknowledged_at offset
read-once {offset = offset} {asked = asked} {old = old} made =
    let none : answer_count asked ≡ 0 = none-asked asked _ (rw (no-calls old.state offset) at made.fits) in
    rw made.state (omega (arith, none, pending-read old.state offset asked))

module _ {T E EV W : Type 0} (links : SerialLinks T E EV W) where
  bound-by-call : (call : Call T EV W) (asked : Asked) (sent : Sent) (reply : Reply T EV W E) (old new : SerialView T EV W)
      → IsCallStep links call asked sent reply old new
      → answer_count asked + pending_count old.state ≤ pending_count new.state + acknowledged_by call
  bound-by-call (call.Read offset) asked sent (Byte byte) old new made = read-once made
  bound-by-call (call.Write offset value) asked sent (Wrote answer) old new made =
      omega (arith, asked-once made (pending-written old.state offset value asked))
  bound-by-call (call.Enqueue bytes) asked sent (Enqueued answer) old new made =
      omega (arith, asked-once made (pending-enqueued old.state bytes.items asked))
  bound-by-call call.CharacterTimeout asked sent (TimedOut answer) old new made =
      omega (arith, asked-once made (pending-kept old.state CharacterTimeout asked refl))
  bound-by-call (call.Restore trigger events out) asked sent (Restored before) old new made =
      rw (made.0, made.3) (omega arith)
  bound-by-call (call.Restore trigger events out) asked sent (NotRestored refused) old new made =
      rw (made.0, made.5) (omega arith)
  bound-by-call _ asked sent _ old new made = absurd made

  bound-by-run : (calls : List (Call T EV W)) (records : List (Done T EV W E)) (old end : SerialView T EV W)
      → IsRun links old calls records end
      → answers_in_records records + pending_count old.state ≤ pending_count end.state + acknowledged_in calls
  bound-by-run [] [] old end run = rw run (omega arith)
  bound-by-run (call ∷ calls) (done ∷ later) old end run =
      let next = run.1.0 in
      let answered : answers_in_records (done ∷ later) ≡ answer_count done.asked + answers_in_records later =
      sum_by-cons (λ (done : Done T EV W E). answer_count done.asked) done later in
      let most : acknowledged_in (call ∷ calls) ≡ acknowledged_by call + acknowledged_in calls =
      sum_by-cons acknowledged_by call calls in
      omega (arith, answered, most, bound-by-call call done.asked done.sent done.reply old next run.1.1, bound-by-run calls later next end run.1.2)
  bound-by-run [] (done ∷ later) old end run = absurd run
  bound-by-run (call ∷ calls) [] old end run = absurd run

  -- so the trigger is called at most twice, and once for each condition that a read acknowledges
  pub run-bound : (calls : List (Call T EV W)) (records : List (Done T EV W E)) (old end : SerialView T EV W)
      → IsRun links old calls records end → answers_in_records records ≤ 2 + acknowledged_in calls
  run-bound calls records old end run = omega (arith, bound-by-run calls records old end run, few end.state)
