-- SPDX-License-Identifier: Apache-2.0 OR BSD-3-Clause
-- A driver that reads while LSR shows data ready takes all bytes of a port in a coherent state, and stops in any state.
use Rattle.std.proofs.Common.{◌≡◌, ◌≢◌, lit<, ℕ, suc, ◌+◌, ◌-◌, ◌<◌, ◌≤◌, Bool, true, false, ◌==◌, List, [], ◌∷◌, ◌++◌, length, ap, sym, ◌∙◌, subst, arith, ◌↔◌, IsTrue, bit_and, drop, slice_index, if◌then◌else◌, ◌&&◌, mod-lt}
use Rattle.std.proofs.lemmas.Bool.{false≢true}
use Rattle.std.specs.Int.Bits.{and_mask}
use Rattle.vm_superio.specs.Links.{Link, TriggerAnswer, Contents}
use Rattle.vm_superio.specs.Serial.{SerialView, has_bits, without_bits, State, not_empty, Coherent, Data, register_at, is_dlab, register_read, identification_of, Read, Response, ByteRead, Event, buffer_read, in_buffer_empty, rbr_read, read_step, step, read_events, Asked}
use Rattle.vm_superio.specs.Serial.Step.{IsSerialRead}
use Rattle.superio_core.proofs.Lemmas.Serial.Coherence.{coherence_law}
use Rattle.superio_laws.proofs.Lemmas.Serial.Laws.OneCall.{rbr_data_ready}
use Rattle.superio_script.specs.Driver.{IsReady, ReadsWhileReady, without_bytes, drain_events, TakesAll}

-- ---- how many reads are to come

-- while LSR shows data ready: one for each held byte, and one if none is
abbrev pub reads_left : (s : State) → ℕ
reads_left s = if has_bits s.line_status 0x01 then 1 + (length s.in_buffer - 1) else 0

left-few : (ready : Bool) (held : List ℕ) → length held ≤ 64 → (if ready then 1 + (length held - 1) else 0) ≤ 64
left-few ready held few = grind arith

pub reads_left-few : (s : State) → length s.in_buffer ≤ 64 → reads_left s ≤ 64
reads_left-few s few = left-few (has_bits s.line_status 0x01) s.in_buffer few

one-less : (held : List ℕ) (ready : Bool) → ready ≡ not_empty (drop 1 held)
    → (if ready then 1 + (length (drop 1 held) - 1) else 0) + 1 ≡ 1 + (length held - 1)
one-less held ready is = grind arith

-- ---- one read

abbrev byte_in : (response : Response) → ℕ
byte_in (ByteRead byte) = byte
byte_in _ = 0

module _ {T E EV W : Type 0} (trigger : Link T (TriggerAnswer E)) (events : Link EV Event) (contents : Contents W) where
  -- a read at offset 0 with DLAB clear
  pub record IsRbrRead (byte : ℕ) (old new : SerialView T EV W) : Type 0 where
    pub value : byte ≡ slice_index old.state.in_buffer 0
    pub state : new.state ≡ rbr_read old.state
    pub reported : events old.events (read_events Data old.state.in_buffer) new.events

  -- a read of LSR that shows data ready, and then one of RBR
  pub record IsPolledRead (byte : ℕ) (old new : SerialView T EV W) : Type 0 where
    pub ready : IsReady old.state
    pub made : IsSerialRead trigger events contents 0 byte old new
    pub hidden : is_dlab new.state.line_control ≡ false
    pub less : reads_left new.state + 1 ≡ reads_left old.state

module _ {T E EV W : Type 0} {trigger : Link T (TriggerAnswer E)} {events : Link EV Event} {contents : Contents W} where
  -- a read of LCR, and of LSR, gives its byte
  pub lcr_read : {byte : ℕ} {old new : SerialView T EV W} → IsSerialRead trigger events contents 3 byte old new → byte ≡ old.state.line_control
  lcr_read made = ap byte_in made.response

  pub lsr_read : {byte : ℕ} {old new : SerialView T EV W} → IsSerialRead trigger events contents 5 byte old new → byte ≡ old.state.line_status
  lsr_read made = ap byte_in made.response

  pub rbr_read-from_step : {byte : ℕ} {old new : SerialView T EV W} → is_dlab old.state.line_control ≡ false
      → IsSerialRead trigger events contents 0 byte old new → IsRbrRead trigger events contents byte old new
  rbr_read-from_step {byte} {old} {new} hidden made = record {
    value = ap byte_in made.response ∙ ap (λ latch. register_read (register_at latch 0) old.state) hidden;
    state = made.state ∙ ap (λ latch. read_step (register_at latch 0) old.state) hidden;
    reported = subst (λ latch. events old.events (read_events (register_at latch 0) old.state.in_buffer) new.events)
        hidden made.events;
  }

  pub polled_read : {status byte : ℕ} {old seen new : SerialView T EV W} → is_dlab old.state.line_control ≡ false
      → IsSerialRead trigger events contents 5 status old seen → seen ≡ old → has_bits status 0x01 ≡ true
      → IsSerialRead trigger events contents 0 byte seen new → IsPolledRead trigger events contents byte old new
  polled_read {status} {byte} {old} {seen} {new} hidden looked same shows read =
      let ready = ap (λ lsr. has_bits lsr 0x01) (sym (lsr_read looked)) ∙ shows in
      let made : IsSerialRead trigger events contents 0 byte old new =
      subst (λ (port : SerialView T EV W). IsSerialRead trigger events contents 0 byte port new) same read in
      let state = (rbr_read-from_step hidden made).state in
      let left = ap (λ (s : State). s.in_buffer) state in
      let still = ap (λ (s : State). has_bits s.line_status 0x01) made.state ∙ rbr_data_ready old.state hidden
      ∙ ap (λ shown. shown && not_empty (step old.state (Read 0) Asked.Nothing).in_buffer) ready
      ∙ ap (λ (s : State). not_empty s.in_buffer) (sym made.state) ∙ ap not_empty left in
      record {
        ready = ready;
        made = made;
        hidden = ap (λ (s : State). is_dlab s.line_control) state ∙ hidden;
        less = ap (λ held. (if has_bits new.state.line_status 0x01 then 1 + (length held - 1) else 0) + 1) left
            ∙ one-less old.state.in_buffer (has_bits new.state.line_status 0x01) still
            ∙ ap (λ shown. if shown then 1 + (length old.state.in_buffer - 1) else 0) (sym ready);
      }

-- ---- all bytes

-- clearing a bit that is clear
without-clear : (byte : ℕ) → has_bits byte 0x01 ≡ false → without_bits byte 0x01 ≡ byte
unfolding has_bits
without-clear byte clear =
    let small : bit_and byte 0x01 < 2 = rw (and_mask byte 1) (mod-lt byte (lit< tt)) in
    let other : bit_and byte 0x01 ≢ 1 = λ is. absurd (false≢true (sym clear ∙ ap (λ n. n == 0x01) is)) in
    omega (arith, small, other)

-- a read of RBR leaves THRE as it is
thre-kept : (thre rda : Bool)
    → (let identification = without_bits (identification_of thre rda) 0x04 in
    has_bits (if identification == 0 then 0x01 else identification) 0x02)
    ≡ has_bits (identification_of thre rda) 0x02
unfolding has_bits
thre-kept thre rda = grind arith

none-pending : (thre rda : Bool) → rda ≡ false
    → identification_of (has_bits (identification_of thre rda) 0x02) false ≡ identification_of thre rda
unfolding has_bits
none-pending thre rda none = grind arith

-- LSR after a read that leaves these bytes
ready-cleared : (left : List ℕ) (line_status : ℕ)
    → has_bits (if not_empty left then line_status else without_bits line_status 0x01) 0x01 ≡ not_empty left
    → without_bits (if not_empty left then line_status else without_bits line_status 0x01) 0x01
    ≡ without_bits line_status 0x01
ready-cleared left line_status shows = grind (arith, without-clear)

-- a read of one byte and then reads of the others leave the same state as reads of all
without_bytes-after_read : (s : State) → Coherent s → Coherent (rbr_read s) → without_bytes (rbr_read s) ≡ without_bytes s
without_bytes-after_read s before after =
    ap (λ identification. record s {
      interrupt_identification = identification_of identification false;
      line_status = without_bits (rbr_read s).line_status 0x01;
      in_buffer = [];
    }) (subst (λ iir. (let identification = without_bits iir 0x04 in
    has_bits (if identification == 0 then 0x01 else identification) 0x02) ≡ has_bits iir 0x02)
    (sym before.identification) (thre-kept before.thre before.rda))
    ∙ ap (λ line_status. record (without_bytes s) { line_status = line_status })
    (ready-cleared (drop 1 s.in_buffer) s.line_status after.data_ready)

-- no byte is held if LSR does not show data ready
none-held : (held : List ℕ) → false ≡ not_empty held → held ≡ []
none-held held none = grind arith

none-received : (rda : Bool) (held : List ℕ) → (IsTrue rda → IsTrue (not_empty held)) → false ≡ not_empty held → rda ≡ false
none-received rda held some none = grind arith

without_bytes-of_empty : (s : State) → Coherent s → has_bits s.line_status 0x01 ≡ false → without_bytes s ≡ s
without_bytes-of_empty s is clear =
    let none = sym clear ∙ is.data_ready in
    ap (λ bytes. record (without_bytes s) { in_buffer = bytes }) (sym (none-held s.in_buffer none))
    ∙ ap (λ line_status. record (without_bytes s) { line_status = line_status; in_buffer = s.in_buffer })
    (without-clear s.line_status clear)
    ∙ ap (λ iir. record s { interrupt_identification = iir })
    (subst (λ iir. identification_of (has_bits iir 0x02) false ≡ iir) (sym is.identification)
    (none-pending is.thre is.rda (none-received is.rda s.in_buffer is.received none)))

oldest : (held left : List ℕ) (byte : ℕ) → true ≡ not_empty held → byte ≡ slice_index held 0 → left ≡ drop 1 held → byte ∷ left ≡ held
oldest held left byte some first rest = grind arith

-- the events of one read that leaves these bytes, and of the reads of those
events-of_all : (left : List ℕ) →
    ((if not_empty left then [] else in_buffer_empty ∷ []) ++ buffer_read ∷ []) ++ drain_events (length left)
    ≡ drain_events (suc (length left))
events-of_all left = grind arith

module _
    {T E EV W : Type 0} (trigger : Link T (TriggerAnswer E)) (events : Link EV Event) (contents : Contents W)
    (empty : (x y : EV) → events x [] y ↔ (x ≡ y))
    (append : (x y z : EV) (first second : List Event) → events x first y → events y second z → events x (first ++ second) z) where
  pub coherent_after : (bytes : List ℕ) (old new : SerialView T EV W) → Coherent old.state
      → ReadsWhileReady trigger events contents bytes old new → Coherent new.state
  coherent_after [] old new is same = subst (λ (port : SerialView T EV W). Coherent port.state) (sym same) is
  coherent_after (byte ∷ bytes) old new is (ready, (middle, made, later)) =
      coherent_after bytes middle new (subst Coherent (sym made.state) (coherence_law old.state (Read 0) Asked.Nothing is)) later

  pub takes_all : (bytes : List ℕ) (old new : SerialView T EV W) → Coherent old.state → is_dlab old.state.line_control ≡ false
      → ReadsWhileReady trigger events contents bytes old new → has_bits new.state.line_status 0x01 ≡ false
      → TakesAll events bytes old new
  takes_all [] old new is hidden same clear =
      let clear_before = ap (λ (port : SerialView T EV W). has_bits port.state.line_status 0x01) (sym same) ∙ clear in record {
        bytes = sym (none-held old.state.in_buffer (sym clear_before ∙ is.data_ready));
        state = ap (λ (port : SerialView T EV W). port.state) same ∙ sym (without_bytes-of_empty old.state is clear_before);
        events = (empty old.events new.events).1 (ap (λ (port : SerialView T EV W). port.events) (sym same));
      }
  takes_all (byte ∷ bytes) old new is hidden (ready, (middle, made, later)) clear =
      let read = rbr_read-from_step hidden made in
      let after = subst Coherent read.state
      (subst Coherent (sym made.state) (coherence_law old.state (Read 0) Asked.Nothing is)) in
      let is_middle = subst Coherent (sym read.state) after in
      let rest = takes_all bytes middle new is_middle
      (ap (λ (s : State). is_dlab s.line_control) read.state ∙ hidden) later clear in
      let left = rest.bytes ∙ ap (λ (s : State). s.in_buffer) read.state in record {
        bytes = oldest old.state.in_buffer bytes byte (sym ready ∙ is.data_ready) read.value left;
        state = rest.state ∙ ap without_bytes read.state ∙ without_bytes-after_read old.state is after;
        events = subst (λ (reported : List Event). events old.events reported new.events)
            (ap (λ left. read_events Data old.state.in_buffer ++ drain_events (length left)) left
            ∙ events-of_all (drop 1 old.state.in_buffer) ∙ ap (λ left. drain_events (suc (length left))) (sym left))
            (append _ _ _ _ _ read.reported rest.events);
      }
