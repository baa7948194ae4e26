-- SPDX-License-Identifier: Apache-2.0 OR BSD-3-Clause
-- A call that leaves IER 0 calls no trigger, and one that sends no byte leaves the writer.
use Rattle.std.proofs.Common.{◌≡◌, ℕ, Bool, true, false, ◌&&◌, List, [], refl, ap, sym, ◌∙◌, subst, IsTrue, Option, ◌↔◌, Result, Ok, Err, OnOk, ◌-◌, ◌<◌, min, ◌||◌, ◌==◌, ◌++◌, length, take, arith, Some, IfErr, IsErr, nat_le, not, ◌∷◌, length-append, if◌then◌else◌, leb-true}
use Rattle.std.specs.Bool.{beq}
use Rattle.std.proofs.lemmas.List.{length-take, take_min}
use Rattle.vm_superio.specs.Serial.{Coherent, irq_level, Error, SerialView, write_response, enqueue_response, timeout_response, failure_response, refusal_in_result, Trigger, IOError, FullFifo, Memory, Asked, Sent, Op}
use Rattle.vm_superio.specs.Serial.{Response, Write, Enqueue, CharacterTimeout, is_sent, is_lost, ends_in_refusal, WriteOk, TriggerRefused, WriterFailed, sent_by, decode_write, EnqueueOk, TimeoutOk, FifoFull, OutOfMemory}
use Rattle.vm_superio.specs.Serial.{is_refused_at_once, has_bits, State, not_empty, SameSettings, Register, register_at, is_dlab, is_loopback, receive_bytes, bytes_that_fit, enqueued_bytes, step_calls, decode_in, answers_all, sends_byte}
use Rattle.vm_superio.specs.Serial.{step, write_step, bytes_sent, outcome_of}
use Rattle.std.specs.Io.KnownBytes.{Appends}
use Rattle.std.specs.List.{list_all}
use Rattle.vm_superio.specs.Links.{Contents, answers_of}
use Rattle.vm_superio.specs.Links.Writer.{SerialLinks, WriterLink}
use Rattle.vm_superio.proofs.Lemmas.{known_output_law}
use Rattle.vm_superio.specs.Serial.Step.{IsSerialStep, ShowsMore, WriteFate, EnqueueFate, TimeoutFate}
use Rattle.superio_laws.proofs.Lemmas.Serial.Laws.OneCall.{received_bytes}
use Rattle.vm_superio.proofs.Lemmas.Serial.{length-answers_of-step}
use Rattle.std.proofs.lemmas.Bool.{and_parts, false≢true}
use Rattle.superio_laws.specs.Serial.Laws.Line.{is_called}
use Rattle.superio_laws.proofs.Lemmas.Serial.Laws.Consequences.{call_written}
use Rattle.superio_laws.proofs.Lemmas.Serial.Laws.Interrupts.{up_after_call}
use Rattle.superio_core.proofs.Lemmas.Serial.Coherence.{coherence_law}

-- received bytes change no setting, not even IER
pub settings_kept : (bytes : List ℕ) (s : State) → SameSettings s (receive_bytes bytes s)
settings_kept bytes s = grind arith

-- ---- a call that leaves IER 0 calls no trigger: a call of it would leave the line up

line_down : (s : State) → s.interrupt_enable ≡ 0 → irq_level s ≡ false
unfolding has_bits
line_down s off = grind arith

not_called : {E : Type 0} (asked : Asked) (refusal : Option E) → (IsTrue (is_called asked) → ⊥) → answers_of asked refusal ≡ []
not_called asked refusal silent = grind arith

pub quiet : {T E EV W : Type 0} {links : SerialLinks T E EV W} {op : Op} {asked : Asked} {sent : Sent} {reply : Response}
    {refusal : Option E} {old new : SerialView T EV W} → IsSerialStep links op asked sent reply refusal old new
    → ((x y : T) → links.trigger x [] y ↔ (x ≡ y)) → new.state.interrupt_enable ≡ 0 → new.trigger ≡ old.trigger
quiet {links = links} {op = op} {asked = asked} {sent = sent} {refusal = refusal} {old = old} {new = new} made empty off =
    let down = line_down (step old.state op asked) (ap (λ (s : State). s.interrupt_enable) (sym made.state) ∙ off) in
    let none = not_called asked refusal (λ called. false≢true (sym down ∙ up_after_call old.state op asked sent made.fits called)) in
    sym ((empty _ _).0 (subst (λ answers. links.trigger old.trigger answers new.trigger) none made.trigger))

-- a call that sends no byte leaves the writer
unsent : (answered sends : Bool) (sent : Sent) → sends ≡ false → IsTrue (answered && beq (is_sent sent) sends)
    → sent ≡ Sent.Nothing
unsent answered sends sent none made = grind arith

unchanged : {W : Type 0} (contents : Contents W) (bytes : List ℕ) (old new : W) → WriterLink contents [] bytes old new → new ≡ old
unchanged contents [] old new link = sym link
unchanged contents (byte ∷ bytes) old new link = absurd link

pub silent : {T E EV W : Type 0} {links : SerialLinks T E EV W} {op : Op} {asked : Asked} {sent : Sent} {reply : Response}
    {refusal : Option E} {old new : SerialView T EV W} → IsSerialStep links op asked sent reply refusal old new
    → sends_byte old.state op ≡ false → new.out ≡ old.out
silent {links = links} {op = op} {asked = asked} {sent = sent} {old = old} {new = new} made none =
    let nothing = unsent (answers_all (step_calls old.state op) asked) (sends_byte old.state op) sent none made.fits in
    unchanged links.contents (bytes_sent op sent) old.out new.out
    (subst (λ outcome. WriterLink links.contents (outcome_of outcome) (bytes_sent op sent) old.out new.out) nothing made.out)

-- `Ok` says that nothing was lost, and then the output took all that was sent
kept_by_ok : (is_refused : Bool) (sent : Sent)
    → WriteOk ≡ (if is_refused then TriggerRefused else (if is_lost sent then WriterFailed else WriteOk)) → is_lost sent ≡ false
kept_by_ok is_refused sent ok = grind arith

none_lost : (sent : Sent) → is_lost sent ≡ false → IsTrue (list_all (λ outcome. not (is_lost outcome)) (outcome_of sent))
none_lost sent kept = grind arith

-- so if the byte is not lost, the writer took what the write sends
pub taken : {T E EV W : Type 0} {links : SerialLinks T E EV W} {offset value : ℕ} {asked : Asked} {sent : Sent}
    {reply : Response} {refusal : Option E} {old new : SerialView T EV W}
    → IsSerialStep links (Write offset value) asked sent reply refusal old new → is_lost sent ≡ false
    → Appends (links.contents old.out) (links.contents new.out) (sent_by (decode_in old.state (Write offset value)))
taken {links = links} {offset = offset} {value = value} {asked = asked} {sent = sent} {old = old} {new = new} made kept =
    let s = old.state in
    let outcome = (and_parts (answers_all (step_calls s (Write offset value)) asked) _ made.fits).1 in
    subst (Appends (links.contents old.out) (links.contents new.out))
    (call_written (is_dlab s.line_control) (is_loopback s.modem_control) (Write offset value) sent outcome)
    (known_output_law links.contents old.out new.out (outcome_of sent) (bytes_sent (Write offset value) sent) made.out
    (none_lost sent kept))

-- and a write that returns `Ok` loses no byte
pub sends : {T E EV W : Type 0} {links : SerialLinks T E EV W} {offset value : ℕ} {asked : Asked} {sent : Sent}
    {refusal : Option E} {old new : SerialView T EV W} (result : Result (Unit {0}) (Error E))
    → IsSerialStep links (Write offset value) asked sent (write_response result) refusal old new
    → OnOk result (Appends (links.contents old.out) (links.contents new.out) (sent_by (decode_in old.state (Write offset value))))
sends (Err error) made = tt
sends {asked = asked} {sent = sent} (Ok done) made = taken made (kept_by_ok (ends_in_refusal asked) sent made.response)

-- ---- a writer that says when it takes a byte

-- with room, nothing is lost
pub with_room : (lost sent takes : Bool) → lost ≡ (sent && not takes) → IsTrue takes → lost ≡ false
with_room lost sent takes is room = grind arith

not_ok : (refused lost sent takes : Bool) → IsTrue sent → takes ≡ false → lost ≡ (sent && not takes)
    → WriteOk ≡ (if refused then TriggerRefused else (if lost then WriterFailed else WriteOk)) → ⊥
not_ok refused lost sent takes is_due full is ok = grind arith

-- without room, a write that sends its byte fails
pub lost_is_err : {T E EV W : Type 0} {links : SerialLinks T E EV W} {offset value : ℕ} {asked : Asked} {sent : Sent}
    {refusal : Option E} {is_due takes : Bool} {old new : SerialView T EV W} (result : Result (Unit {0}) (Error E))
    → IsSerialStep links (Write offset value) asked sent (write_response result) refusal old new
    → IsTrue is_due → takes ≡ false → is_lost sent ≡ (is_due && not takes) → IsErr result
lost_is_err (Err error) made due full is = refl
lost_is_err {asked = asked} {sent = sent} {is_due = is_due} {takes = takes} (Ok done) made due full is =
    absurd (not_ok (ends_in_refusal asked) (is_lost sent) is_due takes due full is made.response)

only-refused-where-kept : {E : Type 0} (refused lost : Bool) (error : Error E) → lost ≡ false
    → failure_response error ≡ (if refused then TriggerRefused else (if lost then WriterFailed else WriteOk))
    → failure_response error ≡ TriggerRefused
only-refused-where-kept refused lost error kept is = grind arith

-- if nothing is lost, a write fails only by a refusal of the trigger
pub refused_alone : {T E EV W : Type 0} {links : SerialLinks T E EV W} {offset value : ℕ} {asked : Asked} {sent : Sent}
    {refusal : Option E} {old new : SerialView T EV W} (result : Result (Unit {0}) (Error E))
    → IsSerialStep links (Write offset value) asked sent (write_response result) refusal old new → is_lost sent ≡ false
    → IfErr result (λ error. failure_response error ≡ TriggerRefused)
refused_alone (Ok done) made kept = tt
refused_alone {asked = asked} {sent = sent} (Err error) made kept =
    only-refused-where-kept (ends_in_refusal asked) (is_lost sent) error kept made.response

-- a step keeps a coherent state coherent
pub keeps_coherent : {T E EV W : Type 0} {links : SerialLinks T E EV W} {op : Op} {asked : Asked} {sent : Sent} {reply : Response}
    {refusal : Option E} {old new : SerialView T EV W} → IsSerialStep links op asked sent reply refusal old new
    → Coherent old.state → Coherent new.state
keeps_coherent {op = op} {asked = asked} {old = old} made before = rw made.state (coherence_law old.state op asked before)

-- ---- what stands after a call that failed follows from its step

-- a refusal answers a call
answers-some : {E : Type 0} (asked : Asked) (refusal : E) → true ≡ ends_in_refusal asked → 0 < length (answers_of asked (Some refusal))
answers-some asked refusal ends = grind arith

-- there is a call for each bit that turns on
shows_more : {T E EV W : Type 0} {links : SerialLinks T E EV W} {op : Op} {asked : Asked} {sent : Sent} {reply : Response}
    {refusal : E} {old new : SerialView T EV W} → IsSerialStep links op asked sent reply (Some refusal) old new
    → ShowsMore old.state new.state
shows_more {asked = asked} {refusal = refusal} made =
    subst (λ count. 0 < count) (length-answers_of-step made) (answers-some asked refusal made.refused)

-- ---- a write

-- a write fails with the output only if the output failed, and so it sends a byte
sends-lost : (answered sends refused : Bool) (sent : Sent)
    → WriterFailed ≡ (if refused then TriggerRefused else (if is_lost sent then WriterFailed else WriteOk))
    → IsTrue (answered && beq (is_sent sent) sends) → IsTrue sends
sends-lost answered sends refused sent failed made = grind arith

-- a write that sends a byte changes the registers alike whatever the trigger answers
sends-alike : (register : Register) (inside : Bool) (value : ℕ) (asked : Asked) (s : State)
    → IsTrue (not_empty (sent_by (decode_write register inside value))) → write_step register value asked s ≡ write_step register value Asked.Nothing s
sends-alike register inside value asked s sends = grind arith

never-full : (refused lost : Bool) → FifoFull ≡ (if refused then TriggerRefused else (if lost then WriterFailed else WriteOk)) → ⊥
never-full refused lost is = grind arith

never-memory : (refused lost : Bool) → OutOfMemory ≡ (if refused then TriggerRefused else (if lost then WriterFailed else WriteOk)) → ⊥
never-memory refused lost is = grind arith

pub write_fate : {T E EV W : Type 0} {links : SerialLinks T E EV W} {offset value : ℕ} {asked : Asked} {sent : Sent}
    {old new : SerialView T EV W} (result : Result (Unit {0}) (Error E))
    → IsSerialStep links (Write offset value) asked sent (write_response result) (refusal_in_result result) old new
    → IfErr result (λ error. WriteFate offset value error old.state new.state)
write_fate (Ok done) made = tt
write_fate (Err (Trigger refusal)) made = shows_more made
write_fate {offset = offset} {value = value} {asked = asked} {sent = sent} {old = old} (Err (IOError fault)) made =
    let s = old.state in
    let sends = sends-lost _ (sends_byte s (Write offset value)) (ends_in_refusal asked) sent made.response made.fits in
    (sends, made.state ∙ sends-alike (register_at (is_dlab s.line_control) offset) (is_loopback s.modem_control) value asked s sends)
write_fate {asked = asked} {sent = sent} (Err FullFifo) made = never-full (ends_in_refusal asked) (is_lost sent) made.response
write_fate {asked = asked} {sent = sent} (Err Memory) made = never-memory (ends_in_refusal asked) (is_lost sent) made.response

-- ---- an enqueue

-- the bytes that are held are the first, as many as the capacity shrank
first-kept : (room : ℕ) (held input : List ℕ) → room ≡ 64 - length held
    → take room input ≡ take ((64 - length held) - (64 - length (held ++ take room input))) input
first-kept room held input is =
    let count : (64 - length held) - (64 - length (held ++ take room input)) ≡ min room (length input) =
    omega (arith, is, length-append held (take room input), length-take room input) in
    sym (ap (λ n. take n input) count ∙ take_min room input)

none-kept : (held input : List ℕ) → held ++ [] ≡ held ++ take ((64 - length held) - (64 - length (held ++ []))) input
none-kept held input =
    let count : (64 - length held) - (64 - length (held ++ [])) ≡ 0 = omega (arith, length-append held []) in
    sym (ap (λ n. held ++ take n input) count)

kept : (inside : Bool) (held input : List ℕ)
    → held ++ (if inside then [] else bytes_that_fit held input)
    ≡ held ++ take ((64 - length held) - (64 - length (held ++ (if inside then [] else bytes_that_fit held input)))) input
kept true held input = none-kept held input
kept false held input = ap (λ bytes. held ++ bytes) (first-kept (64 - length held) held input refl)

kept-after : (old new : State) (input : List ℕ) → new.in_buffer ≡ old.in_buffer ++ enqueued_bytes old input
    → new.in_buffer ≡ old.in_buffer ++ take ((64 - length old.in_buffer) - (64 - length new.in_buffer)) input
kept-after old new input is =
    subst (λ held. held ≡ old.in_buffer ++ take ((64 - length old.in_buffer) - (64 - length held)) input) (sym is)
    (kept (is_loopback old.modem_control) old.in_buffer input)

-- what an enqueue returns, by three tests
abbrev replied : (none full refused : Bool) (count : ℕ) → Response
replied none full refused count =
    if none then EnqueueOk 0 else (if full then FifoFull else (if refused then TriggerRefused else EnqueueOk count))

full-held : (none full refused : Bool) (count : ℕ) → FifoFull ≡ replied none full refused count → IsTrue full
full-held none full refused count is = grind arith

never-output : (none full refused : Bool) (count : ℕ) → WriterFailed ≡ replied none full refused count → ⊥
never-output none full refused count is = grind arith

never-allocates : (none full refused : Bool) (count : ℕ) → OutOfMemory ≡ replied none full refused count → ⊥
never-allocates none full refused count is = grind arith

pub enqueue_fate : {T E EV W : Type 0} {links : SerialLinks T E EV W} {input : List ℕ} {asked : Asked} {sent : Sent}
    {old new : SerialView T EV W} (result : Result ℕ (Error E))
    → IsSerialStep links (Enqueue input) asked sent (enqueue_response result) (refusal_in_result result) old new
    → IfErr result (λ error. EnqueueFate input error old.state new.state)
enqueue_fate (Ok done) made = tt
enqueue_fate {input = input} {old = old} {new = new} (Err (Trigger refusal)) made = (
  shows_more made,
  kept-after old.state new.state input
      (ap (λ (s : State). s.in_buffer) made.state ∙ received_bytes (enqueued_bytes old.state input) old.state),
)
enqueue_fate {input = input} {asked = asked} {old = old} (Err FullFifo) made =
    leb-true 64 (length old.state.in_buffer)
    (full-held (is_loopback old.state.modem_control || (length input == 0)) (nat_le 64 (length old.state.in_buffer))
    (is_refused_at_once asked) _ made.response)
enqueue_fate {input = input} {asked = asked} {old = old} (Err (IOError fault)) made =
    never-output (is_loopback old.state.modem_control || (length input == 0)) (nat_le 64 (length old.state.in_buffer))
    (is_refused_at_once asked) _ made.response
enqueue_fate {input = input} {asked = asked} {old = old} (Err Memory) made =
    never-allocates (is_loopback old.state.modem_control || (length input == 0)) (nat_le 64 (length old.state.in_buffer))
    (is_refused_at_once asked) _ made.response

-- ---- a character timeout

only-refused : {E : Type 0} (refused : Bool) (error : Error E)
    → failure_response error ≡ (if refused then TriggerRefused else TimeoutOk) → failure_response error ≡ TriggerRefused
only-refused refused error is = grind arith

pub timeout_fate : {T E EV W : Type 0} {links : SerialLinks T E EV W} {asked : Asked} {sent : Sent}
    {old new : SerialView T EV W} (result : Result (Unit {0}) (Error E))
    → IsSerialStep links CharacterTimeout asked sent (timeout_response result) (refusal_in_result result) old new
    → IfErr result (λ error. TimeoutFate error old.state new.state)
timeout_fate (Ok done) made = tt
timeout_fate (Err (Trigger refusal)) made = shows_more made
timeout_fate {asked = asked} (Err error) made = let is = only-refused (is_refused_at_once asked) error made.response in cc
