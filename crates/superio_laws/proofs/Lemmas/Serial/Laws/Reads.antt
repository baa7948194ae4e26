-- SPDX-License-Identifier: Apache-2.0 OR BSD-3-Clause
-- What a guest reads. Neither the writer nor a restore changes a read: operations and the trigger's answers determine it.
use Rattle.std.proofs.Common.{arith, ◌≡◌, Bool, List, [], ◌∷◌, ◌++◌, refl, ap, sym, ◌∙◌, append_assoc, append-nil, ℕ, false, ◌==◌, subst, IsTrue, not, ◌&&◌, ◌||◌, length, drop}
use Rattle.std.proofs.lemmas.Bool.{and_parts, false≢true, eqb-true}
use Rattle.std.specs.Cmp.Derive.{both_true}
use Rattle.superio_laws.specs.Serial.{Asked, Sent, Op, Read, TraceEntry, DecodedOp, Response, is_rbr_read, State, not_empty, Rda, Thre, register_read, register_at, is_dlab, identification_of, step, decode_in, has_bits}
use Rattle.superio_laws.specs.Serial.History.{with_data_ready, state_of_history, history_response, byte_read, bytes_read, guest_read, ResponsesAre, held_bytes, ier_after, decode_at, read_out_by, read_out_bytes, accepted_by, is_pending}
use Rattle.superio_laws.specs.Serial.Laws.{state_after}
use Rattle.superio_laws.specs.Serial.Laws.Consequences.{SameReadsLaw, op_and_asked, ops_and_asked, RepliesAreReadOutLaw, ReadThenHeldLaw, driver_byte, driver_bytes, polls, PollingDriverLaw, DriverGetsAllLaw, shows_data_ready, polls_after_data_ready, PollsAfterDataReadyLaw}
use Rattle.superio_laws.proofs.Lemmas.Serial.Laws.{same_kind, register_law, state_of_history-by_state, held_bytes_law, read_out_then_held, held_more}
use Rattle.superio_laws.proofs.Lemmas.Serial.Laws.Interrupts.{thre_next, rda_next}
use Rattle.superio_laws.specs.Serial.{trace_after}
use Rattle.superio_core.proofs.Lemmas.Serial.{data_ready_set, data_ready_cleared}

-- what a guest can read: the state's registers and bytes, and the conditions that are pending
abbrev View : Type 0
View = State × Bool × Bool

abbrev view_at : (start : State) (trace : List TraceEntry) → View
view_at start trace = (state_after start trace, is_pending Thre start trace, is_pending Rda start trace)

-- the view after an operation, by that before it
abbrev next_view : (op : Op) (asked : Asked) (view : View) → View
next_view op asked view =
    let s = view.0 in
    let kind = decode_in s op in (
      step s op asked,
      thre_next kind s.in_buffer s.interrupt_enable asked view.1 view.2,
      rda_next kind s.in_buffer s.interrupt_enable view.2,
    )

view_goes_on : (start : State) (trace : List TraceEntry) (entry : TraceEntry)
    → view_at start (entry ∷ trace) ≡ next_view entry.op entry.asked (view_at start trace)
view_goes_on start trace entry =
    let s = state_after start trace in
    let t = is_pending Thre start trace in
    let r = is_pending Rda start trace in
    let next_of : DecodedOp → List ℕ → ℕ → View =
    λ kind bytes enable. (step s entry.op entry.asked, thre_next kind bytes enable entry.asked t r, rda_next kind bytes enable r) in
    ap (λ (kind : DecodedOp). next_of kind (held_bytes start trace) (ier_after start trace)) (sym (same_kind start trace entry.op))
    ∙ ap (λ bytes. next_of (decode_in s entry.op) bytes (ier_after start trace)) (sym (held_bytes_law start trace))
    ∙ ap (next_of (decode_in s entry.op) s.in_buffer) (sym (register_law start trace).interrupt_enable)

-- the view after operations with the trigger's answers
view_of : (start : State) → List (Op × Asked) → View
view_of start [] = view_at start []
view_of start (call ∷ calls) = next_view call.0 call.1 (view_of start calls)

-- a restore changes no view
one_more : (start : State) (op : Op) (asked : Asked) (calls : List (Op × Asked))
    → next_view op asked (view_of start calls) ≡ view_of start (op_and_asked op asked ++ calls)
unfolding view_of
one_more start op asked calls = grind arith

-- so every trace shows what its operations and the trigger's answers show
by_operations : (start : State) (trace : List TraceEntry) → view_at start trace ≡ view_of start (ops_and_asked trace)
unfolding view_of
by_operations start [] = refl
by_operations start (entry ∷ trace) =
    view_goes_on start trace entry
    ∙ ap (next_view entry.op entry.asked) (by_operations start trace)
    ∙ one_more start entry.op entry.asked (ops_and_asked trace)

-- the state that a trace describes, by its view
described : State → View → State
described start view = record view.0 {
  interrupt_identification = identification_of view.1 view.2;
  line_status = with_data_ready start.line_status (not_empty view.0.in_buffer);
}

described_by_view : (start : State) (trace : List TraceEntry) → state_of_history start trace ≡ described start (view_at start trace)
unfolding described
described_by_view start trace =
    state_of_history-by_state start trace _ _ _
    ∙ ap (λ bytes. record (state_after start trace) {
      interrupt_identification = identification_of (is_pending Thre start trace) (is_pending Rda start trace);
      line_status = with_data_ready start.line_status (not_empty bytes);
      in_buffer = bytes;
    }) (sym (held_bytes_law start trace))

described_by_operations : (start : State) (trace : List TraceEntry)
    → state_of_history start trace ≡ described start (view_of start (ops_and_asked trace))
described_by_operations start trace = described_by_view start trace ∙ ap (described start) (by_operations start trace)

pub same_reads_law : SameReadsLaw
same_reads_law start one other same offset =
    ap (λ (s : State). register_read (register_at (is_dlab s.line_control) offset) s)
    (described_by_operations start one
    ∙ ap (λ calls. described start (view_of start calls)) same
    ∙ sym (described_by_operations start other))

-- ---- the bytes that a guest reads from the FIFO are the bytes taken

of_call : (start : State) (trace : List TraceEntry) (op : Op) (asked : Asked) (sent : Sent) (reply : Response)
    → reply ≡ history_response start trace op asked sent
    → byte_read (decode_at start trace op) (held_bytes start trace) reply
    ≡ read_out_by (decode_at start trace op) (held_bytes start trace)
of_call start trace op asked sent reply is = grind arith

pub replies_are_read_out : RepliesAreReadOutLaw
replies_are_read_out start trace [] are = append-nil (read_out_bytes start trace)
replies_are_read_out start trace (call ∷ later) are =
    let rest = bytes_read start (call.0 ∷ trace) later in
    ap (λ byte. read_out_bytes start trace ++ (byte ++ rest))
    (of_call start trace call.0.op call.0.asked call.0.sent call.1 are.0)
    ∙ sym (append_assoc (read_out_bytes start trace) _ rest)
    ∙ replies_are_read_out start (call.0 ∷ trace) later are.1

pub read_then_held : ReadThenHeldLaw
read_then_held start calls are =
    ap (λ bytes. bytes ++ held_bytes start (trace_after [] calls)) (replies_are_read_out start [] calls are)
    ∙ read_out_then_held start (trace_after [] calls)

pub ruleset replies_are_read_out_laws = (replies_are_read_out, read_then_held)

-- ---- a driver that polls reads RBR only while a byte is held, and so gets the bytes that a guest reads from the
-- FIFO

-- LSR shows data ready if a byte is held
data_ready : (line_status : ℕ) (ready : Bool) → has_bits (with_data_ready line_status ready) 0x01 ≡ ready
data_ready line_status ready = grind (arith, data_ready_set, data_ready_cleared)

read_of_lsr : (start : State) (trace : List TraceEntry)
    → has_bits (guest_read start trace 5) 0x01 ≡ not_empty (held_bytes start trace)
read_of_lsr start trace = data_ready start.line_status (not_empty (held_bytes start trace))

-- ---- data ready shows at each RBR read

gets_byte : (kind : DecodedOp) (held : List ℕ) (reply : Response) → IsTrue (not (is_rbr_read kind) || not_empty held)
    → driver_byte kind reply ≡ byte_read kind held reply
gets_byte kind held reply polled = grind arith

gets_bytes : (start : State) (trace : List TraceEntry) (calls : List (TraceEntry × Response))
    → IsTrue (polls start trace calls) → driver_bytes start trace calls ≡ bytes_read start trace calls
gets_bytes start trace [] polled = refl
gets_bytes start trace (call ∷ later) polled =
    let kind = decode_at start trace call.0.op in
    let both = and_parts (not (is_rbr_read kind) || has_bits (guest_read start trace 5) 0x01)
    (polls start (call.0 ∷ trace) later) polled in
    let held = subst (λ ready. IsTrue (not (is_rbr_read kind) || ready)) (read_of_lsr start trace) both.0 in
    ap (λ bytes. bytes ++ driver_bytes start (call.0 ∷ trace) later) (gets_byte kind (held_bytes start trace) call.1 held)
    ∙ ap (λ bytes. byte_read kind (held_bytes start trace) call.1 ++ bytes) (gets_bytes start (call.0 ∷ trace) later both.1)

pub polling_driver : PollingDriverLaw
polling_driver start calls are polled =
    ap (λ bytes. bytes ++ held_bytes start (trace_after [] calls)) (gets_bytes start [] calls polled)
    ∙ read_then_held start calls are

none_held : (held : List ℕ) → not_empty held ≡ false → held ≡ []
none_held held none = grind arith

pub driver_gets_all : DriverGetsAllLaw
driver_gets_all start calls are polled clear =
    let trace = trace_after [] calls in
    let bytes = driver_bytes start [] calls in
    sym (append-nil bytes)
    ∙ ap (λ held. bytes ++ held) (sym (none_held (held_bytes start trace) (sym (read_of_lsr start trace) ∙ clear)))
    ∙ polling_driver start calls are polled

-- ---- as the driver sees it

after_data_ready : {A : Type 0} (seen shows : Bool) → IsTrue (seen || shows) → (IsTrue seen → A) → (IsTrue shows → A) → A
after_data_ready seen shows either from_seen from_shows = grind arith

reads_right : (other seen ready : Bool) → IsTrue (other || seen) → (IsTrue seen → IsTrue ready) → IsTrue (other || ready)
reads_right other seen ready either right = grind arith

-- if LSR has shown data ready, a byte is held
abbrev IsRight : State → List TraceEntry → Bool → Type 0
IsRight start trace seen = IsTrue seen → IsTrue (not_empty (held_bytes start trace))

shown : (start : State) (trace : List TraceEntry) (op : Op) (asked : Asked) (sent : Sent) (reply : Response)
    → reply ≡ history_response start trace op asked sent → IsRight start trace (shows_data_ready op reply)
shown start trace (Read offset) asked sent reply is shows =
    let both = and_parts (offset == 5) (has_bits (guest_read start trace offset) 0x01)
    (subst (λ reply. IsTrue (shows_data_ready (Read offset) reply)) is shows) in
    sym (read_of_lsr start trace)
    ∙ ap (λ at. has_bits (guest_read start trace at) 0x01) (sym (eqb-true offset 5 both.0)) ∙ both.1
shown start trace _ asked sent reply is shows = absurd (false≢true shows)

-- no other operation takes a byte
none_taken : (kind : DecodedOp) (held : List ℕ) → IsTrue (not (is_rbr_read kind)) → read_out_by kind held ≡ []
none_taken kind held other = grind arith

still_held : (held accepted : List ℕ) → IsTrue (not_empty held) → IsTrue (not_empty (held ++ accepted))
still_held held accepted some = grind arith

stays_right : (start : State) (trace : List TraceEntry) (entry : TraceEntry)
    → IsTrue (not (is_rbr_read (decode_at start trace entry.op))) → IsTrue (not_empty (held_bytes start trace))
    → IsTrue (not_empty (held_bytes start (entry ∷ trace)))
stays_right start trace entry other some =
    let kind = decode_at start trace entry.op in
    let held = held_bytes start trace in
    ap not_empty (held_more start trace entry (read_out_then_held start trace)
    ∙ ap (λ taken. drop (length taken) (held ++ accepted_by kind held)) (none_taken kind held other))
    ∙ still_held held (accepted_by kind held) some

right_after : (start : State) (trace : List TraceEntry) (entry : TraceEntry) (reply : Response) (seen : Bool)
    → reply ≡ history_response start trace entry.op entry.asked entry.sent → IsRight start trace seen
    → let reads = is_rbr_read (decode_at start trace entry.op) in
    IsRight start (entry ∷ trace) (not reads && (seen || shows_data_ready entry.op reply))
right_after start trace entry reply seen is right now =
    let reads = is_rbr_read (decode_at start trace entry.op) in
    let shows = shows_data_ready entry.op reply in
    let both = and_parts (not reads) (seen || shows) now in
    stays_right start trace entry both.0
    (after_data_ready seen shows both.1 right (shown start trace entry.op entry.asked entry.sent reply is))

pub polls_from : (start : State) (trace : List TraceEntry) (seen : Bool) (calls : List (TraceEntry × Response))
    → IsRight start trace seen → ResponsesAre start trace calls
    → IsTrue (polls_after_data_ready start trace seen calls) → IsTrue (polls start trace calls)
polls_from start trace seen [] right are sight = refl
polls_from start trace seen (call ∷ later) right are sight =
    let reads = is_rbr_read (decode_at start trace call.0.op) in
    let next = not reads && (seen || shows_data_ready call.0.op call.1) in
    let both = and_parts (not reads || seen) (polls_after_data_ready start (call.0 ∷ trace) next later) sight in
    both_true
    (reads_right (not reads) seen (has_bits (guest_read start trace 5) 0x01) both.0
    (λ has_seen. read_of_lsr start trace ∙ right has_seen))
    (polls_from start (call.0 ∷ trace) next later (right_after start trace call.0 call.1 seen are.0 right) are.1 both.1)

pub polls_after_data_ready_law : PollsAfterDataReadyLaw
polls_after_data_ready_law start calls are sight = polls_from start [] false calls (λ none. absurd (false≢true none)) are sight

pub ruleset polling_driver_laws = (polling_driver, driver_gets_all, polls_after_data_ready_law)
