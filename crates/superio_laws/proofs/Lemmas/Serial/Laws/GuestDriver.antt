-- SPDX-License-Identifier: Apache-2.0 OR BSD-3-Clause
-- What a driver and its monitor move, and which interrupts have been asked for.
use Rattle.std.proofs.Common.{◌≡◌, ℕ, ◌<◌, ◌≤◌, ◌+◌, ◌-◌, Bool, true, false, not, ◌&&◌, ◌||◌, if◌then◌else◌, inl, inr, List, [], ◌∷◌, ◌++◌, length, take, drop, refl, sym, ap, ◌∙◌, subst, arith, append_assoc, append-nil, length-append, length-drop, length-take, IsTrue, ◌⊎◌}
use Rattle.std.proofs.lemmas.Bool.{and_parts, false≢true}
use Rattle.std.proofs.lemmas.List.{take-append-drop}
use Rattle.std.specs.Bool.{IsFalse}
use Rattle.superio_laws.specs.Serial.{Rda, Thre, Condition, State, not_empty, TraceEntry, Trace, count_if, DecodedOp, IirRead, IerWrite, ThrWrite, sent_by, has_bits, ier_bit}
use Rattle.superio_laws.specs.Serial.History.{decode_at, ier_after, held_bytes, accepted_bytes, read_out_bytes, accepted_by, read_out_by, acknowledges, is_raised, is_pending, NoneAcknowledges, covers_waiting_bytes}
use Rattle.superio_laws.specs.Serial.Laws.Line.{timeout_entry}
use Rattle.superio_laws.specs.Serial.Laws.GuestDriver.{Driver, given, sent, left, has_to_send, EnablesThre, SendsEnabled, AsksWhenGiven, SendsOne, Rests, EndsAtNone, EndsInPass}
use Rattle.superio_laws.specs.Serial.Laws.GuestDriver.{EndsInTimeout, IsAskedFor, InterruptToReadLaw, InterruptToSendLaw, AreDriverRuns, after_runs, is_free, free_runs, ReadOutInRunsLaw, SentInRunsLaw, TakesUntilNone, TakesMost}
use Rattle.superio_laws.specs.Serial.Laws.GuestDriver.{HandlerRunLaw, HandlerEndsLaw}
use Rattle.superio_laws.proofs.Lemmas.Serial.Laws.{read_out_then_held}
use Rattle.superio_laws.proofs.Lemmas.Serial.Laws.Consequences.{waiting_bytes_law}
use Rattle.superio_laws.proofs.Lemmas.Serial.Laws.InterruptDriver.{Begins, begins_then, begins_first, all_bytes, some_held, taken_grows, accepted_grows, longer, counted, all_grow, enough_next}
use Rattle.superio_laws.proofs.Lemmas.Serial.Laws.Transmit.{ier_raises, thr_raises, raised_stays, retried_law, called_since_law}

-- ---- parts of some entries

within : (later middle before : Trace) (entry : TraceEntry) (first rest : Trace) → middle ≡ first ++ entry ∷ rest
    → later ++ (middle ++ before) ≡ (later ++ first) ++ entry ∷ (rest ++ before)
within later middle before entry first rest place =
    ap (λ (list : Trace). later ++ (list ++ before)) place ∙ ap (λ (list : Trace). later ++ list) (append_assoc first (entry ∷ rest) before)
    ∙ sym (append_assoc later first (entry ∷ rest ++ before))

-- what holds of all entries holds of some in the middle
none_within : (start : State) (acknowledges : DecodedOp → Bool) (newest later middle earlier before : Trace)
    → newest ≡ later ++ (middle ++ earlier) → NoneAcknowledges start acknowledges newest before
    → NoneAcknowledges start acknowledges middle (earlier ++ before)
none_within start acknowledges newest later middle earlier before whole none first rest entry place =
    subst (λ (trace : Trace). IsFalse (acknowledges (decode_at start trace entry.op))) (append_assoc rest earlier before)
    (none (later ++ first) (rest ++ earlier) entry (whole ∙ within later middle earlier entry first rest place))

asks_within : (driver : Driver) (start : State) (newest later middle earlier before : Trace)
    → newest ≡ later ++ (middle ++ earlier) → AsksWhenGiven driver start before newest
    → AsksWhenGiven driver start (earlier ++ before) middle
asks_within driver start newest later middle earlier before whole asks first rest entry place =
    subst (λ (trace : Trace). IsTrue (has_to_send driver start (entry ∷ trace))
    → IsTrue (has_to_send driver start trace) ⊎ EnablesThre start trace entry ⊎ SendsEnabled start trace entry) (append_assoc rest earlier before)
    (asks (later ++ first) (rest ++ earlier) entry (whole ∙ within later middle earlier entry first rest place))

not_iir : (kind : DecodedOp) → IsFalse (acknowledges Rda kind) → IsFalse (acknowledges Thre kind)
not_iir kind none = grind arith

no_iir : (start : State) (newest before : Trace) → NoneAcknowledges start (acknowledges Rda) newest before
    → NoneAcknowledges start (acknowledges Thre) newest before
no_iir start newest before none later earlier entry place =
    not_iir (decode_at start (earlier ++ before) entry.op) (none later earlier entry place)

-- ---- while the driver has bytes to send, THRE is pending

abbrev Waits : (driver : Driver) (start : State) (trace : Trace) → Type 0
Waits driver start trace = IsTrue (has_to_send driver start trace) → IsTrue (is_pending Thre start trace)

kept_on : (raised acknowledged before : Bool) → IsFalse acknowledged → IsTrue before → IsTrue (raised || (not acknowledged && before))
kept_on raised acknowledged before none was = grind arith

now_pending : (start : State) (trace : Trace) (entry : TraceEntry) → IsTrue (is_raised Thre start trace entry)
    → IsTrue (is_pending Thre start (entry ∷ trace))
now_pending start trace entry raised =
    ap (λ raised. raised || (not (acknowledges Thre (decode_at start trace entry.op)) && is_pending Thre start trace)) raised

waits_next : (driver : Driver) (start : State) (trace : Trace) (entry : TraceEntry)
    → IsFalse (acknowledges Thre (decode_at start trace entry.op)) → Waits driver start trace
    → IsTrue (has_to_send driver start trace) ⊎ EnablesThre start trace entry ⊎ SendsEnabled start trace entry
    → IsTrue (is_pending Thre start (entry ∷ trace))
waits_next driver start trace entry none was (inl earlier) =
    kept_on (is_raised Thre start trace entry) (acknowledges Thre (decode_at start trace entry.op)) _ none (was earlier)
waits_next driver start trace entry none was (inr (inl (value, kind, enabled, kept))) =
    now_pending start trace entry (ier_raises start trace entry value kind enabled kept)
waits_next driver start trace entry none was (inr (inr (value, kind, enabled))) =
    now_pending start trace entry (thr_raises start trace entry value kind enabled)

stays_waiting : (driver : Driver) (start : State) (newest before : Trace) → NoneAcknowledges start (acknowledges Thre) newest before
    → AsksWhenGiven driver start before newest → Waits driver start before → Waits driver start (newest ++ before)
stays_waiting driver start [] before none asks was some = was some
stays_waiting driver start (entry ∷ newest) before none asks was some =
    let rest = stays_waiting driver start newest before
    (λ later earlier other place. none (entry ∷ later) earlier other (ap (λ list. entry ∷ list) place))
    (λ later earlier other place. asks (entry ∷ later) earlier other (ap (λ list. entry ∷ list) place)) was in
    waits_next driver start (newest ++ before) entry (none [] newest entry refl) rest (asks [] newest entry refl some)

resting : (driver : Driver) (start : State) (trace : Trace) → has_to_send driver start trace ≡ false → Waits driver start trace
resting driver start trace rests some = absurd (false≢true (sym rests ∙ some))

pass_waits : (driver : Driver) (start : State) (before pass : Trace) → NoneAcknowledges start (acknowledges Thre) pass before
    → AsksWhenGiven driver start before pass → SendsOne driver start before pass ⊎ Rests driver start before pass
    → Waits driver start (pass ++ before)
pass_waits driver start before pass none asks (inl at) some =
    let point = at.earlier ++ before in
    let unread = none_within start (acknowledges Thre) pass [] at.later (at.entry ∷ at.earlier) before at.place none in
    let raised = thr_raises start point at.entry at.value at.writes at.enabled in
    subst (λ trace. IsTrue (is_pending Thre start trace))
    (sym (ap (λ (pass : Trace). pass ++ before) at.place ∙ append_assoc at.later (at.entry ∷ at.earlier) before))
    (raised_stays Thre start at.later point at.entry raised unread)
pass_waits driver start before pass none asks (inr (later, earlier, place, rests)) some =
    (subst (Waits driver start) (sym (ap (λ (pass : Trace). pass ++ before) place ∙ append_assoc later earlier before))
    (stays_waiting driver start later (earlier ++ before) (none_within start (acknowledges Thre) pass [] later earlier before place none)
    (asks_within driver start pass [] later earlier before place asks) (resting driver start (earlier ++ before) rests))) some

has_none : (b pending : Bool) → (IsTrue b → IsTrue pending) → pending ≡ false → b ≡ false
has_none b pending waits none = grind arith

-- ---- a run that ends where IIR shows nothing pending

module _ (driver : Driver) (start : State) (before run : Trace) (asks : AsksWhenGiven driver start before run) where
  module _ (ends : EndsAtNone driver start before run) where
    abbrev opened : Trace
    opened = ends.iir ∷ ends.earlier ++ before

    abbrev end : Trace
    end = ends.pass ++ opened

    whole_at_none : run ++ before ≡ ends.tail ++ ends.none ∷ end
    whole_at_none =
        ap (λ (run : Trace). run ++ before) ends.place ∙ append_assoc ends.tail (ends.none ∷ (ends.pass ++ ends.iir ∷ ends.earlier)) before
        ∙ ap (λ (list : Trace). ends.tail ++ ends.none ∷ list) (append_assoc ends.pass (ends.iir ∷ ends.earlier) before)

    asks_in_pass : AsksWhenGiven driver start opened ends.pass
    asks_in_pass =
        asks_within driver start run (ends.tail ++ ends.none ∷ []) ends.pass (ends.iir ∷ ends.earlier) before
        (ends.place ∙ sym (append_assoc ends.tail (ends.none ∷ []) (ends.pass ++ ends.iir ∷ ends.earlier))) asks

    has_none_at_end : has_to_send driver start end ≡ false
    has_none_at_end =
        has_none _ _ (pass_waits driver start opened ends.pass ends.is_pass.unread asks_in_pass ends.is_pass.sends) ends.shows_none.0

    has_none_after : Waits driver start (ends.none ∷ end)
    has_none_after some =
        let nested : (ends.pass ++ ends.iir ∷ ends.earlier) ++ before ≡ end = append_assoc ends.pass (ends.iir ∷ ends.earlier) before in
        absurd (not_either (subst (λ (trace : Trace). IsTrue (has_to_send driver start (ends.none ∷ trace))
        → IsTrue (has_to_send driver start trace) ⊎ EnablesThre start trace ends.none ⊎ SendsEnabled start trace ends.none) nested
        (asks ends.tail (ends.pass ++ ends.iir ∷ ends.earlier) ends.none ends.place) some)) where
          not_either : IsTrue (has_to_send driver start end) ⊎ EnablesThre start end ends.none ⊎ SendsEnabled start end ends.none → ⊥
          not_either (inl has) = false≢true (sym has_none_at_end ∙ has)
          not_either (inr (inl (value, kind, enabled, kept))) = reads_not (sym ends.reads_none ∙ kind) where
            reads_not : IirRead ≡ IerWrite value → ⊥
            reads_not e = cc
          not_either (inr (inr (value, kind, enabled))) = reads_not (sym ends.reads_none ∙ kind) where
            reads_not : IirRead ≡ ThrWrite value → ⊥
            reads_not e = cc

    asks_in_tail : AsksWhenGiven driver start (ends.none ∷ end) ends.tail
    asks_in_tail =
        subst (λ (trace : Trace). AsksWhenGiven driver start (ends.none ∷ trace) ends.tail) (append_assoc ends.pass (ends.iir ∷ ends.earlier) before)
        (asks_within driver start run [] ends.tail (ends.none ∷ (ends.pass ++ ends.iir ∷ ends.earlier)) before ends.place asks)

    waits_at_none : Waits driver start (run ++ before)
    waits_at_none =
        subst (Waits driver start) (sym whole_at_none)
        (stays_waiting driver start ends.tail (ends.none ∷ end) (no_iir start ends.tail (ends.none ∷ end) ends.untouched) asks_in_tail has_none_after)

  -- ---- one that ends in a pass

  module _ (ends : EndsInPass driver start before run) where
    abbrev begun : Trace
    begun = ends.iir ∷ ends.earlier ++ before

    waits_in_pass : Waits driver start (run ++ before)
    waits_in_pass =
        let whole : run ++ before ≡ ends.pass ++ begun =
        ap (λ (run : Trace). run ++ before) ends.place ∙ append_assoc ends.pass (ends.iir ∷ ends.earlier) before in
        subst (Waits driver start) (sym whole)
        (pass_waits driver start begun ends.pass ends.is_pass.unread
        (asks_within driver start run [] ends.pass (ends.iir ∷ ends.earlier) before ends.place asks) ends.is_pass.sends)

-- ---- the driver is asked again

asked_for : (condition : Condition) (start : State) (before run : Trace) → IsTrue (is_pending condition start (run ++ before))
    → IsAskedFor condition start before run
asked_for condition start before run pending = record {
  pending = pending;
  called = λ later earlier iir place reads.
      called_since_law condition start later (earlier ++ before) iir reads
      (subst (λ trace. IsTrue (is_pending condition start trace))
      (ap (λ (run : Trace). run ++ before) place ∙ append_assoc later (iir ∷ earlier) before) pending);
  retried = retried_law condition start (run ++ before) pending;
}

pub asked_to_send_law : InterruptToSendLaw
asked_to_send_law driver start before run is some = asked_for Thre start before run (pending is.ends) where
  pending : EndsAtNone driver start before run ⊎ EndsInPass driver start before run → IsTrue (is_pending Thre start (run ++ before))
  pending (inl ends) = waits_at_none driver start before run is.asks ends some
  pending (inr ends) = waits_in_pass driver start before run is.asks ends some

pub asked_to_take_law : InterruptToReadLaw
asked_to_take_law driver start before run is monitored some enabled = asked_for Rda start before run (pending monitored.in_loop) where
  pending : EndsAtNone driver start before run ⊎ EndsInTimeout start before run → IsTrue (is_pending Rda start (run ++ before))
  pending (inl ends) =
      let end = ends.pass ++ (ends.iir ∷ ends.earlier ++ before) in
      let nested : (ends.pass ++ ends.iir ∷ ends.earlier) ++ before ≡ end = append_assoc ends.pass (ends.iir ∷ ends.earlier) before in
      let (later, asked, timed) = monitored.after_none ends.tail (ends.pass ++ ends.iir ∷ ends.earlier) ends.none ends.place
      (ap (λ (trace : Trace). decode_at start trace ends.none.op) nested ∙ ends.reads_none)
      (ap (λ (trace : Trace). is_pending Thre start trace) nested ∙ ends.shows_none.0, ap (λ (trace : Trace). is_pending Rda start trace) nested ∙ ends.shows_none.1) in
      waiting_bytes_law start (run ++ before) later (ends.none ∷ end) (timeout_entry asked)
      (whole_at_none driver start before run is.asks ends ∙ ap (λ (tail : Trace). tail ++ ends.none ∷ end) timed
      ∙ append_assoc later (timeout_entry asked ∷ []) (ends.none ∷ end)) refl
      (none_within start (acknowledges Rda) ends.tail [] later (timeout_entry asked ∷ []) (ends.none ∷ end) timed ends.untouched) some enabled
  pending (inr ends) =
      waiting_bytes_law start (run ++ before) ends.later (ends.earlier ++ before) (timeout_entry ends.asked)
      (ap (λ (run : Trace). run ++ before) ends.place ∙ append_assoc ends.later (timeout_entry ends.asked ∷ ends.earlier) before)
      refl ends.unread some enabled

-- ---- in each run a byte is through

grows_from : (start : State) (before : Trace) (runs : List Trace) → (later : Trace) × (after_runs before runs ≡ later ++ before)
grows_from start before [] = ([], refl)
grows_from start before (run ∷ runs) =
    let (later, whole) = grows_from start (run ++ before) runs in
    (later ++ run, whole ∙ sym (append_assoc later run before))

given_grows : (driver : Driver) (newest before : Trace) → Begins (given driver before) (given driver (newest ++ before))
given_grows driver [] before = ([], sym (append-nil _))
given_grows driver (entry ∷ newest) before =
    begins_then (given driver before) (given driver (newest ++ before)) (given driver (entry ∷ newest ++ before)) (given_grows driver newest before) (_, refl)

sent_grows : (driver : Driver) (start : State) (newest before : Trace)
    → Begins (sent driver start before) (sent driver start (newest ++ before))
sent_grows driver start [] before = ([], sym (append-nil _))
sent_grows driver start (entry ∷ newest) before =
    begins_then (sent driver start before) (sent driver start (newest ++ before)) (sent driver start (entry ∷ newest ++ before)) (sent_grows driver start newest before) (_, refl)

taken_within : (driver : Driver) (start : State) (most : ℕ) (before : Trace) (runs : List Trace) → AreDriverRuns driver start before runs
    → most ≤ length (all_bytes start before) → most ≤ length (read_out_bytes start before) + length runs
    → most ≤ length (read_out_bytes start (after_runs before runs))
taken_within driver start most before [] are few enough = omega (arith, enough)
taken_within driver start most before (run ∷ runs) (is, later) few enough =
    let next = run ++ before in
    taken_within driver start most next runs later (omega (arith, few, all_grow start run before))
    (enough_next most (length (read_out_bytes start before)) (length (held_bytes start before)) (length (all_bytes start before)) (length runs) (length (read_out_bytes start next))
    (counted start before) (longer (read_out_bytes start before) (read_out_bytes start next) (taken_grows start run before))
    (λ some. is.takes (some_held (held_bytes start before) some)) few enough)

-- two beginnings of one list
first_of_both : (through waiting all through_after all_after : List ℕ) (n : ℕ) → all ≡ through ++ waiting → Begins all all_after
    → Begins through_after all_after → length (through ++ take n waiting) ≤ length through_after
    → Begins (through ++ take n waiting) through_after
first_of_both through waiting all through_after all_after n is grown begins few =
    begins_first (through ++ take n waiting) through_after all_after
    (begins_then (through ++ take n waiting) all all_after
    (drop n waiting, is ∙ ap (λ bytes. through ++ bytes) (sym (take-append-drop n waiting)) ∙ sym (append_assoc through (take n waiting) (drop n waiting)))
    grown) begins few

most_first : (through waiting all : List ℕ) (n : ℕ) → length all ≡ length through + length waiting
    → (length (through ++ take n waiting) ≤ length all) × (length (through ++ take n waiting) ≤ length through + n)
most_first through waiting all n count = (
  omega (arith, count, length-append through (take n waiting), length-take n waiting),
  omega (arith, length-append through (take n waiting), length-take n waiting),
)

pub taken_in_runs_law : ReadOutInRunsLaw
taken_in_runs_law driver start before runs are =
    let held = held_bytes start before in
    let taken = read_out_bytes start before in
    let after = after_runs before runs in
    let n = length runs in
    let (later, whole) = grows_from start before runs in
    let (accepted, grown) = accepted_grows start later before in
    let (few, enough) = most_first taken held (all_bytes start before) n (sym (counted start before)) in
    first_of_both taken held (all_bytes start before) (read_out_bytes start after) (all_bytes start after) n (sym (read_out_then_held start before)) (
      accepted,
      ap (λ (trace : Trace). all_bytes start trace) whole ∙ ap (λ bytes. start.in_buffer ++ bytes) grown
          ∙ sym (append_assoc start.in_buffer (accepted_bytes start before) accepted),
    )
    (held_bytes start after, sym (read_out_then_held start after))
    (taken_within driver start (length (taken ++ take n held)) before runs are few enough)

-- ---- a driver that is not stopped sends in each run

not_true : (b : Bool) → IsTrue (not b) → b ≡ false
not_true b e = grind arith

free_at : (driver : Driver) (later newest before : Trace) → IsTrue (is_free driver before (later ++ newest))
    → driver.is_stopped (newest ++ before) ≡ false
free_at driver [] [] before free = not_true (driver.is_stopped before) free
free_at driver [] (entry ∷ newest) before free = not_true (driver.is_stopped (entry ∷ newest ++ before)) (and_parts (is_free driver before newest) _ free).1
free_at driver (entry ∷ later) newest before free = free_at driver later newest before (and_parts (is_free driver before (later ++ newest)) _ free).0

one_own : (own : Bool) (bytes : List ℕ) (value : ℕ) → IsTrue own → bytes ≡ value ∷ [] → length (if own then bytes else []) ≡ 1
one_own true bytes value is one = ap length one
one_own false bytes value is one = absurd (false≢true is)

sends_more : (driver : Driver) (start : State) (point before : Trace) (entry : TraceEntry) (value : ℕ)
    → decode_at start (point ++ before) entry.op ≡ ThrWrite value → IsTrue (driver.sends_own (point ++ before) entry)
    → length (sent driver start before) < length (sent driver start (entry ∷ point ++ before))
sends_more driver start point before entry value writes own =
    let trace = point ++ before in
    let bytes = sent_by (decode_at start trace entry.op) in
    omega (
      arith,
      longer (sent driver start before) (sent driver start trace) (sent_grows driver start point before),
      length-append (sent driver start trace) (if driver.sends_own trace entry then bytes else []),
      one_own (driver.sends_own trace entry) bytes value own (ap sent_by writes),
    )

rests_when_sent : (left : List ℕ) (stopped : Bool) → stopped ≡ false → not_empty left && not stopped ≡ false → length left ≡ 0
rests_when_sent left stopped free rests = grind arith

all_sent : (given_before given_at sent_before sent_at sent_end : ℕ) → 0 < given_before - sent_before → given_before ≤ given_at
    → given_at - sent_at ≡ 0 → sent_at ≤ sent_end → sent_before < sent_end
all_sent given_before given_at sent_before sent_at sent_end some grows none more = omega (arith, some, grows, none, more)

pass_sends : (driver : Driver) (start : State) (before run later pass earlier : Trace) → run ≡ later ++ (pass ++ earlier)
    → SendsOne driver start (earlier ++ before) pass ⊎ Rests driver start (earlier ++ before) pass
    → IsTrue (is_free driver before run) → 0 < length (left driver start before)
    → length (sent driver start before) < length (sent driver start (run ++ before))
pass_sends driver start before run later pass earlier place (inl at) free some =
    let point = at.earlier ++ earlier in
    let same = append_assoc at.earlier earlier before in
    let whole : run ++ before ≡ (later ++ at.later) ++ (at.entry ∷ point ++ before) =
    ap (λ (run : Trace). run ++ before) (place ∙ within later pass earlier at.entry at.later at.earlier at.place)
    ∙ append_assoc (later ++ at.later) (at.entry ∷ point) before in
    omega (
      arith,
      sends_more driver start point before at.entry at.value (ap (λ (trace : Trace). decode_at start trace at.entry.op) same ∙ at.writes)
          (ap (λ (trace : Trace). driver.sends_own trace at.entry) same ∙ at.own),
      longer (sent driver start (at.entry ∷ point ++ before)) (sent driver start ((later ++ at.later) ++ (at.entry ∷ point ++ before)))
          (sent_grows driver start (later ++ at.later) (at.entry ∷ point ++ before)),
      ap (λ (trace : Trace). length (sent driver start trace)) whole,
    )
pass_sends driver start before run later pass earlier place (inr (newer, older, split, rests)) free some =
    let point = older ++ earlier in
    let same = append_assoc older earlier before in
    let parts : run ≡ (later ++ newer) ++ point =
    place ∙ ap (λ (pass : Trace). later ++ (pass ++ earlier)) split ∙ ap (λ (list : Trace). later ++ list) (append_assoc newer older earlier)
    ∙ sym (append_assoc later newer point) in
    let whole : run ++ before ≡ (later ++ newer) ++ (point ++ before) =
    ap (λ (run : Trace). run ++ before) parts ∙ append_assoc (later ++ newer) point before in
    let stopped = free_at driver (later ++ newer) point before (subst (λ (run : Trace). IsTrue (is_free driver before run)) parts free) in
    let none = rests_when_sent (left driver start (point ++ before)) (driver.is_stopped (point ++ before)) stopped
    (ap (λ (trace : Trace). has_to_send driver start trace) same ∙ rests) in
    omega (
      arith,
      all_sent (length (given driver before)) (length (given driver (point ++ before))) (length (sent driver start before))
          (length (sent driver start (point ++ before))) (length (sent driver start ((later ++ newer) ++ (point ++ before))))
          (omega (arith, some, length-drop (length (sent driver start before)) (given driver before)))
          (longer (given driver before) (given driver (point ++ before)) (given_grows driver point before))
          (omega (arith, none, length-drop (length (sent driver start (point ++ before))) (given driver (point ++ before))))
          (longer (sent driver start (point ++ before)) (sent driver start ((later ++ newer) ++ (point ++ before)))
          (sent_grows driver start (later ++ newer) (point ++ before))),
      ap (λ (trace : Trace). length (sent driver start trace)) whole,
    )

run_sends : (driver : Driver) (start : State) (before run : Trace) → EndsAtNone driver start before run ⊎ EndsInPass driver start before run
    → IsTrue (is_free driver before run) → 0 < length (left driver start before)
    → length (sent driver start before) < length (sent driver start (run ++ before))
run_sends driver start before run (inl ends) free some =
    pass_sends driver start before run (ends.tail ++ ends.none ∷ []) ends.pass (ends.iir ∷ ends.earlier)
    (ends.place ∙ sym (append_assoc ends.tail (ends.none ∷ []) (ends.pass ++ ends.iir ∷ ends.earlier))) ends.is_pass.sends free some
run_sends driver start before run (inr ends) free some =
    pass_sends driver start before run [] ends.pass (ends.iir ∷ ends.earlier) ends.place ends.is_pass.sends free some

-- one run more: it sends a byte if it has some, unless it is stopped
sends_next : (most sent given rest sent_next : ℕ) (free : Bool) → sent ≤ sent_next → (IsTrue free → 0 < given - sent → sent < sent_next)
    → most ≤ given → most ≤ sent + (count_if free + rest) → most ≤ sent_next + rest
sends_next most sent given rest sent_next true grows sends few enough = sends_free (sends refl) where
  sends_free : (0 < given - sent → sent < sent_next) → most ≤ sent_next + rest
  sends_free sends = grind (arith, sends, few, enough, grows)
sends_next most sent given rest sent_next false grows sends few enough = omega (arith, grows, enough)

sent_within : (driver : Driver) (start : State) (most : ℕ) (before : Trace) (runs : List Trace) → AreDriverRuns driver start before runs
    → most ≤ length (given driver before) → most ≤ length (sent driver start before) + free_runs driver before runs
    → most ≤ length (sent driver start (after_runs before runs))
sent_within driver start most before [] are few enough = omega (arith, enough)
sent_within driver start most before (run ∷ runs) (is, later) few enough =
    let next = run ++ before in
    sent_within driver start most next runs later
    (omega (arith, few, longer (given driver before) (given driver next) (given_grows driver run before)))
    (sends_next most (length (sent driver start before)) (length (given driver before)) (free_runs driver next runs) (length (sent driver start next))
    (is_free driver before run) (longer (sent driver start before) (sent driver start next) (sent_grows driver start run before))
    (λ free some. run_sends driver start before run is.ends free
    (omega (arith, some, length-drop (length (sent driver start before)) (given driver before)))) few enough)

pub sent_in_runs_law : SentInRunsLaw
sent_in_runs_law driver start before runs are ordered ordered_after =
    let some = left driver start before in
    let first = sent driver start before in
    let after = after_runs before runs in
    let n = free_runs driver before runs in
    let (later, whole) = grows_from start before runs in
    let (few, enough) = most_first first some (given driver before) n (ap length ordered ∙ length-append first some) in
    first_of_both first some (given driver before) (sent driver start after) (given driver after) n ordered
    (subst (λ trace. Begins (given driver before) (given driver trace)) (sym whole) (given_grows driver later before))
    (left driver start after, ordered_after)
    (sent_within driver start (length (first ++ take n some)) before runs are few enough)

-- ---- a handler of Linux's shape

record Accepts (start : State) (before newest : Trace) : Type 0 where
  later : Trace
  entry : TraceEntry
  earlier : Trace
  place : newest ≡ later ++ entry ∷ earlier
  accepts : IsTrue (not_empty (accepted_by (decode_at start (earlier ++ before) entry.op) (held_bytes start (earlier ++ before))))

held_some : (held : List ℕ) → IsTrue (not_empty held) → 0 < length held
held_some held some = grind arith

none_of : (bytes : List ℕ) → not_empty bytes ≡ false → bytes ≡ []
none_of [] is = refl
none_of (byte ∷ bytes) is = absurd (false≢true (sym is))

shows_accepted : (kind : DecodedOp) (held : List ℕ) → IsTrue (not_empty (accepted_by kind held)) → IsTrue (covers_waiting_bytes kind held)
shows_accepted kind held some = grind arith

-- an entry that accepts nothing leaves no more bytes than before
fewer : (first accepted taken more gone : List ℕ) → more ≡ []
    → 0 < length (drop (length (taken ++ gone)) (first ++ (accepted ++ more))) → 0 < length (drop (length taken) (first ++ accepted))
fewer first accepted taken more gone none some =
    omega (
      arith,
      some,
      length-drop (length (taken ++ gone)) (first ++ (accepted ++ more)),
      length-drop (length taken) (first ++ accepted),
      length-append taken gone,
      length-append first (accepted ++ more),
      length-append first accepted,
      length-append accepted more,
      ap length none,
    )

held_before : (start : State) (trace : Trace) (entry : TraceEntry)
    → not_empty (accepted_by (decode_at start trace entry.op) (held_bytes start trace)) ≡ false
    → IsTrue (not_empty (held_bytes start (entry ∷ trace))) → IsTrue (not_empty (held_bytes start trace))
held_before start trace entry none some =
    let kind = decode_at start trace entry.op in
    let held = held_bytes start trace in
    some_held held
    (fewer start.in_buffer (accepted_bytes start trace) (read_out_bytes start trace) (accepted_by kind held) (read_out_by kind held)
    (none_of (accepted_by kind held) none) (held_some (held_bytes start (entry ∷ trace)) some))

accepts_by : (start : State) (before later : Trace) (entry : TraceEntry) (here : Bool)
    → not_empty (accepted_by (decode_at start (later ++ before) entry.op) (held_bytes start (later ++ before))) ≡ here
    → (IsTrue (not_empty (held_bytes start (later ++ before))) → Accepts start before later)
    → IsTrue (not_empty (held_bytes start (entry ∷ later ++ before))) → Accepts start before (entry ∷ later)
accepts_by start before later entry true is rest some =
    record { later = []; entry = entry; earlier = later; place = refl; accepts = is }
accepts_by start before later entry false is rest some =
    let at = rest (held_before start (later ++ before) entry is some) in
    record { later = entry ∷ at.later; entry = at.entry; earlier = at.earlier; place = ap (λ list. entry ∷ list) at.place; accepts = at.accepts }

accepts_in : (start : State) (before later : Trace) → held_bytes start before ≡ []
    → IsTrue (not_empty (held_bytes start (later ++ before))) → Accepts start before later
accepts_in start before [] none some = absurd (false≢true (ap not_empty (sym none) ∙ some))
accepts_in start before (entry ∷ later) none some =
    accepts_by start before later entry _ refl (accepts_in start before later none) some

-- bytes that came after the FIFO was found empty are pending
pending_since_empty : (start : State) (before later : Trace) → held_bytes start before ≡ []
    → NoneAcknowledges start (acknowledges Rda) later before
    → IsTrue (has_bits (ier_after start (later ++ before)) (ier_bit Rda))
    → IsTrue (not_empty (held_bytes start (later ++ before))) → IsTrue (is_pending Rda start (later ++ before))
pending_since_empty start before later none unread enabled some =
    let at = accepts_in start before later none some in
    let point = at.earlier ++ before in
    waiting_bytes_law start (later ++ before) at.later point at.entry
    (ap (λ (list : Trace). list ++ before) at.place ∙ append_assoc at.later (at.entry ∷ at.earlier) before)
    (shows_accepted (decode_at start point at.entry.op) (held_bytes start point) at.accepts)
    (none_within start (acknowledges Rda) later [] at.later (at.entry ∷ at.earlier) before at.place unread) some enabled

held_by : (start : State) (trace : Trace) (some : Bool) → not_empty (held_bytes start trace) ≡ some → is_pending Rda start trace ≡ false
    → (IsTrue (not_empty (held_bytes start trace)) → IsTrue (is_pending Rda start trace)) → held_bytes start trace ≡ []
held_by start trace true is idle pending = absurd (false≢true (sym idle ∙ pending is))
held_by start trace false is idle pending = none_of (held_bytes start trace) is

emptied : (start : State) (before pass : Trace) → TakesUntilNone start before pass → is_pending Rda start (pass ++ before) ≡ false
    → IsTrue (has_bits (ier_after start (pass ++ before)) (ier_bit Rda)) → held_bytes start (pass ++ before) ≡ []
emptied start before pass at idle enabled =
    let point = at.earlier ++ before in
    let whole = ap (λ (list : Trace). list ++ before) at.place ∙ append_assoc at.later at.earlier before in
    subst (λ trace. held_bytes start trace ≡ []) (sym whole)
    (held_by start (at.later ++ point) _ refl (subst (λ trace. is_pending Rda start trace ≡ false) whole idle)
    (pending_since_empty start point at.later at.none at.unread
    (subst (λ trace. IsTrue (has_bits (ier_after start trace) (ier_bit Rda))) whole enabled)))

pub handler_ends_law : HandlerEndsLaw
handler_ends_law most driver start before run is = (
  has_none_at_end driver start before run is.asks is.ends,
  λ enabled. ended is.takes enabled,
) where
  ended : TakesUntilNone start (is.ends.iir ∷ is.ends.earlier ++ before) is.ends.pass
      ⊎ TakesMost start most (is.ends.iir ∷ is.ends.earlier ++ before) is.ends.pass
      → IsTrue (has_bits (ier_after start (is.ends.pass ++ (is.ends.iir ∷ is.ends.earlier ++ before))) (ier_bit Rda))
      → (held_bytes start (is.ends.pass ++ (is.ends.iir ∷ is.ends.earlier ++ before)) ≡ [])
      ⊎ TakesMost start most (is.ends.iir ∷ is.ends.earlier ++ before) is.ends.pass
  ended (inl empty) enabled = inl (emptied start (is.ends.iir ∷ is.ends.earlier ++ before) is.ends.pass empty is.ends.shows_none.1 enabled)
  ended (inr many) enabled = inr many

-- it takes a byte if one is held

pass_takes : (start : State) (most : ℕ) (before opened pass : Trace) → 0 < most
    → TakesUntilNone start (opened ++ before) pass ⊎ TakesMost start most (opened ++ before) pass → 0 < length (held_bytes start before)
    → length (read_out_bytes start before) < length (read_out_bytes start (pass ++ (opened ++ before)))
pass_takes start most before opened pass some (inl empty) held =
    let point = empty.earlier ++ (opened ++ before) in
    let whole = ap (λ (list : Trace). list ++ (opened ++ before)) empty.place ∙ append_assoc empty.later empty.earlier (opened ++ before) in
    omega (
      arith,
      held,
      counted start before,
      counted start point,
      ap length empty.none,
      all_grow start opened before,
      all_grow start empty.earlier (opened ++ before),
      longer (read_out_bytes start point) (read_out_bytes start (empty.later ++ point)) (taken_grows start empty.later point),
      ap (λ (trace : Trace). length (read_out_bytes start trace)) whole,
    )
pass_takes start most before opened pass some (inr many) held =
    omega (arith, some, many, longer (read_out_bytes start before) (read_out_bytes start (opened ++ before)) (taken_grows start opened before))

pub handler_run_law : HandlerRunLaw
handler_run_law most driver start before run is = record {
  takes = λ held.
      let end = is.ends.pass ++ (is.ends.iir ∷ is.ends.earlier ++ before) in
      omega (
        arith,
        pass_takes start most before (is.ends.iir ∷ is.ends.earlier) is.ends.pass is.some is.takes (held_some (held_bytes start before) held),
        longer (read_out_bytes start end) (read_out_bytes start (is.ends.tail ++ is.ends.none ∷ end)) (later_grows (is.ends.tail) (is.ends.none) end),
        ap (λ (trace : Trace). length (read_out_bytes start trace)) (whole_at_none driver start before run is.asks is.ends),
      );
  ends = inl is.ends;
  asks = is.asks;
} where
  later_grows : (tail : Trace) (none : TraceEntry) (trace : Trace)
      → Begins (read_out_bytes start trace) (read_out_bytes start (tail ++ none ∷ trace))
  later_grows tail none trace =
      begins_then (read_out_bytes start trace) (read_out_bytes start (none ∷ trace)) (read_out_bytes start (tail ++ none ∷ trace))
      (taken_grows start (none ∷ []) trace) (taken_grows start tail (none ∷ trace))
