-- SPDX-License-Identifier: Apache-2.0 OR BSD-3-Clause
-- Worked examples of the guest's driver: runs that keep its rules, a driver that stalls, and a trigger that refuses.
use Rattle.std.proofs.Common.{◌≡◌, ℕ, Bool, true, false, not, ◌==◌, ◌&&◌, ◌||◌, if◌then◌else◌, nat_le, inl, inr, [], ◌∷◌, ◌++◌, length, refl, sym, subst, arith, IsTrue, ◌⊎◌}
use Rattle.std.proofs.lemmas.Bool.{and_parts, false≢true}
use Rattle.superio_laws.specs.Serial.{Asked, is_refused_at_once, Sent, State, fresh_state, Op, Read, Write, Enqueue, Trace, TraceEntry, DecodedOp, IirRead, is_iir_read, is_rbr_read, Rda, Thre, has_bits, only_bits, with_bits}
use Rattle.superio_laws.specs.Serial.History.{NoneAcknowledges, ier_after, decode_at, raises_thre, is_call_due, is_raised, is_pending, trigger_calls, conditions_due_after, guest_read}
use Rattle.superio_laws.specs.Serial.Laws.Line.{timeout_entry}
use Rattle.superio_laws.specs.Serial.Laws.GuestDriver.{Driver, sent, left, has_to_send, EnablesThre, SendsEnabled, AsksWhenGiven, SentInOrder, ShowsNone, IsHandlerRun, IsDriverRun, TimeoutAfterNone, IsMonitored, IsAskedFor, InterruptToReadLaw, InterruptToSendLaw, after_runs, free_runs}

-- ---- what holds at each place of some entries, as a test

nothing_there : (after before : Trace) (x : TraceEntry) → [] ≡ after ++ x ∷ before → ⊥
nothing_there [] before x e = cc
nothing_there (y ∷ after) before x e = cc

abbrev pub all_places : (check : Trace → TraceEntry → Bool) (newest : Trace) → Bool
all_places check [] = true
all_places check (entry ∷ newest) = check newest entry && all_places check newest

pub each_place : (check : Trace → TraceEntry → Bool) (newest : Trace) → IsTrue (all_places check newest)
    → (later earlier : Trace) (entry : TraceEntry) → newest ≡ later ++ entry ∷ earlier → IsTrue (check earlier entry)
each_place check [] all later earlier entry place = absurd (nothing_there later earlier entry place)
each_place check (first ∷ newest) all [] earlier entry place =
    let same : first ≡ entry = cc in
    let rest : newest ≡ earlier = cc in
    subst (λ x. IsTrue (check earlier x)) same (subst (λ rest. IsTrue (check rest first)) rest (and_parts (check newest first) _ all).0)
each_place check (first ∷ newest) all (y ∷ later) earlier entry place =
    let rest : newest ≡ later ++ entry ∷ earlier = cc in
    each_place check newest (and_parts (check newest first) _ all).1 later earlier entry rest

not_true : (b : Bool) → IsTrue (not b) → b ≡ false
not_true b e = grind arith

pub none_by : (start : State) (reads : DecodedOp → Bool) (newest before : Trace)
    → IsTrue (all_places (λ earlier entry. not (reads (decode_at start (earlier ++ before) entry.op))) newest)
    → NoneAcknowledges start reads newest before
none_by start reads newest before all later earlier entry place =
    not_true (reads (decode_at start (earlier ++ before) entry.op))
    (each_place (λ earlier entry. not (reads (decode_at start (earlier ++ before) entry.op))) newest all later earlier entry place)

raised_by : (start : State) (before : Trace) (entry : TraceEntry) (kind : DecodedOp) → decode_at start before entry.op ≡ kind
    → IsTrue (raises_thre kind (ier_after start before) (is_call_due Rda start before entry && is_refused_at_once entry.asked))
    → EnablesThre start before entry ⊎ SendsEnabled start before entry
raised_by start before entry (DecodedOp.IerWrite value) is raised =
    let refused = is_call_due Rda start before entry && is_refused_at_once entry.asked in
    let both = and_parts (has_bits value 0x02) (not refused) raised in
    inl (value, is, both.0, not_true refused both.1)
raised_by start before entry (DecodedOp.ThrWrite value) is raised = inr (value, is, raised)
raised_by start before entry _ is raised = absurd (false≢true raised)

either : (start : State) (earlier : Trace) (entry : TraceEntry) (now before raised : Bool)
    → is_raised Thre start earlier entry ≡ raised → IsTrue (not now || before || raised) → IsTrue now
    → IsTrue before ⊎ EnablesThre start earlier entry ⊎ SendsEnabled start earlier entry
either start earlier entry now true raised same all is = inl refl
either start earlier entry now false true same all is = inr (raised_by start earlier entry _ refl same)
either start earlier entry true false false same all is = absurd (false≢true all)
either start earlier entry false false false same all is = absurd (false≢true is)

abbrev pub asks_at : (driver : Driver) (start : State) (before earlier : Trace) (entry : TraceEntry) → Bool
asks_at driver start before earlier entry =
    not (has_to_send driver start (entry ∷ earlier ++ before)) || has_to_send driver start (earlier ++ before)
    || is_raised Thre start (earlier ++ before) entry

pub asks_by : (driver : Driver) (start : State) (before newest : Trace) → IsTrue (all_places (asks_at driver start before) newest)
    → AsksWhenGiven driver start before newest
asks_by driver start before newest all later earlier entry place has =
    either start (earlier ++ before) entry _ (has_to_send driver start (earlier ++ before)) _ refl
    (each_place (asks_at driver start before) newest all later earlier entry place) has

-- an entry that reads no IIR that shows nothing pending
abbrev pub shows_some : (start : State) (before earlier : Trace) (entry : TraceEntry) → Bool
shows_some start before earlier entry =
    not (is_iir_read (decode_at start (earlier ++ before) entry.op)) || is_pending Thre start (earlier ++ before)
    || is_pending Rda start (earlier ++ before)

shown : (kind : DecodedOp) (thre rda : Bool) → kind ≡ IirRead → thre ≡ false → rda ≡ false → IsTrue (not (is_iir_read kind) || thre || rda) → ⊥
shown kind thre rda reads no_thre no_rda some = grind arith

pub no_none_by : (start : State) (before newest : Trace) → IsTrue (all_places (shows_some start before) newest)
    → TimeoutAfterNone start before newest
no_none_by start before newest all after earlier entry place reads none =
    absurd (shown _ _ _ reads none.0 none.1 (each_place (shows_some start before) newest all after earlier entry place))

pub rule_by : (start : State) (before others : Trace) (read : TraceEntry) (asked : Asked) → IsTrue (all_places (shows_some start before) others)
    → TimeoutAfterNone start before (timeout_entry asked ∷ read ∷ others)
rule_by start before others read asked all [] earlier entry place reads none =
    let same : timeout_entry asked ≡ entry = cc in
    absurd (never (subst (λ (entry : TraceEntry). decode_at start (earlier ++ before) entry.op ≡ IirRead) (sym same) reads)) where
      never : DecodedOp.Timeout ≡ IirRead → ⊥
      never e = cc
rule_by start before others read asked all (x ∷ []) earlier entry place reads none = ([], asked, cc)
rule_by start before others read asked all (x ∷ y ∷ after) earlier entry place reads none =
    let rest : others ≡ after ++ entry ∷ earlier = cc in
    absurd (shown _ _ _ reads none.0 none.1 (each_place (shows_some start before) others all after earlier entry rest))

-- ---- calls

abbrev entry : (op : Op) (asked : Asked) (sent : Sent) → TraceEntry
entry op asked sent = record { op = op; asked = asked; sent = sent }

abbrev iir : TraceEntry
iir = entry (Read 2) Asked.Nothing Sent.Nothing

abbrev lsr : TraceEntry
lsr = entry (Read 5) Asked.Nothing Sent.Nothing

abbrev msr : TraceEntry
msr = entry (Read 6) Asked.Nothing Sent.Nothing

abbrev rbr : TraceEntry
rbr = entry (Read 0) Asked.Nothing Sent.Nothing

abbrev ier : (value : ℕ) (asked : Asked) → TraceEntry
ier value asked = entry (Write 1 value) asked Sent.Nothing

abbrev thr : (value : ℕ) (asked : Asked) → TraceEntry
thr value asked = entry (Write 0 value) asked Sent.Out

abbrev arrives : (value : ℕ) (asked : Asked) → TraceEntry
arrives value asked = entry (Enqueue (value ∷ [])) asked Sent.Nothing

-- ---- a handler of Linux's shape, in both directions, whose transmitter is stopped

-- between its first two passes it is given three bytes, and a pass sends at most two. Then a byte arrives, and flow
-- control stops the transmitter for as long as the trace has 15 to 22 calls
abbrev linux : Driver
linux = record {
  given_at = λ trace entry. if length trace == 7 then 0x41 ∷ 0x42 ∷ 0x43 ∷ [] else [];
  sends_own = λ trace entry. true;
  is_stopped = λ trace. nat_le 15 (length trace) && nat_le (length trace) 22;
}

abbrev opened : Trace
opened = arrives 0x61 Asked.Took ∷ ier 0x01 Asked.Nothing ∷ []

-- its third pass takes the byte that arrived, and sends none
abbrev last_pass : Trace
last_pass = msr ∷ lsr ∷ rbr ∷ lsr ∷ []

abbrev first_passes : Trace
first_passes =
    ier 0x01 Asked.Nothing ∷ arrives 0x62 Asked.Took ∷ thr 0x42 Asked.Nothing ∷ thr 0x41 Asked.Took ∷ msr ∷ lsr ∷ iir
    ∷ ier 0x03 Asked.Took ∷ msr ∷ lsr ∷ rbr ∷ lsr ∷ iir ∷ []

abbrev first_run : Trace
first_run = timeout_entry Asked.Nothing ∷ iir ∷ (last_pass ++ iir ∷ first_passes)

handler_stops : IsHandlerRun 256 linux fresh_state opened first_run
unfolding has_bits only_bits with_bits
handler_stops = record {
  ends = record {
    tail = timeout_entry Asked.Nothing ∷ [];
    none = iir;
    pass = last_pass;
    iir = iir;
    earlier = first_passes;
    place = refl;
    reads = refl;
    is_pass = record {
      unread = none_by fresh_state is_iir_read last_pass (iir ∷ first_passes ++ opened) refl;
      sends = inr ([], last_pass, refl, refl);
    };
    reads_none = refl;
    shows_none = (refl, refl);
    untouched =
        none_by fresh_state (λ kind. is_iir_read kind || is_rbr_read kind) (timeout_entry Asked.Nothing ∷ [])
        (iir ∷ (last_pass ++ (iir ∷ first_passes ++ opened))) refl;
  };
  asks = asks_by linux fresh_state opened first_run refl;
  some = omega arith;
  takes = inl (record {
    later = [];
    earlier = last_pass;
    place = refl;
    none = refl;
    unread = none_by fresh_state (λ kind. is_iir_read kind || is_rbr_read kind) [] (last_pass ++ (iir ∷ first_passes ++ opened)) refl;
  });
}

handler_timed : TimeoutAfterNone fresh_state opened first_run
unfolding has_bits only_bits with_bits
handler_timed = rule_by fresh_state opened (last_pass ++ iir ∷ first_passes) iir Asked.Nothing refl

-- one byte is left, but the driver has none to send as long as it is stopped
one_is_left : left linux fresh_state (first_run ++ opened) ≡ 0x43 ∷ []
unfolding has_bits
one_is_left = refl

-- then it may go on: it writes IER, and the next run sends the byte. Neither run is without a stop
abbrev second_run : Trace
second_run =
    timeout_entry Asked.Nothing ∷ iir ∷ msr ∷ lsr ∷ iir ∷ ier 0x01 Asked.Nothing ∷ thr 0x43 Asked.Took ∷ msr ∷ lsr ∷ iir
    ∷ ier 0x03 Asked.Took ∷ []

all_is_sent :
    let end = after_runs opened (first_run ∷ second_run ∷ []) in
    (sent linux fresh_state end ≡ 0x41 ∷ 0x42 ∷ 0x43 ∷ []) × SentInOrder linux fresh_state end
    × (free_runs linux opened (first_run ∷ second_run ∷ []) ≡ 0)
unfolding has_bits
all_is_sent = (refl, refl, refl)

-- ---- a driver that reads IIR once

abbrev plain : Driver
plain = record {
  given_at = λ trace entry. if length trace == 0 then 0x41 ∷ 0x42 ∷ [] else [];
  sends_own = λ trace entry. true;
  is_stopped = λ trace. false;
}

abbrev begun : Trace
begun = entry (Enqueue (0x61 ∷ 0x62 ∷ [])) Asked.Took Sent.Nothing ∷ ier 0x03 Asked.Took ∷ []

-- it takes a byte and sends one. In the next turn of the event loop a timeout asks for it again
abbrev plain_run : Trace
plain_run = timeout_entry Asked.Took ∷ thr 0x41 Asked.Took ∷ rbr ∷ iir ∷ []

reads_iir_once : IsDriverRun plain fresh_state begun plain_run
unfolding has_bits only_bits with_bits
reads_iir_once = record {
  takes = λ some. omega arith;
  ends = inr (record {
    pass = timeout_entry Asked.Took ∷ thr 0x41 Asked.Took ∷ rbr ∷ [];
    iir = iir;
    earlier = [];
    place = refl;
    reads = refl;
    is_pass = record {
      unread = none_by fresh_state is_iir_read (timeout_entry Asked.Took ∷ thr 0x41 Asked.Took ∷ rbr ∷ []) (iir ∷ begun) refl;
      sends = inl (record {
        later = timeout_entry Asked.Took ∷ [];
        entry = thr 0x41 Asked.Took;
        earlier = rbr ∷ [];
        value = 0x41;
        place = refl;
        writes = refl;
        own = refl;
        enabled = refl;
      });
    };
  });
  asks = asks_by plain fresh_state begun plain_run refl;
}

is_monitored_once : IsMonitored plain fresh_state begun plain_run
unfolding has_bits only_bits with_bits
is_monitored_once = record {
  after_none = no_none_by fresh_state begun plain_run refl;
  in_loop = inr (record {
    later = [];
    asked = Asked.Took;
    earlier = thr 0x41 Asked.Took ∷ rbr ∷ iir ∷ [];
    place = refl;
    unread = none_by fresh_state (λ kind. is_iir_read kind || is_rbr_read kind) [] (plain_run ++ begun) refl;
  });
}

-- it has a byte left in each direction, and both are asked for
is_asked_for_both : InterruptToReadLaw → InterruptToSendLaw → IsAskedFor Rda fresh_state begun plain_run × IsAskedFor Thre fresh_state begun plain_run
unfolding has_bits only_bits with_bits
is_asked_for_both takes sends = (
  takes plain fresh_state begun plain_run reads_iir_once is_monitored_once refl refl,
  sends plain fresh_state begun plain_run reads_iir_once refl,
)

-- ---- a driver that stalls

-- the driver ends its run with a read of IIR that shows THRE, and so acknowledges the condition that would call it
-- again. It has a byte left, nothing is pending, and neither a character timeout nor a retry asks for it. On a 16550A
-- it would stall, too
abbrev stalled : Trace
stalled = iir ∷ thr 0x41 Asked.Took ∷ iir ∷ ier 0x03 Asked.Took ∷ []

stalls :
    (guest_read fresh_state (thr 0x41 Asked.Took ∷ iir ∷ ier 0x03 Asked.Took ∷ []) 2 ≡ 0xC2)
    × (has_to_send plain fresh_state stalled ≡ true)
    × ShowsNone fresh_state (timeout_entry Asked.Nothing ∷ stalled)
    × (conditions_due_after fresh_state stalled ≡ [])
unfolding has_bits only_bits with_bits
stalls = (refl, refl, (refl, refl), refl)

-- ---- a trigger that refuses

-- it refuses the call for RDA of an IER write that enables both. THRE is not raised, and only a retry asks again: no
-- byte that arrives does, and no timeout
abbrev refused : Trace
refused = ier 0x03 Asked.Refused ∷ arrives 0x61 Asked.Nothing ∷ []

only_a_retry_asks :
    (is_pending Thre fresh_state refused ≡ false)
    × (trigger_calls fresh_state refused (timeout_entry Asked.Nothing) ≡ 0)
    × (trigger_calls fresh_state refused (arrives 0x62 Asked.Nothing) ≡ 0)
    × (conditions_due_after fresh_state refused ≡ Rda ∷ [])
unfolding has_bits only_bits with_bits
only_a_retry_asks = (refl, refl, refl, refl)
