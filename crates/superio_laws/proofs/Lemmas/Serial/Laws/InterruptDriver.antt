-- SPDX-License-Identifier: Apache-2.0 OR BSD-3-Clause
-- A character timeout raises RDA while bytes are held.
use Rattle.std.proofs.Common.{◌≡◌, ◌+◌, false, ◌&&◌, ◌||◌, ◌∷◌, ◌++◌, refl, ap, ◌∙◌, subst, arith, ℕ, zero, suc, ◌≤◌, ◌<◌, List, [], length, sym, append_assoc, append-nil, length-append, not, IsTrue, take, drop}
use Rattle.std.proofs.lemmas.Bool.{and_parts, eqb-true}
use Rattle.std.specs.Cmp.Derive.{both_true}
use Rattle.std.proofs.lemmas.List.{take-append-drop, take-append-le}
use Rattle.std.proofs.Math.Seq.{take-append_seam}
use Rattle.superio_laws.specs.Serial.{Rda, Thre, State, not_empty, CharacterTimeout, TraceEntry, Trace, is_refused_at_once, answer_count, count_if, Timeout, DecodedOp, IirRead}
use Rattle.superio_laws.specs.Serial.History.{decode_at, ier_after, held_bytes, accepted_bytes, read_out_bytes, acknowledges, raises_rda, raises_thre, rda_raised, rda_pending, is_raised, is_pending, is_call_due, trigger_calls, is_fitting_entry, is_fitting, has_waiting_bytes}
use Rattle.superio_laws.specs.Serial.Laws.Line.{timeout_entry, NoByteWaitsLaw, TimeoutCallsLaw, RdaFollowsTimeoutsLaw, InterruptAfterRunLaw, AreSimpleRuns, ReadOutAfterRunsLaw}
use Rattle.superio_laws.proofs.Lemmas.Serial.Laws.Consequences.{nowhere, waiting_bytes_law}
use Rattle.superio_laws.proofs.Lemmas.Serial.Laws.{read_out_then_held}

pub no_byte_waits_law : NoByteWaitsLaw
no_byte_waits_law start trace asked some enabled =
    let trace = timeout_entry asked ∷ trace in
    waiting_bytes_law start trace [] _ (timeout_entry asked) refl refl (nowhere start (acknowledges Rda) trace) some enabled

pub timeout_calls_law : TimeoutCallsLaw
timeout_calls_law start trace asked some enabled idle = both_true (both_true enabled some) (ap not idle)

-- ---- at every timeout of a trace

-- each entry of a fitting trace is fitting at its point
entry_within : (start : State) (after before : Trace) (entry : TraceEntry)
    → IsTrue (is_fitting start (after ++ entry ∷ before)) → IsTrue (is_fitting_entry start before entry)
entry_within start [] before entry all = (and_parts _ _ all).0
entry_within start (newest ∷ after) before entry all = entry_within start after before entry (and_parts _ _ all).1

timeout_shows : (start : State) (before : Trace) (entry : TraceEntry) → entry.op ≡ CharacterTimeout
    → IsTrue (is_fitting_entry start before entry)
    → (IsTrue (has_waiting_bytes start before) → IsTrue (is_pending Rda start (entry ∷ before)))
    × (answer_count entry.asked ≡ count_if (has_waiting_bytes start before && not (is_pending Rda start before)))
timeout_shows start before entry is_timeout fitting =
    let kind : decode_at start before entry.op ≡ Timeout = ap (λ op. decode_at start before op) is_timeout in
    let held = held_bytes start before in
    let enable = ier_after start before in
    let rda : is_raised Rda start before entry ≡ has_waiting_bytes start before = ap (λ k. raises_rda k held enable) kind in
    let refused = rda_raised start before entry && not (rda_pending start before) && is_refused_at_once entry.asked in
    let thre : is_raised Thre start before entry ≡ false = ap (λ k. raises_thre k enable refused) kind in
    let earlier = not (acknowledges Rda (decode_at start before entry.op)) && is_pending Rda start before in
    let asked = eqb-true _ _ (and_parts _ _ fitting).0 in
    let calls : trigger_calls start before entry
    ≡ count_if (has_waiting_bytes start before && not (is_pending Rda start before)) + 0 =
    ap (λ raised. count_if (raised && not (is_pending Rda start before)) + count_if (is_call_due Thre start before entry)) rda
    ∙ ap (λ raised. count_if (has_waiting_bytes start before && not (is_pending Rda start before))
    + count_if (raised && not (is_pending Thre start before))) thre in (
      (λ waiting. ap (λ raised. raised || earlier) (rda ∙ waiting)),
      asked ∙ calls ∙ omega arith,
    )

pub timeouts_show_law : RdaFollowsTimeoutsLaw
timeouts_show_law start trace fitting after before entry at is_timeout =
    timeout_shows start before entry is_timeout
    (entry_within start after before entry (subst (λ trace. IsTrue (is_fitting start trace)) at fitting))

pub ruleset no_byte_waits_laws = (no_byte_waits_law, timeout_calls_law)

-- ---- a driver that ends each run with a read of IIR takes all bytes

-- an IIR read leaves RDA not pending
pub idle : (start : State) (last : TraceEntry) (trace : Trace) → decode_at start trace last.op ≡ IirRead
    → is_pending Rda start (last ∷ trace) ≡ false
idle start last trace reads =
    ap (λ (kind : DecodedOp). raises_rda kind (held_bytes start trace) (ier_after start trace)
    || (not (acknowledges Rda kind) && is_pending Rda start trace)) reads

pub owed_after_run_law : InterruptAfterRunLaw
owed_after_run_law start before run asked is some enabled =
    timeout_calls_law start (run ++ before) asked some enabled
    (ap (λ (run : Trace). is_pending Rda start (run ++ before)) is.ends ∙ idle start is.last (is.earlier ++ before) is.reads_iir)

-- ---- later entries only add to the bytes taken and accepted

abbrev pub Begins : (bytes all : List ℕ) → Type 0
Begins bytes all = (more : List ℕ) × (all ≡ bytes ++ more)

pub begins_then : (bytes middle all : List ℕ) → Begins bytes middle → Begins middle all → Begins bytes all
begins_then bytes middle all (one, first) (two, second) =
    (one ++ two, second ∙ ap (λ list. list ++ two) first ∙ append_assoc bytes one two)

pub taken_grows : (start : State) (run before : Trace) → Begins (read_out_bytes start before) (read_out_bytes start (run ++ before))
taken_grows start [] before = ([], sym (append-nil _))
taken_grows start (entry ∷ run) before =
    begins_then (read_out_bytes start before) (read_out_bytes start (run ++ before)) (read_out_bytes start (entry ∷ run ++ before)) (taken_grows start run before) (_, refl)

pub accepted_grows : (start : State) (run before : Trace) → Begins (accepted_bytes start before) (accepted_bytes start (run ++ before))
accepted_grows start [] before = ([], sym (append-nil _))
accepted_grows start (entry ∷ run) before =
    begins_then (accepted_bytes start before) (accepted_bytes start (run ++ before)) (accepted_bytes start (entry ∷ run ++ before)) (accepted_grows start run before) (_, refl)

-- ---- how many bytes are taken

-- all bytes: the bytes at the start, followed by those accepted
abbrev pub all_bytes : (start : State) (trace : Trace) → List ℕ
all_bytes start trace = start.in_buffer ++ accepted_bytes start trace

pub some_held : (held : List ℕ) → 0 < length held → IsTrue (not_empty held)
some_held held none = grind arith

pub longer : (bytes all : List ℕ) → Begins bytes all → length bytes ≤ length all
longer bytes all (more, is) = omega (arith, ap length is, length-append bytes more)

pub all_grow : (start : State) (run before : Trace) → length (all_bytes start before) ≤ length (all_bytes start (run ++ before))
all_grow start run before =
    omega (
      arith,
      longer (accepted_bytes start before) (accepted_bytes start (run ++ before)) (accepted_grows start run before),
      length-append start.in_buffer (accepted_bytes start before),
      length-append start.in_buffer (accepted_bytes start (run ++ before)),
    )

pub counted : (start : State) (trace : Trace)
    → length (read_out_bytes start trace) + length (held_bytes start trace) ≡ length (all_bytes start trace)
counted start trace = sym (length-append (read_out_bytes start trace) (held_bytes start trace)) ∙ ap length (read_out_then_held start trace)

-- one run more: it takes a byte, if one is held
pub enough_next : (most taken held all runs taken_next : ℕ) → taken + held ≡ all → taken ≤ taken_next → (0 < held → taken < taken_next)
    → most ≤ all → most ≤ taken + suc runs → most ≤ taken_next + runs
enough_next most taken zero all runs taken_next count grows takes few enough = omega (arith, count, grows, few)
enough_next most taken (suc held) all runs taken_next count grows takes few enough = omega (arith, takes (omega arith), enough)

-- if `most` bytes are to be taken in all, and the runs are enough for them
after_runs : (start : State) (most runs : ℕ) (before after : Trace) → AreSimpleRuns start runs before after
    → most ≤ length (all_bytes start before) → most ≤ length (read_out_bytes start before) + runs
    → most ≤ length (read_out_bytes start after)
after_runs start most zero before after same few enough =
    omega (arith, enough, ap (λ (trace : Trace). length (read_out_bytes start trace)) same)
after_runs start most (suc runs) before after (run, asked, is, later) few enough =
    let next = timeout_entry asked ∷ run ++ before in
    let grown = longer (read_out_bytes start before) (read_out_bytes start next) (taken_grows start (timeout_entry asked ∷ run) before) in
    let timeout = longer (read_out_bytes start (run ++ before)) (read_out_bytes start next) (taken_grows start (timeout_entry asked ∷ []) (run ++ before)) in
    after_runs start most runs next after later
    (omega (arith, few, all_grow start (timeout_entry asked ∷ run) before))
    (enough_next most (length (read_out_bytes start before)) (length (held_bytes start before)) (length (all_bytes start before)) runs (length (read_out_bytes start next))
    (counted start before) grown (λ some. omega (arith, timeout, is.takes (some_held (held_bytes start before) some))) few enough)

extended : (start : State) (runs : ℕ) (before after : Trace) → AreSimpleRuns start runs before after
    → (later : Trace) × (after ≡ later ++ before)
extended start zero before after same = ([], same)
extended start (suc runs) before after (run, asked, is, rest) =
    let (later, whole) = extended start runs (timeout_entry asked ∷ run ++ before) after rest in
    (later ++ timeout_entry asked ∷ run, whole ∙ sym (append_assoc later (timeout_entry asked ∷ run) before))

-- a list that begins with the second and is as long as the first begins with the first if both begin a third
pub begins_first : (first second third : List ℕ) → Begins first third → Begins second third → length first ≤ length second → Begins first second
begins_first first second third (more, one) (rest, two) few =
    let n = length first in (
      drop n second,
      sym (take-append-drop n second) ∙ ap (λ bytes. bytes ++ drop n second)
          (sym (take-append-le n second rest few) ∙ ap (take n) (sym two ∙ one) ∙ take-append_seam first more),
    )

pub taken_after_runs_law : ReadOutAfterRunsLaw
taken_after_runs_law start runs before after all few =
    let (later, whole) = extended start runs before after all in
    let enough = after_runs start (length (all_bytes start before)) runs before after all (omega arith) (omega (arith, counted start before, few)) in
    let (accepted, grown) = accepted_grows start later before in
    let (more, is) = begins_first (all_bytes start before) (read_out_bytes start after) (all_bytes start after) (
      accepted,
      ap (λ (trace : Trace). all_bytes start trace) whole ∙ ap (λ bytes. start.in_buffer ++ bytes) grown
          ∙ sym (append_assoc start.in_buffer (accepted_bytes start before) accepted),
    )
    (held_bytes start after, sym (read_out_then_held start after)) enough in
    (more, is ∙ ap (λ bytes. bytes ++ more) (sym (read_out_then_held start before)))

pub ruleset interrupt_driver_laws = (owed_after_run_law, taken_after_runs_law)
