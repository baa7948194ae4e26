-- SPDX-License-Identifier: Apache-2.0 OR BSD-3-Clause
-- Lemmas on the clock's history.
use Rattle.std.proofs.Common.{◌≡◌, ℕ, zero, suc, ◌+◌, ◌-◌, ◌/◌, ◌^◌, ◌<◌, Bool, true, false, ap, sym, ◌∙◌, arith, ◌%◌, ◌==◌, if◌then◌else◌, not, ◌&&◌, ◌||◌, nat_le, nat_lt, bit_and, bit_or, Option, Some, None, is_some, unwrap_or, List, [], ◌∷◌, ℤ, pos, ◌+ℤ◌, ◌-ℤ◌, refl}
use Rattle.std.specs.Int.{bit_at, w32, to_le_bytes, from_le_bytes}
use Rattle.std.specs.List.{list_any}
use Rattle.std.specs.Option.{option_or, option_map_or}
use Rattle.std.specs.Int.Bits.{and_zero_r, or_zero_r}
use Rattle.std.proofs.lemmas.Bool.Decides.{nat_tests}
use Rattle.std.proofs.lemmas.Grind.{common_steps}
use Rattle.std.proofs.lemmas.Int.{ints}
use Rattle.std.proofs.lemmas.Nat.{and_comm, from_le_bytes-to_le_bytes_4}
use Rattle.std.proofs.lemmas.Nat.Bits.{bit_at_or, bit_at_ones_above, bit_at-lt, bit_at-zero, shr_and_one}
use Rattle.superio_core.specs.declared.rtc_pl031.ClockRegister.{ClockRegister}
use Rattle.superio_core.specs.declared.rtc_pl031.ClockRegister.TheVariants.{Mr, Lr, Cr, Imsc, Icr}
use Rattle.superio_core.specs.Bits.{with_bits, without_bits}
use Rattle.superio_laws.specs.Rtc.{ClockIsHistory, ReadsByHistory, GoesOnByHistory, is_cleared, RaisesAt, RaisesNothingAt, AlarmDueByHistory, SetTimeLaw, GoesOnFrom, CounterLaw, SetClockLaw, GuestTimeLaw, may_set_time, KeepsTimeLaw}
use Rattle.superio_laws.specs.Rtc.{KeepsTimeInTraceLaw, TimeGoesOnLaw, RtcState, Access, read, write, clock_register_at, host_time, guest_time, clock_register_read, bytes_left, moment_of, fresh_clock, guest_time_in}
use Rattle.superio_laws.specs.Rtc.{after_alarm, after_write, clock_step, clock_response, state_after_accesses, is_alarm_reached, Setting, load, reset, setting_of, load_by, counter_by, newest_found, value_written}
use Rattle.superio_laws.specs.Rtc.{clock_of_history, clock_history_response, counter, cleared_bits, cleared_by, guest_time_at, match_value, match_written, is_alarm_set, guest_times_since_match, is_reached, is_armed, is_alarm_raised}
use Rattle.superio_core.proofs.Lemmas.{bit_at-without, without-twice, without-of-or, or-twice}

-- ---- the alarm at an access

-- the counter is the host's time and the offset together
pub counter-offset : (start : RtcState) (trace : List Access) (time : ℕ) → pos time +ℤ counter start trace 0 ≡ counter start trace time
counter-offset start trace time = grind (arith, ints)

-- so guest time is as the history says
pub guest_time-history : (start : RtcState) (trace : List Access) (time : ℕ) → guest_time_in (clock_of_history start trace) time ≡ guest_time (counter start trace time) time
guest_time-history start trace time = ap (λ counter. guest_time counter time) (counter-offset start trace time)

-- to set a bit that may be set is to set it
set-again : (kept : ℕ) (raised : Bool) → with_bits (with_bits kept (if raised then 1 else 0)) 1 ≡ with_bits kept 1
unfolding with_bits
set-again kept raised = grind (arith, or-twice, or_zero_r)

-- an alarm at an access: whether one was set, an earlier access reached it, and this one does
checked : (set before now raised : Bool) (lr : ℕ) (offset : ℤ) (mr imsc kept : ℕ) →
    let old : RtcState = record { lr = lr; offset = offset; mr = mr; imsc = imsc; ris = with_bits kept (if raised then 1 else 0); armed = set && not before } in
    (if (set && not before) && now then record old { ris = with_bits old.ris 1; armed = false } else old)
    ≡ record old { ris = with_bits kept (if ((set && not before) && now) || raised then 1 else 0); armed = set && not (now || before) }
checked set before now raised lr offset mr imsc kept = grind (arith, set-again)

-- a read continues the history: it may reach the alarm
read_goes_on : (start : RtcState) (trace : List Access) (offset now : ℕ) → after_alarm (clock_of_history start trace) (host_time now) ≡ clock_of_history start (read offset now ∷ trace)
read_goes_on start trace offset now =
    let h = clock_of_history start trace in
    ap (λ guest. if h.armed && nat_le h.mr guest then record h { ris = with_bits h.ris 1; armed = false } else h) (guest_time-history start trace (host_time now))
    ∙ checked (is_alarm_set start trace) (is_reached start trace) (nat_le h.mr (guest_time_at start trace (read offset now))) (is_alarm_raised start trace) h.lr h.offset h.mr h.imsc (without_bits start.ris (cleared_bits trace))

-- ---- what a write is to the history, by the register that it names

abbrev setting_by : ClockRegister → (value time : ℕ) → Option Setting
setting_by Lr value time = Some (load value time)
setting_by Cr value time = if value == 1 then Some reset else None
setting_by _ value time = None

abbrev match_by : ClockRegister → ℕ → Option ℕ
match_by Mr value = Some value
match_by _ value = None

abbrev mask_by : ClockRegister → ℕ → Option ℕ
mask_by Imsc value = Some value
mask_by _ value = None

abbrev clear_by : ClockRegister → ℕ → ℕ
clear_by Icr value = value
clear_by _ value = 0

record Means (access : Access) (register : ClockRegister) (value time : ℕ) : Type 0 where
  setting : setting_of access ≡ setting_by register value time
  matched : match_written access ≡ match_by register value
  masked : value_written 0x010 access ≡ mask_by register value
  cleared : cleared_by access ≡ clear_by register value

means : (offset value now : ℕ) (register : ClockRegister) → clock_register_at offset ≡ register → Means (write offset value now) register value (host_time now)
means offset value now register at = grind (arith, common_steps)

-- the history of a longer trace, by what its newest access is
abbrev longer : (start : RtcState) (trace : List Access) (setting : Option Setting) (matched masked : Option ℕ) (clears guest : ℕ) → RtcState
longer start trace setting matched masked clears guest = record {
  lr = load_by (option_or setting (newest_found setting_of trace)) start;
  offset = counter_by (option_or setting (newest_found setting_of trace)) start 0;
  mr = unwrap_or (option_or matched (newest_found match_written trace)) start.mr;
  imsc = option_map_or (λ value. value % 2) (option_or masked (newest_found (value_written 0x010) trace)) start.imsc;
  ris = with_bits (without_bits start.ris (bit_or clears (cleared_bits trace)))
      (if not (bit_at clears 0 == 1)
      && ((option_map_or (λ value. value == guest) matched false || (is_armed start trace && nat_le (match_value start trace) guest))
      || is_alarm_raised start trace) then 1 else 0);
  armed = option_map_or (λ value. nat_lt guest value) matched (is_alarm_set start trace)
      && not (list_any (λ guest. nat_le (unwrap_or (option_or matched (newest_found match_written trace)) start.mr) guest)
      (if is_some matched then [] else guest ∷ guest_times_since_match start trace));
}

-- ---- a write by the register that it names

-- no access reached an alarm that is set now
and-not-false : (set : Bool) → set ≡ (set && not false)
and-not-false set = grind arith

-- a match write of guest time raises, whether or not the interrupt is raised
raised-at-once : (at_once raised : Bool) (kept : ℕ) →
    (if at_once then with_bits (with_bits kept (if raised then 1 else 0)) 1 else with_bits kept (if raised then 1 else 0))
    ≡ with_bits kept (if at_once || raised then 1 else 0)
raised-at-once at_once raised kept = grind (arith, set-again)

or-assoc : (a b c : Bool) → a || (b || c) ≡ (a || b) || c
or-assoc a b c = grind arith

-- a raised interrupt is cleared by bit 0
left-by : (part bit : ℕ) → bit < 2 → part ≡ bit → 1 - part ≡ (if not (bit == 1) && true then 1 else 0)
left-by part bit small is = grind (arith, nat_tests)

none : (test : Bool) → ◌≡◌ {A = ℕ} 0 (if test && false then 1 else 0)
none test = grind arith

one-left : (value : ℕ) (raised : Bool) → without_bits (if raised then 1 else 0) value ≡ (if not (bit_at value 0 == 1) && raised then 1 else 0)
one-left value true =
    let whole : value / 2 ^ 0 ≡ value = omega arith in
    left-by (bit_and 1 value) (bit_at value 0) (bit_at-lt value 0)
    (and_comm 1 value ∙ ap (λ n. bit_and n 1) (sym whole) ∙ shr_and_one value 0)
one-left value false =
    let nothing : 0 - bit_and 0 value ≡ 0 = omega arith in
    nothing ∙ none (not (bit_at value 0 == 1))

cleared-raised : (number cleared value : ℕ) (raised : Bool) →
    without_bits (with_bits (without_bits number cleared) (if raised then 1 else 0)) value
    ≡ with_bits (without_bits number (bit_or value cleared)) (if not (bit_at value 0 == 1) && raised then 1 else 0)
unfolding with_bits
cleared-raised number cleared value raised =
    without-of-or (without_bits number cleared) (if raised then 1 else 0) value
    ∙ ap (λ kept. bit_or kept (without_bits (if raised then 1 else 0) value)) (without-twice number cleared value)
    ∙ ap (λ left. bit_or (without_bits number (bit_or value cleared)) left) (one-left value raised)

-- a control write resets or changes nothing
reset-or-not : (start : RtcState) (trace : List Access) (offset now : ℕ) (resets : Bool) →
    let found = clock_of_history start (read offset now ∷ trace) in
    (if resets then record found { lr = 0; offset = pos 0 } else found)
    ≡ longer start trace (if resets then Some reset else None) None None 0 (guest_time_at start trace (read offset now))
reset-or-not start trace offset now resets = grind arith

by_register : (start : RtcState) (trace : List Access) (offset value now : ℕ) (register : ClockRegister) →
    after_write (clock_of_history start (read offset now ∷ trace)) register value (host_time now)
    ≡ longer start trace (setting_by register value (host_time now)) (match_by register value) (mask_by register value) (clear_by register value)
    (guest_time_at start trace (write offset value now))
by_register start trace offset value now Mr =
    let found = clock_of_history start (read offset now ∷ trace) in
    let guest = guest_time_at start trace (write offset value now) in
    let reached = is_armed start trace && nat_le (match_value start trace) guest in
    ap (λ guest. record found { mr = value; ris = if value == guest then with_bits found.ris 1 else found.ris; armed = nat_lt guest value })
    (guest_time-history start (read offset now ∷ trace) (host_time now))
    ∙ ap (λ armed. record found { mr = value; ris = if value == guest then with_bits found.ris 1 else found.ris; armed = armed })
    (and-not-false (nat_lt guest value))
    ∙ ap (λ ris. record found { mr = value; ris = ris; armed = nat_lt guest value && not false })
    (raised-at-once (value == guest) (reached || is_alarm_raised start trace) (without_bits start.ris (cleared_bits trace))
    ∙ ap (λ (raised : Bool). with_bits (without_bits start.ris (cleared_bits trace)) (if raised then 1 else 0)) (or-assoc (value == guest) reached (is_alarm_raised start trace)))
by_register start trace offset value now Lr =
    let whole : value ≡ value + 0 = omega arith in
    ap (λ n. record (clock_of_history start (read offset now ∷ trace)) { lr = value; offset = pos n -ℤ pos (host_time now) }) whole
by_register start trace offset value now Cr = reset-or-not start trace offset now (value == 1)
by_register start trace offset value now Icr =
    let found = clock_of_history start (read offset now ∷ trace) in
    ap (λ ris. record found { ris = ris }) (cleared-raised start.ris (cleared_bits trace) value
    ((is_armed start trace && nat_le (match_value start trace) (guest_time_at start trace (write offset value now))) || is_alarm_raised start trace))
by_register start trace offset value now _ = refl

-- an access continues the history
pub goes_on : (start : RtcState) (trace : List Access) (access : Access) → clock_step (clock_of_history start trace) access ≡ clock_of_history start (access ∷ trace)
goes_on start trace (read offset now) = read_goes_on start trace offset now
goes_on start trace (write offset value now) =
    let is = means offset value now (clock_register_at offset) refl in
    let guest = guest_time_at start trace (write offset value now) in
    ap (λ found. after_write found (clock_register_at offset) value (host_time now)) (read_goes_on start trace offset now)
    ∙ by_register start trace offset value now (clock_register_at offset)
    ∙ sym (rw (is.setting, is.matched, is.masked, is.cleared) refl)

-- a step continues each history of the state before it
pub GoesOnByHistory-step : (access : Access) {old new : RtcState} → new ≡ clock_step old access → GoesOnByHistory old access new
GoesOnByHistory-step access is start trace same =
    is ∙ ap (λ state. clock_step state access) same ∙ goes_on start trace access

-- a read answers by the history
pub answers : (start : RtcState) (trace : List Access) (access : Access) → clock_response (clock_of_history start trace) access ≡ clock_history_response start trace access
answers start trace (read offset now) =
    ap (λ found. clock_register_read (clock_register_at offset) (guest_time_in found (host_time now)) found) (read_goes_on start trace offset now)
    ∙ ap (λ guest. clock_register_read (clock_register_at offset) guest (clock_of_history start (read offset now ∷ trace)))
    (guest_time-history start (read offset now ∷ trace) (host_time now))
answers start trace (write offset value now) = refl

-- a read that leaves the bytes of its response does so by each history
pub ReadsByHistory-read : (offset now : ℕ) (state : RtcState) (old new : List ℕ) → new ≡ bytes_left (clock_response state (read offset now)) old → ReadsByHistory state offset now old new
ReadsByHistory-read offset now state old new shown start trace same =
    shown ∙ ap (λ response. bytes_left response old) (ap (λ state. clock_response state (read offset now)) same ∙ answers start trace (read offset now))

-- the history of no access is the start
begins : (start : RtcState) → start ≡ clock_of_history start []
unfolding with_bits
begins start =
    let no_offset : start.offset ≡ pos 0 +ℤ start.offset = omega (arith, ints) in
    let none_cleared : start.ris ≡ bit_or (without_bits start.ris 0) 0 = omega (arith, and_zero_r start.ris, or_zero_r (without_bits start.ris 0)) in
    ap (λ offset. record start { offset = offset }) no_offset
    ∙ ap (λ ris. record start { offset = pos 0 +ℤ start.offset; ris = ris }) none_cleared
    ∙ ap (λ armed. record start { offset = pos 0 +ℤ start.offset; ris = bit_or (without_bits start.ris 0) 0; armed = armed })
    (and-not-false start.armed)

-- over any accesses the state is as the history says
pub states : (start : RtcState) (trace : List Access) → state_after_accesses start trace ≡ clock_of_history start trace
states start [] = begins start
states start (access ∷ trace) = ap (λ state. clock_step state access) (states start trace) ∙ goes_on start trace access

pub clock_is_history : ClockIsHistory
clock_is_history = record {
  response_follows = λ state access start trace same. ap (λ state. clock_response state access) same ∙ answers start trace access;
  state_follows = λ state access start trace same. ap (λ state. clock_step state access) same ∙ goes_on start trace access;
  all_responses = λ start trace access. ap (λ state. clock_response state access) (states start trace) ∙ answers start trace access;
  offset_is = counter-offset;
  all_states = states;
}

-- a bit is cleared if some access cleared it
bit_at-cleared : (trace : List Access) (bit : ℕ) → bit_at (cleared_bits trace) bit ≡ (if is_cleared trace bit then 1 else 0)
bit_at-cleared [] bit = bit_at-zero bit
bit_at-cleared (access ∷ trace) bit =
    let either = bit_at_or (cleared_by access) (cleared_bits trace) bit in
    let earlier = bit_at-cleared trace bit in
    let small = bit_at-lt (cleared_by access) bit in
    grind (arith, nat_tests)

-- the bit that the alarm raises
bit_at-raised : (raised : Bool) (bit : ℕ) → bit_at (if raised then 1 else 0) bit ≡ (if (bit == 0) && raised then 1 else 0)
bit_at-raised true zero = refl
bit_at-raised true (suc bit) =
    let apart : ◌≡◌ {A = ℕ} 0 (if (suc bit == 0) && true then 1 else 0) = grind (arith, nat_tests) in
    bit_at_ones_above 1 (suc bit) (omega arith) ∙ apart
bit_at-raised false bit = bit_at-zero bit ∙ none (bit == 0)

-- a raw bit is as at the start unless an access of the trace cleared it, or it is the alarm's
pub raw_bits : (start : RtcState) (trace : List Access) (bit : ℕ) → bit_at (clock_of_history start trace).ris bit
    ≡ (if (bit == 0) && is_alarm_raised start trace then 1 else (if is_cleared trace bit then 0 else bit_at start.ris bit))
unfolding with_bits
raw_bits start trace bit =
    let alarm = bit_at-raised (is_alarm_raised start trace) bit in
    let either = bit_at_or (without_bits start.ris (cleared_bits trace)) (if is_alarm_raised start trace then 1 else 0) bit in
    let left = bit_at-without start.ris (cleared_bits trace) bit in
    let gone = bit_at-cleared trace bit in
    let small = bit_at-lt start.ris bit in
    grind (arith, nat_tests)

-- ---- when the alarm is due, by the history

-- an alarm is reached at an access if the history says so
reached : (start : RtcState) (trace : List Access) (access : Access) → is_alarm_reached (clock_of_history start trace) (host_time (moment_of access)) ≡ (is_armed start trace && nat_le (match_value start trace) (guest_time_at start trace access))
reached start trace (read offset now) =
    ap (λ guest. is_armed start trace && nat_le (match_value start trace) guest) (guest_time-history start trace (host_time now))
reached start trace (write offset value now) =
    ap (λ guest. is_armed start trace && nat_le (match_value start trace) guest) (guest_time-history start trace (host_time now))

or-true : (first second : Bool) → second ≡ true → (first || second) ≡ true
or-true first second is = grind arith

raises : (start : RtcState) (trace : List Access) (moment : ℕ) → is_alarm_reached (clock_of_history start trace) (host_time moment) ≡ true → RaisesAt start trace moment
raises start trace moment is access at =
    or-true _ _ (sym (reached start trace access) ∙ ap (λ moment. is_alarm_reached (clock_of_history start trace) (host_time moment)) at ∙ is)

raises-nothing : (start : RtcState) (trace : List Access) (moment : ℕ) → is_alarm_reached (clock_of_history start trace) (host_time moment) ≡ false → RaisesNothingAt start trace moment
raises-nothing start trace moment is access at no_match =
    ap (λ written. option_map_or (λ value. value == guest_time_at start trace access) written false || (is_armed start trace && nat_le (match_value start trace) (guest_time_at start trace access))) no_match
    ∙ sym (reached start trace access) ∙ ap (λ moment. is_alarm_reached (clock_of_history start trace) (host_time moment)) at ∙ is

pub alarm_due_law : AlarmDueByHistory
alarm_due_law = record {
  raised = λ start trace now seconds due. raises start trace (now + seconds) due.reached;
  not_sooner = λ start trace now seconds due sooner less. raises-nothing start trace (now + sooner) (due.not_sooner sooner less);
  never = λ start trace now due later. raises-nothing start trace (now + later) (due later);
  waits = λ state now seconds due offset sooner less. ap (λ found. if found then record state { ris = with_bits state.ris 1; armed = false } else state) (due.not_sooner sooner less);
}

-- ---- a clock that was set goes on from there

-- a moment that 32 bits hold is the host's time
pub host_time-small : (now : ℕ) → now < 2 ^ 32 → host_time now ≡ now
host_time-small now fits = grind (arith, common_steps)

-- so is a counter the guest's
pub guest_time-small : (value : ℕ) → value < 2 ^ 32 → (time : ℕ) → guest_time (pos value) time ≡ value
guest_time-small value fits time = grind (arith, common_steps)

pub counter-later : (value now seconds : ℕ) → pos (now + seconds) +ℤ (pos value -ℤ pos now) ≡ pos (value + seconds)
counter-later value now seconds = omega (arith, ints)

-- an alarm that is reached changes no offset
pub offset-if : (reached : Bool) (raised state : RtcState) → raised.offset ≡ state.offset → (if reached then raised else state).offset ≡ state.offset
offset-if reached raised state same = grind arith

-- what the clock shows, by its offset
pub shown-by-offset : (after : RtcState) (value now seconds : ℕ) → after.offset ≡ pos value -ℤ pos now
    → now + seconds < 2 ^ 32 → value + seconds < 2 ^ 32
    → guest_time_in (after_alarm after (host_time (now + seconds))) (host_time (now + seconds)) ≡ value + seconds
shown-by-offset after value now seconds set moment fits =
    let time = host_time (now + seconds) in
    let is_time : time ≡ now + seconds = host_time-small (now + seconds) moment in
    let offset : (after_alarm after time).offset ≡ pos value -ℤ pos now =
    offset-if (is_alarm_reached after time) _ after refl ∙ set in
    ap (λ offset. guest_time (pos time +ℤ offset) time) offset
    ∙ ap (λ n. guest_time (pos n +ℤ (pos value -ℤ pos now)) time) is_time
    ∙ ap (λ n. guest_time n time) (counter-later value now seconds)
    ∙ guest_time-small (value + seconds) fits time

pub set_time_law : SetTimeLaw
set_time_law before after value now seconds bytes shown are made seen moment fits =
    let is_value : from_le_bytes w32 bytes ≡ value =
    ap (from_le_bytes w32) are ∙ from_le_bytes-to_le_bytes_4 value (omega (arith, fits)) in
    let set : after.offset ≡ pos value -ℤ pos now =
    ap (λ (s : RtcState). s.offset) made ∙ ap (λ n. pos n -ℤ pos (host_time now)) is_value
    ∙ ap (λ n. pos value -ℤ pos n) (host_time-small now (omega (arith, moment))) in
    seen ∙ ap (λ n. to_le_bytes w32 n) (shown-by-offset after value now seconds set moment fits)

-- ---- guest time from one moment to another

pub counter_law : CounterLaw
counter_law state value now counts seconds moment fits =
    let count : pos (now + seconds) +ℤ state.offset ≡ pos (value + seconds) = omega (arith, ints, counts) in
    ap (λ time. guest_time_in state time) (host_time-small (now + seconds) moment)
    ∙ ap (λ counter. guest_time counter (now + seconds)) count
    ∙ guest_time-small (value + seconds) fits (now + seconds)

pub set_clock_law : SetClockLaw
set_clock_law state value now seconds moment fits =
    let after : RtcState = clock_step state (write 0x008 value now) in
    let set : after.offset ≡ pos value -ℤ pos now =
    ap (λ n. pos value -ℤ pos n) (host_time-small now (omega (arith, moment))) in
    counter_law after value now (omega (arith, ints, set)) seconds moment fits

pub guest_time_law : GuestTimeLaw
guest_time_law state now =
    let time = host_time now in
    ap (λ offset. Some (guest_time (pos time +ℤ offset) time)) (offset-if (is_alarm_reached state time) _ state refl)

-- the registers that set guest time
abbrev is_setting : ClockRegister → Bool
is_setting Lr = true
is_setting Cr = true
is_setting _ = false

setting_at : (offset : ℕ) → ((offset == 0x008) || (offset == 0x00C)) ≡ false → is_setting (clock_register_at offset) ≡ false
setting_at offset other = grind (arith, common_steps)

kept_by_register : (register : ClockRegister) (state : RtcState) (value time : ℕ) → is_setting register ≡ false
    → (after_write state register value time).offset ≡ state.offset
kept_by_register register state value time other = grind arith

pub keeps_time_law : KeepsTimeLaw
keeps_time_law state (read offset now) other = offset-if (is_alarm_reached state (host_time now)) _ state refl
keeps_time_law state (write offset value now) other =
    kept_by_register (clock_register_at offset) (after_alarm state (host_time now)) value (host_time now) (setting_at offset other)
    ∙ offset-if (is_alarm_reached state (host_time now)) _ state refl

pub neither : (one others : Bool) → (one || others) ≡ false → (one ≡ false) × (others ≡ false)
neither one others none = (grind arith, grind arith)

pub keeps_time_in_trace_law : KeepsTimeInTraceLaw
keeps_time_in_trace_law state [] none = refl
keeps_time_in_trace_law state (access ∷ trace) none =
    let both = neither (may_set_time access) (list_any may_set_time trace) none in
    keeps_time_law (state_after_accesses state trace) access both.0 ∙ keeps_time_in_trace_law state trace both.1

pub time_goes_on_law : TimeGoesOnLaw
time_goes_on_law state after value now kept goes =
    let on : GoesOnFrom after value now =
    λ seconds moment fits.
    let time = host_time (now + seconds) in ap (λ offset. guest_time (pos time +ℤ offset) time) kept ∙ goes seconds moment fits in
    record {
      goes_on = on;
      not_back = λ earlier later order moment fits.
          omega (arith, goes earlier (omega (arith, order, moment)) (omega (arith, order, fits)), on later moment fits, order);
    }

-- ---- a fresh clock is that of no access

pub fresh_clock-history : fresh_clock ≡ clock_of_history fresh_clock []
unfolding with_bits
fresh_clock-history = refl
