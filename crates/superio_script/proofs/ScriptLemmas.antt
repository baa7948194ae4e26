-- SPDX-License-Identifier: Apache-2.0 OR BSD-3-Clause
-- A board between two lines; what the lines so far add to what was written, whatever is still to come; and what was
-- written when a run ends.
use Rattle.std.proofs.Common.{arith, ◌≡◌, ℕ, ◌+◌, ◌≤◌, List, [], ◌∷◌, ◌++◌, length, Bool, Option, Some, None, refl, ap, sym, ◌∙◌, subst, append_assoc, append-nil, length-append, IsTrue, Result, Ok, Err, IfOk, OnErr, IsSomeAnd, is_some, if◌then◌else◌, nat_le, codes}
use Rattle.std.specs.Cmp.Derive.{both_true}
use Rattle.std.proofs.lemmas.Bool.{and_parts}
use Rattle.std.proofs.lemmas.Bool.Decides.{nat_tests}
use Rattle.std.proofs.lemmas.List.Folds.{list_all-append}
use Rattle.std.specs.Io.KnownBytes.{Appends, Keeps}
use Rattle.std.specs.List.{list_all}
use Rattle.vm_superio.specs.Rtc.{ClockDevice}
use Rattle.superio_laws.specs.Rtc.{Access}
use Rattle.vm_superio.specs.Serial.{SerialView, Trace}
use Rattle.vm_superio.proofs.Lemmas.{Appends-nothing, Appends-append}
use Rattle.superio_laws.proofs.Lemmas.Rtc.{fresh_clock-history}
use Rattle.board_objects.specs.declared.Line.{Line}
use Rattle.board_objects.specs.declared.Counts.{Counts}
use Rattle.board_objects.specs.declared.Output.{Output}
use Rattle.superio_script.specs.SerialScript.{SerialCommand, Outcome, outcomes_of, all_short, trace_after_line, prints_after_loss, IsAfter, IsSerialLineStep}
use Rattle.superio_script.specs.Devices.{ClockCommand, clock_after, access_of_line, clock_replies, IsClockLineStep, controller_replies, Command, Serial, Clock, Controller, command_of, Devices, IsBetweenLines, IsFresh, IsLineStep, serial_lines, clock_lines, controller_lines, replies_in_order, text_from}
use Rattle.superio_script.specs.Script.{has_syntax, until_bad, good_commands, first_bad_line, script_text, PrintsLines, StopsWithoutMemory}
use Rattle.superio_script.proofs.SerialScriptLemmas.{outcomes_taken, printed_taken, first-replies, outcomes-after_line}

-- ---- a board between two lines

pub IsBetweenLines-at_start : {mask : ℕ} {board : Devices} → IsFresh mask board → IsBetweenLines board.serial board.clock board.controller
IsBetweenLines-at_start {mask} fresh = record {
  mask = mask;
  trace = [];
  serial = fresh.serial;
  accesses = [];
  clock = ap (λ (clock : ClockDevice Counts). clock.state) fresh.clock ∙ fresh_clock-history;
  controller = fresh.controller;
}

-- a line of the serial port leads from its trace to another, unless it fails
pub IsBetweenLines-after_serial_line :
    {Reply Fault : Type 0} (items : Reply → List ℕ) (line : SerialCommand) (result : Result Reply Fault) {old new : SerialView Line Counts Output} {rtc : ClockDevice Counts} {reset_line : Line}
    → IfOk result (λ reply. IsSerialLineStep line (items reply) old new) → OnErr result (new ≡ old) → IsBetweenLines old rtc reset_line → IsBetweenLines new rtc reset_line
IsBetweenLines-after_serial_line items line (Ok reply) step unchanged before =
    let taken = step before.mask before.trace before.serial in record {
      mask = before.mask;
      trace = trace_after_line before.mask before.trace taken.outcome line;
      serial = taken.after;
      accesses = before.accesses;
      clock = before.clock;
      controller = before.controller;
    }
IsBetweenLines-after_serial_line items line (Err fault) {rtc = rtc} {reset_line = reset_line} step unchanged before =
    subst (λ (port : SerialView Line Counts Output). IsBetweenLines port rtc reset_line) (sym unchanged) before

-- a line of the clock adds its access
pub IsBetweenLines-after_clock_line :
    (line : ClockCommand) (reply : List ℕ) {old new : ClockDevice Counts} {port : SerialView Line Counts Output} {reset_line : Line}
    → IsClockLineStep line reply old.state new.state → IsBetweenLines port old reset_line → IsBetweenLines port new reset_line
IsBetweenLines-after_clock_line line reply step before = record {
  mask = before.mask;
  trace = before.trace;
  serial = before.serial;
  accesses = access_of_line line ∷ before.accesses;
  clock = (step before.accesses before.clock).1;
  controller = before.controller;
}

pub ruleset between_lines = (IsBetweenLines-after_clock_line)

-- ---- a line of the board

-- a good line leads from this trace and these accesses to others, which led to the devices. It takes these outcomes and
-- printed bytes, and the text is its reply and then the text of the lines that follow it
pub record Leads (mask : ℕ) (trace : Trace) (accesses : List Access) (line reply : List ℕ) (new : Devices) : Type 0 where
  pub next : Trace
  pub next_accesses : List Access
  pub serial : IsAfter mask next new.serial
  pub clock : new.clock.state ≡ clock_after next_accesses
  pub good : IsTrue (has_syntax line)
  pub outcomes : List Outcome
  pub added : outcomes_of next ≡ outcomes_of trace ++ outcomes
  pub printed : List (List ℕ)
  pub short : IsTrue (all_short printed)
  pub text : (lines : List (List ℕ)) (more : List Outcome) (more_printed : List (List ℕ))
      → text_from mask trace accesses (good_commands (line ∷ lines)) (outcomes ++ more) (printed ++ more_printed)
      ≡ reply ++ text_from mask next next_accesses (good_commands lines) more more_printed

taken-short : (takes : Bool) (bytes : List ℕ) → length bytes ≤ 256 → IsTrue (all_short (if takes then bytes ∷ [] else []))
taken-short takes bytes few = grind (arith, nat_tests)

module _ (mask : ℕ) (trace : Trace) (accesses : List Access) (line reply : List ℕ) (old new : Devices)
    (at : IsAfter mask trace old.serial) (clock_at : old.clock.state ≡ clock_after accesses) where
  -- the text if the line asks for this command
  abbrev text_with : (command : Option Command) (lines : List (List ℕ)) (outcomes : List Outcome) (printed : List (List ℕ)) → List ℕ
  text_with command lines outcomes printed = text_from mask trace accesses (until_bad command (good_commands lines)) outcomes printed

  line-leads : (command : Option Command) → command_of line ≡ command → IsSomeAnd command (λ command. IsLineStep command reply old new)
      → Leads mask trace accesses line reply new
  line-leads None is step = absurd step
  line-leads (Some (Serial serial)) is (step, same_clock, same_controller) =
      let taken = step mask trace at in
      let outcomes = outcomes_taken trace serial taken.outcome in
      let printed = printed_taken trace serial taken.printed in
      let next = trace_after_line mask trace taken.outcome serial in
      record {
        next = next;
        next_accesses = accesses;
        serial = taken.after;
        clock = ap (λ (clock : ClockDevice Counts). clock.state) same_clock ∙ clock_at;
        good = ap (λ (command : Option Command). is_some command) is;
        outcomes = outcomes;
        added = outcomes-after_line mask trace taken.outcome serial;
        printed = printed;
        short = taken-short (prints_after_loss trace serial) taken.printed taken.short;
        text = λ lines more more_printed.
            let commands = good_commands lines in
            ap (λ command. text_with command lines (outcomes ++ more) (printed ++ more_printed)) is
            ∙ ap (λ replies. replies_in_order (Serial serial ∷ commands) replies (clock_replies accesses (clock_lines commands)) (controller_replies (controller_lines commands)))
            (first-replies mask trace taken.outcome taken.printed (serial_lines commands) more more_printed serial)
            ∙ ap (λ reply. reply ++ text_from mask next accesses commands more more_printed) (sym taken.replied);
      }
  line-leads (Some (Clock clock)) is (step, same_serial, same_controller) =
      let (replied, after) = step accesses clock_at in
      record {
        next = trace;
        next_accesses = access_of_line clock ∷ accesses;
        serial = subst (λ (port : SerialView Line Counts Output). IsAfter mask trace port) (sym same_serial) at;
        clock = after;
        good = ap (λ (command : Option Command). is_some command) is;
        outcomes = [];
        added = sym (append-nil (outcomes_of trace));
        printed = [];
        short = refl;
        text = λ lines more more_printed.
            ap (λ command. text_with command lines more more_printed) is
            ∙ ap (λ reply. reply ++ text_from mask trace (access_of_line clock ∷ accesses) (good_commands lines) more more_printed) (sym replied);
      }
  line-leads (Some (Controller controller)) is (replied, same_board) = record {
    next = trace;
    next_accesses = accesses;
    serial = subst (λ (board : Devices). IsAfter mask trace board.serial) (sym same_board) at;
    clock = ap (λ (board : Devices). board.clock.state) same_board ∙ clock_at;
    good = ap (λ (command : Option Command). is_some command) is;
    outcomes = [];
    added = sym (append-nil (outcomes_of trace));
    printed = [];
    short = refl;
    text = λ lines more more_printed.
        ap (λ command. text_with command lines more more_printed) is
        ∙ ap (λ reply. reply ++ text_from mask trace accesses (good_commands lines) more more_printed) (sym replied);
  }

-- ---- the lines that were carried out

-- these first ones of all lines are good, led to this board, and their text was written. They took these outcomes and
-- printed bytes. Whatever follows, this text and then the text of what follows is the whole text
pub record HasCarriedOut (mask : ℕ) (start : Option (List ℕ)) (all rest : List (List ℕ)) (before : Option (List ℕ)) (board : Devices) : Type 0 where
  pub earlier : List (List ℕ)
  pub split : all ≡ earlier ++ rest
  pub all_good : IsTrue (list_all has_syntax earlier)
  pub first_bad : (number : ℕ) (lines : List (List ℕ)) → first_bad_line number (earlier ++ lines) ≡ first_bad_line (number + length earlier) lines
  pub trace : Trace
  pub accesses : List Access
  pub serial : IsAfter mask trace board.serial
  pub clock : board.clock.state ≡ clock_after accesses
  pub printed : List (List ℕ)
  pub short : IsTrue (all_short printed)
  pub so_far : List ℕ
  pub written : Appends start before so_far
  pub text : (lines : List (List ℕ)) (more : List Outcome) (more_printed : List (List ℕ))
      → script_text mask (earlier ++ lines) (outcomes_of trace ++ more) (printed ++ more_printed)
      ≡ so_far ++ text_from mask trace accesses (good_commands lines) more more_printed

abbrev pub HasCarriedOut-at_start : {mask : ℕ} (start : Option (List ℕ)) (all : List (List ℕ)) {board : Devices} → IsFresh mask board → HasCarriedOut mask start all all start board
HasCarriedOut-at_start {mask} start all fresh = record {
  earlier = [];
  split = refl;
  all_good = refl;
  first_bad = λ number lines. ap (λ number. first_bad_line number lines) (omega arith);
  trace = [];
  accesses = [];
  serial = fresh.serial;
  clock = ap (λ (clock : ClockDevice Counts). clock.state) fresh.clock ∙ fresh_clock-history;
  printed = [];
  short = refl;
  so_far = [];
  written = Appends-nothing start;
  text = λ lines more more_printed. refl;
}

pub all_good-append : (earlier : List (List ℕ)) (line : List ℕ) → IsTrue (list_all has_syntax earlier) → IsTrue (has_syntax line) →
    IsTrue (list_all has_syntax (earlier ++ line ∷ []))
all_good-append [] line good one = both_true one refl
all_good-append (first ∷ earlier) line good one =
    let parts = and_parts (has_syntax first) (list_all has_syntax earlier) good in
    both_true parts.0 (all_good-append earlier line parts.1 one)

module _ {mask : ℕ} {start before : Option (List ℕ)} {all rest : List (List ℕ)} {board : Devices} (carried : HasCarriedOut mask start all rest before board) where
  -- what was written is the text of these lines and of others, if no good one is among the others
  prints : (lines others : List (List ℕ)) → lines ≡ carried.earlier ++ others → good_commands others ≡ [] → PrintsLines mask lines start before
  prints lines others split none =
      let outcomes = outcomes_of carried.trace in
      record {
        outcomes = outcomes;
        within_room = carried.serial.within_room;
        printed = carried.printed;
        short = carried.short;
        written = subst (Appends start before) (sym (
            ap (λ lines. script_text mask lines outcomes carried.printed) split
            ∙ ap (λ outcomes. script_text mask (carried.earlier ++ others) outcomes carried.printed) (sym (append-nil outcomes))
            ∙ ap (script_text mask (carried.earlier ++ others) (outcomes ++ [])) (sym (append-nil carried.printed))
            ∙ carried.text others [] []
            ∙ ap (λ commands. carried.so_far ++ text_from mask carried.trace carried.accesses commands [] []) none
            ∙ append-nil carried.so_far
            )) carried.written;
      }

  pub Prints-so_far : good_commands rest ≡ [] → PrintsLines mask all start before
  Prints-so_far none = prints all rest carried.split none

  pub none-bad : (number : ℕ) → rest ≡ [] → first_bad_line number all ≡ None
  none-bad number done =
      ap (first_bad_line number) carried.split ∙ carried.first_bad number rest ∙ ap (first_bad_line (number + length carried.earlier)) done

  module _ {line : List ℕ} {more : List (List ℕ)} (next : rest ≡ line ∷ more) where
    pub split-here : all ≡ carried.earlier ++ line ∷ more
    split-here = carried.split ∙ ap (λ lines. carried.earlier ++ lines) next

    module _ (reply : List ℕ) (new : Devices) (step : IsSomeAnd (command_of line) (λ command. IsLineStep command reply board new)) where
      pub leads-here : Leads mask carried.trace carried.accesses line reply new
      leads-here = line-leads mask carried.trace carried.accesses line reply board new carried.serial carried.clock (command_of line) refl step

      -- the text so far, then the reply, and then what follows
      pub text-after : (lines : List (List ℕ)) (more : List Outcome) (more_printed : List (List ℕ))
          → script_text mask ((carried.earlier ++ line ∷ []) ++ lines) (outcomes_of leads-here.next ++ more) ((carried.printed ++ leads-here.printed) ++ more_printed)
          ≡ (carried.so_far ++ reply) ++ text_from mask leads-here.next leads-here.next_accesses (good_commands lines) more more_printed
      text-after lines more more_printed =
          let leads = leads-here in
          let outcomes = outcomes_of carried.trace in
          let earlier = carried.earlier ++ line ∷ lines in
          ap (λ lines. script_text mask lines (outcomes_of leads.next ++ more) ((carried.printed ++ leads.printed) ++ more_printed)) (append_assoc carried.earlier (line ∷ []) lines)
          ∙ ap (λ taken. script_text mask earlier (taken ++ more) ((carried.printed ++ leads.printed) ++ more_printed)) leads.added
          ∙ ap (λ taken. script_text mask earlier taken ((carried.printed ++ leads.printed) ++ more_printed)) (append_assoc outcomes leads.outcomes more)
          ∙ ap (script_text mask earlier (outcomes ++ (leads.outcomes ++ more))) (append_assoc carried.printed leads.printed more_printed)
          ∙ carried.text (line ∷ lines) (leads.outcomes ++ more) (leads.printed ++ more_printed)
          ∙ ap (λ text. carried.so_far ++ text) (leads.text lines more more_printed)
          ∙ sym (append_assoc carried.so_far reply (text_from mask leads.next leads.next_accesses (good_commands lines) more more_printed))

      -- one more line was carried out, and its reply was written
      abbrev pub HasCarriedOut-after_line : (after : Option (List ℕ)) → Appends before after reply → HasCarriedOut mask start all more after new
      HasCarriedOut-after_line after wrote =
          let earlier = carried.earlier in
          record {
            earlier = earlier ++ line ∷ [];
            split = split-here ∙ sym (append_assoc earlier (line ∷ []) more);
            all_good = all_good-append earlier line carried.all_good leads-here.good;
            first_bad = λ number lines. ap (first_bad_line number) (append_assoc earlier (line ∷ []) lines)
                ∙ carried.first_bad number (line ∷ lines)
                ∙ ap (λ good. if good then first_bad_line (number + length earlier + 1) lines else Some (number + length earlier)) leads-here.good
                ∙ ap (λ number. first_bad_line number lines) (omega (arith, length-append earlier (line ∷ [])));
            trace = leads-here.next;
            accesses = leads-here.next_accesses;
            serial = leads-here.serial;
            clock = leads-here.clock;
            printed = carried.printed ++ leads-here.printed;
            short = list_all-append (λ bytes. nat_le (length bytes) 256) carried.printed leads-here.printed ∙ both_true carried.short leads-here.short;
            so_far = carried.so_far ++ reply;
            written = Appends-append start before after carried.so_far reply carried.written wrote;
            text = text-after;
          }

    -- the next line has no syntax
    pub first_bad_line-here : (number : ℕ) → command_of line ≡ None → first_bad_line number all ≡ Some (number + length carried.earlier)
    first_bad_line-here number none =
        ap (first_bad_line number) split-here ∙ carried.first_bad number (line ∷ more)
        ∙ ap (λ (command : Option Command). if is_some command then first_bad_line (number + length carried.earlier + 1) more else Some (number + length carried.earlier)) none

    pub Prints-before_bad : command_of line ≡ None → PrintsLines mask all start before
    Prints-before_bad none = Prints-so_far (ap good_commands next ∙ ap (λ (command : Option Command). until_bad command (good_commands more)) none)

    -- the next line is an `ss`, and memory was refused
    pub Stops-here : line ≡ codes "ss" → StopsWithoutMemory mask all start before
    Stops-here restores = record {
      earlier = carried.earlier;
      later = more;
      split = split-here ∙ ap (λ line. carried.earlier ++ line ∷ more) restores;
      all_good = carried.all_good;
      text = prints carried.earlier [] (sym (append-nil carried.earlier)) refl;
    }

-- ---- the end of a run

-- nothing more was written after it
Appends-then_kept :
    (before middle after : Option (List ℕ)) (bytes : List ℕ) → Appends before middle bytes → Keeps middle after → Appends before after bytes
Appends-then_kept before middle after bytes first kept = grind arith

pub PrintsLines-kept : {mask : ℕ} {lines : List (List ℕ)} (before middle after : Option (List ℕ)) → PrintsLines mask lines before middle → Keeps middle after → PrintsLines mask lines before after
PrintsLines-kept {mask} {lines} before middle after printed kept = record {
  outcomes = printed.outcomes;
  within_room = printed.within_room;
  printed = printed.printed;
  short = printed.short;
  written = Appends-then_kept before middle after (script_text mask lines printed.outcomes printed.printed) printed.written kept;
}
