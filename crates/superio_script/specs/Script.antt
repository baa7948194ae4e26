-- SPDX-License-Identifier: Apache-2.0 OR BSD-3-Clause
-- The text of a script: what a run of it prints.
use Rattle.std.specs.Prelude.{◌≡◌, ℕ, ◌+◌, ◌≤◌, List, [], ◌∷◌, ◌++◌, length, if◌then◌else◌, Bool, Option, Some, None, is_some, IsTrue, codes, bytes_eq}
use Rattle.std.specs.Int.{w64}
use Rattle.std.specs.List.{list_all}
use Rattle.std.specs.Io.KnownBytes.{Appends, Consumes, IsAtEnd}
use Rattle.superio_script.specs.Fields.{number, end, fields_of, lines_of}
use Rattle.board_objects.specs.Objects.{output_limit}
use Rattle.superio_script.specs.SerialScript.{Outcome, out_before_loss, all_short}
use Rattle.superio_script.specs.Devices.{Command, command_of, text_from_fresh}

-- ---- the first line

-- the mask of a line `refuse MMMMMMMMMMMMMMMM`, which is a syntax of a script's first line alone
abbrev pub mask_of_fields : (fields : List (List ℕ)) → Option ℕ
mask_of_fields [] = None
mask_of_fields (name ∷ fields) = if bytes_eq name (codes "refuse") then number w64 end fields else None

abbrev pub mask_of : (line : List ℕ) → Option ℕ
mask_of line = mask_of_fields (fields_of line)

-- ---- the lines

-- a script's mask, the lines that are carried out, and the number of the first of them
pub record Body : Type 0 where
  pub mask : ℕ
  pub first : ℕ
  pub lines : List (List ℕ)

-- a first line of the syntax `refuse` gives the mask, and is not carried out. Without one the mask is 0
abbrev pub body_from : (refused : Option ℕ) (line : List ℕ) (lines : List (List ℕ)) → Body
body_from (Some mask) line lines = record { mask = mask; first = 2; lines = lines }
body_from None line lines = record { mask = 0; first = 1; lines = line ∷ lines }

abbrev pub body_of_lines : (lines : List (List ℕ)) → Body
body_of_lines [] = record { mask = 0; first = 1; lines = [] }
body_of_lines (line ∷ lines) = body_from (mask_of line) line lines

abbrev pub body_of : (script : List ℕ) → Body
body_of script = body_of_lines (lines_of script)

-- the command of a line that has a syntax, in front of the others. A line that has none ends them
abbrev pub until_bad : (command : Option Command) (commands : List Command) → List Command
until_bad None commands = []
until_bad (Some command) commands = command ∷ commands

-- the commands of the good lines, which are those before the first line that has no syntax
abbrev pub good_commands : (lines : List (List ℕ)) → List Command
good_commands [] = []
good_commands (line ∷ lines) = until_bad (command_of line) (good_commands lines)

-- a line has a syntax
abbrev pub has_syntax : (line : List ℕ) → Bool
has_syntax line = is_some (command_of line)

-- the number of the first line that has no syntax, given the number of the first of these lines
abbrev pub first_bad_line : (number : ℕ) (lines : List (List ℕ)) → Option ℕ
first_bad_line number [] = None
first_bad_line number (line ∷ lines) = if has_syntax line then first_bad_line (number + 1) lines else Some number

-- ---- the text

-- the text of these lines: the replies to the good ones, from fresh devices
abbrev pub script_text : (mask : ℕ) (lines : List (List ℕ)) (outcomes : List Outcome) (printed : List (List ℕ)) → List ℕ
script_text mask lines outcomes printed = text_from_fresh mask (good_commands lines) outcomes printed

-- the number of a script's first bad line, counted from 1, or `None` if every line is good
abbrev pub first_bad_line_of : (script : List ℕ) → Option ℕ
first_bad_line_of script = first_bad_line (body_of script).first (body_of script).lines

-- ---- a run

-- the text of these lines was written, for some outcomes and printed bytes. `before` is what the writer held before
-- that, and `after` what it holds now. The board's output has room for 256 bytes, so at most 256 go out before the
-- first loss
pub record PrintsLines (mask : ℕ) (lines : List (List ℕ)) (before after : Option (List ℕ)) : Type 0 where
  pub outcomes : List Outcome
  pub within_room : out_before_loss outcomes ≤ output_limit
  pub printed : List (List ℕ)
  pub short : IsTrue (all_short printed)
  pub written : Appends before after (script_text mask lines outcomes printed)

-- how many bytes a script has at most
abbrev pub script_limit : ℕ
script_limit = 65536

-- a run read the whole script, which is within the limit, found that `bad` is the number of the first bad line, or that
-- there is none, and wrote the text of the lines before it. `left` is what remains in the reader, and `before` and
-- `after` are as above
pub record RunsUpTo (bad : Option ℕ) (script : List ℕ) (left before after : Option (List ℕ)) : Type 0 where
  pub within_limit : length script ≤ script_limit
  pub none_left : IsAtEnd left
  pub first_bad : first_bad_line_of script ≡ bad
  pub text : PrintsLines (body_of script).mask (body_of script).lines before after

-- exactly `count` bytes were read
abbrev pub ReadsBytes : (count : ℕ) (before after : Option (List ℕ)) → Type 0
ReadsBytes count before after = (bytes : List ℕ) × Consumes before after bytes × (length bytes ≡ count)

-- a run of these lines ended at an `ss` for which memory was refused: all lines before it are good, and their text was
-- written
pub record StopsWithoutMemory (mask : ℕ) (lines : List (List ℕ)) (before after : Option (List ℕ)) : Type 0 where
  pub earlier : List (List ℕ)
  pub later : List (List ℕ)
  pub split : lines ≡ earlier ++ codes "ss" ∷ later
  pub all_good : IsTrue (list_all has_syntax earlier)
  pub text : PrintsLines mask earlier before after

-- a run of this script ended without memory
abbrev pub EndsWithoutMemory : (script : List ℕ) (before after : Option (List ℕ)) → Type 0
EndsWithoutMemory script before after = StopsWithoutMemory (body_of script).mask (body_of script).lines before after
