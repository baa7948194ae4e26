-- SPDX-License-Identifier: Apache-2.0 OR BSD-3-Clause
-- The devices that a script drives: the lines of the clock and of the controller, what a line asks for, what a contract
-- sees of a board and of one line on it, and the order of the replies. The serial port's own part is in
-- SerialScript.antt.
use Rattle.std.specs.Prelude.{◌≡◌, ◌==◌, ℕ, List, [], ◌∷◌, ◌++◌, if◌then◌else◌, codes, map, Option, Some, None, option_map}
use Rattle.std.specs.Int.{w8, w16, w32, w64, to_be_bytes}
use Rattle.superio_core.specs.I8042.{is_reset_command}
use Rattle.vm_superio.specs.Serial.{SerialView, Trace, fresh_state}
use Rattle.vm_superio.specs.Rtc.{ClockDevice}
use Rattle.superio_laws.specs.Rtc.{RtcState, Access, read, write, clock_register_at, is_writable, fresh_clock, clock_of_history, clock_history_response}
use Rattle.superio_script.specs.Fields.{Syntax, by_syntax, number, end, fields_of}
use Rattle.board_objects.specs.Objects.{fresh_interrupt_line, no_counts}
use Rattle.board_objects.specs.declared.Line.{Line}
use Rattle.board_objects.specs.declared.Counts.{Counts}
use Rattle.board_objects.specs.declared.Output.{Output}
use Rattle.superio_script.specs.Reply.{with_lf, digits_reply}
use Rattle.superio_script.specs.SerialScript.{SerialCommand, Outcome, serial_syntaxes, serial_replies, IsAfter, IsSerialLineStep}
pub use Rattle.superio_script.specs.declared.devices.ClockCommand.{ClockCommand}
use Rattle.superio_script.specs.declared.devices.ClockCommand.TheVariants as clock
pub use Rattle.superio_script.specs.declared.devices.ControllerCommand.{ControllerCommand}
use Rattle.superio_script.specs.declared.devices.ControllerCommand.TheVariants as controller
pub use Rattle.superio_script.specs.declared.devices.Command.{Command}
pub use Rattle.superio_script.specs.declared.devices.Command.TheVariants.{Serial, Clock, Controller}

-- ---- the clock: the replies depend on its lines alone, through the trace of its accesses

abbrev pub clock_syntaxes : List (Syntax ClockCommand)
clock_syntaxes =
    (codes "cr", number w64 (λ moment. number w16 (λ offset. end (clock.Read moment offset))))
    ∷ (
      codes "cw",
      number w64 (λ moment. number w16 (λ offset. number w32 (λ value.
          end (clock.Write moment offset value)))),
    )
    ∷ []

-- the state of a board's clock after these accesses, newest first
abbrev pub clock_after : (accesses : List Access) → RtcState
clock_after accesses = clock_of_history fresh_clock accesses

-- the access that a line makes
abbrev pub access_of_line : (line : ClockCommand) → Access
access_of_line (clock.Read moment offset) = read offset moment
access_of_line (clock.Write moment offset value) = write offset value moment

-- the eight digits of the value that a read gives, or `invalid` if it gives none
abbrev pub value_reply : (value : Option ℕ) → List ℕ
value_reply (Some number) = digits_reply (to_be_bytes w32 number)
value_reply None = with_lf (codes "invalid")

-- the reply to a line after these accesses
abbrev pub clock_reply : (accesses : List Access) (line : ClockCommand) → List ℕ
clock_reply accesses (clock.Read moment offset) =
    value_reply (clock_history_response fresh_clock accesses (read offset moment))
clock_reply accesses (clock.Write moment offset value) =
    with_lf (if is_writable (clock_register_at offset) then codes "ok" else codes "invalid")

-- the replies to lines, in order
abbrev pub clock_replies : (accesses : List Access) (lines : List ClockCommand) → List (List ℕ)
clock_replies accesses [] = []
clock_replies accesses (line ∷ lines) =
    clock_reply accesses line ∷ clock_replies (access_of_line line ∷ accesses) lines

-- what a line of the clock does: any accesses that lead to the old state give the reply, and with the line's own access
-- they lead to the new state
abbrev pub IsClockLineStep : (line : ClockCommand) (reply : List ℕ) (old new : RtcState) → Type 0
IsClockLineStep line reply old new =
    (accesses : List Access) → old ≡ clock_after accesses
    → (reply ≡ clock_reply accesses line) × (new ≡ clock_after (access_of_line line ∷ accesses))

-- ---- the controller

abbrev pub controller_syntaxes : List (Syntax ControllerCommand)
controller_syntaxes =
    (codes "kr", number w8 (λ offset. end (controller.Read offset)))
    ∷ (codes "kw", number w8 (λ offset. number w8 (λ value. end (controller.Write offset value))))
    ∷ []

-- the reply to a line. It depends on no other line: a fresh controller replaces one that was reset, and no other access
-- changes a controller
abbrev pub controller_reply : (line : ControllerCommand) → List ℕ
-- each offset reads 0
controller_reply (controller.Read offset) = digits_reply (0 ∷ [])
-- the reset command, and nothing else, calls the reset line
controller_reply (controller.Write offset value) =
    with_lf (if is_reset_command offset value then codes "reset" else codes "ok")

-- the replies to lines, in order
abbrev pub controller_replies : (lines : List ControllerCommand) → List (List ℕ)
controller_replies lines = map controller_reply lines

-- ---- what a line asks for: the devices' lines side by side

-- a name begins with the letter of its device: the serial port's with `s`, the clock's with `c`, the controller's
-- with `k`
abbrev pub command_of_name : (name : List ℕ) (fields : List (List ℕ)) → Option Command
command_of_name [] fields = None
command_of_name (letter ∷ letters) fields =
    let name = letter ∷ letters in
    if letter == 0x73 then option_map (λ line. Serial line) (by_syntax serial_syntaxes name fields)
    else (if letter == 0x63 then option_map (λ line. Clock line) (by_syntax clock_syntaxes name fields)
    else (if letter == 0x6B then option_map (λ line. Controller line) (by_syntax controller_syntaxes name fields)
    else None))

abbrev pub command_of_fields : (fields : List (List ℕ)) → Option Command
command_of_fields [] = None
command_of_fields (name ∷ fields) = command_of_name name fields

-- what a line asks for, or `None` if it has no syntax
abbrev pub command_of : (line : List ℕ) → Option Command
command_of line = command_of_fields (fields_of line)

-- ---- a board

-- the devices. Of the controller, a contract sees its reset line
pub record Devices : Type 0 where
  pub serial : SerialView Line Counts Output
  pub clock : ClockDevice Counts
  pub controller : Line

-- a board between two lines: some trace led to the serial port, and some accesses to the clock. The reset line was
-- never called, since a fresh controller replaces one that was reset
pub record IsBetweenLines
    (port : SerialView Line Counts Output) (rtc : ClockDevice Counts) (reset_line : Line) :
    Type 0 where
  pub mask : ℕ
  pub trace : Trace
  pub serial : IsAfter mask trace port
  pub accesses : List Access
  pub clock : rtc.state ≡ clock_after accesses
  pub controller : reset_line ≡ fresh_interrupt_line 0

-- a board of fresh devices: no trace and no accesses led to it. The serial port's interrupt line has this mask, and the
-- reset line refuses nothing
pub record IsFresh (mask : ℕ) (board : Devices) : Type 0 where
  pub state : board.serial.state ≡ fresh_state
  pub serial : IsAfter mask [] board.serial
  pub clock : board.clock ≡ record { state = fresh_clock; events = no_counts }
  pub controller : board.controller ≡ fresh_interrupt_line 0

-- ---- one line on a board

-- a line acts on its own device, and leaves the other devices as they are
abbrev pub IsLineStep : (command : Command) (reply : List ℕ) (old new : Devices) → Type 0
IsLineStep (Serial line) reply old new =
    IsSerialLineStep line reply old.serial new.serial × (new.clock ≡ old.clock) × (new.controller ≡ old.controller)
IsLineStep (Clock line) reply old new =
    IsClockLineStep line reply old.clock.state new.clock.state
    × (new.serial ≡ old.serial) × (new.controller ≡ old.controller)
IsLineStep (Controller line) reply old new = (reply ≡ controller_reply line) × (new ≡ old)

-- ---- the replies: each device replies to its own lines, and then the replies are put into the order of all lines

abbrev pub serial_lines : (commands : List Command) → List SerialCommand
serial_lines [] = []
serial_lines (Serial line ∷ commands) = line ∷ serial_lines commands
serial_lines (_ ∷ commands) = serial_lines commands

abbrev pub clock_lines : (commands : List Command) → List ClockCommand
clock_lines [] = []
clock_lines (Clock line ∷ commands) = line ∷ clock_lines commands
clock_lines (_ ∷ commands) = clock_lines commands

abbrev pub controller_lines : (commands : List Command) → List ControllerCommand
controller_lines [] = []
controller_lines (Controller line ∷ commands) = line ∷ controller_lines commands
controller_lines (_ ∷ commands) = controller_lines commands

-- the devices' replies in the order of the commands: each command takes the next reply of its device
abbrev pub replies_in_order : (commands : List Command) (serial clock controller : List (List ℕ)) → List ℕ
replies_in_order (Serial line ∷ commands) (reply ∷ serial) clock controller =
    reply ++ replies_in_order commands serial clock controller
replies_in_order (Clock line ∷ commands) serial (reply ∷ clock) controller =
    reply ++ replies_in_order commands serial clock controller
replies_in_order (Controller line ∷ commands) serial clock (reply ∷ controller) =
    reply ++ replies_in_order commands serial clock controller
replies_in_order _ serial clock controller = []

-- the replies to these commands, from this trace of the serial port and these accesses of the clock on, given what a
-- script leaves open. The replies of each device come from its own lines alone
abbrev pub text_from :
    (mask : ℕ) (trace : Trace) (accesses : List Access) (commands : List Command)
    (outcomes : List Outcome) (printed : List (List ℕ)) → List ℕ
text_from mask trace accesses commands outcomes printed =
    replies_in_order commands (serial_replies mask trace (serial_lines commands) outcomes printed)
    (clock_replies accesses (clock_lines commands)) (controller_replies (controller_lines commands))

-- the replies to these commands, from fresh devices on
abbrev pub text_from_fresh :
    (mask : ℕ) (commands : List Command) (outcomes : List Outcome) (printed : List (List ℕ)) → List ℕ
text_from_fresh mask commands outcomes printed = text_from mask [] [] commands outcomes printed
