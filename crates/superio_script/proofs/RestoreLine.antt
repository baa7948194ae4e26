-- SPDX-License-Identifier: Apache-2.0 OR BSD-3-Clause
-- The line that asks for a save and restore is `ss`.
use Rattle.std.proofs.Common.{◌≡◌, ◌≢◌, ℕ, ◌==◌, Bool, true, false, List, [], ◌∷◌, Option, Some, None, IsTrue, if◌then◌else◌, codes, option_map, refl, ap, ◌∙◌, arith}
use Rattle.std.specs.Str.{bytes_eq}
use Rattle.std.proofs.lemmas.Slice.Eq.{bytes_eq-Decides}
use Rattle.std.proofs.lemmas.Option.{option_and_then_some}
use Rattle.std.specs.Int.{Width}
use Rattle.superio_script.specs.Fields.{by_syntax, prepend_to_first, pieces_of, fields_of, number, bytes, end, first_number, first_bytes, later_fields}
use Rattle.superio_script.specs.SerialScript.{SerialCommand, serial_syntaxes}
use Rattle.superio_script.specs.Devices.{Command, command_of_name, command_of_fields, command_of, Serial}
use Rattle.superio_script.specs.declared.serial_lines.SerialCommand.TheVariants as line

-- ---- a line of one field

-- there is always a piece
pieces_of-some : (separator : ℕ) (xs : List ℕ) → pieces_of separator ([] ∷ []) xs ≢ []
pieces_of-some separator [] none = absurd cc
pieces_of-some separator (x ∷ xs) none = by_test (x == separator) (pieces_of separator ([] ∷ []) xs) none
  where
    by_test : (found : Bool) (pieces : List (List ℕ)) → (if found then [] ∷ pieces else prepend_to_first x pieces) ≡ [] → ⊥
    by_test found pieces none = grind arith

-- a line of one field is that field
one-field : (xs field : List ℕ) → fields_of xs ≡ field ∷ [] → xs ≡ field
one-field [] field one = cc
one-field (x ∷ xs) field one = by_test (x == 32) (fields_of xs) (one-field xs) (pieces_of-some 32 xs) one
  where
    by_test : (found : Bool) (pieces : List (List ℕ)) → ((piece : List ℕ) → pieces ≡ piece ∷ [] → xs ≡ piece) → pieces ≢ [] →
        (if found then [] ∷ pieces else prepend_to_first x pieces) ≡ field ∷ [] → x ∷ xs ≡ field
    by_test true pieces rest some one =
        let none : pieces ≡ [] = cc in
        absurd (some none)
    by_test false [] rest some one = absurd (some refl)
    by_test false (piece ∷ pieces) rest some one =
        let none : pieces ≡ [] = cc in
        let first : x ∷ piece ≡ field = cc in
        ap (λ xs. x ∷ xs) (rest piece (ap (λ pieces. piece ∷ pieces) none)) ∙ first

-- ---- the syntax

-- fields that give a command: the first of them gives a value with which the later ones do
number-gives : {A : Type 0} (width : Width) (next : ℕ → List (List ℕ) → Option A) (fields : List (List ℕ)) (command : A) →
    number width next fields ≡ Some command → (value : ℕ) × (next value (later_fields fields) ≡ Some command)
number-gives width next fields command is =
    option_and_then_some (λ value. next value (later_fields fields)) (first_number width fields) command is (λ value _ e. (value, e))

bytes-gives : {A : Type 0} (next : List ℕ → List (List ℕ) → Option A) (fields : List (List ℕ)) (command : A) →
    bytes next fields ≡ Some command → (value : List ℕ) × (next value (later_fields fields) ≡ Some command)
bytes-gives next fields command is =
    option_and_then_some (λ value. next value (later_fields fields)) (first_bytes fields) command is (λ value _ e. (value, e))

end-gives : {A : Type 0} (command other : A) (fields : List (List ℕ)) → end command fields ≡ Some other → command ≡ other
end-gives command other [] is = cc
end-gives command other (field ∷ fields) is = absurd cc

restore-syntax : (name : List ℕ) (fields : List (List ℕ)) → by_syntax serial_syntaxes name fields ≡ Some line.Restore
    → IsTrue (bytes_eq name (codes "ss")) × (end line.Restore fields ≡ Some line.Restore)
restore-syntax name fields is = grind (arith, number-gives, bytes-gives, end-gives)

ended : (fields : List (List ℕ)) → end line.Restore fields ≡ Some line.Restore → fields ≡ []
ended [] is = refl
ended (field ∷ fields) is = absurd cc

-- ---- the device

abbrev is_serial : (command : Option Command) → Bool
is_serial (Some (Serial line)) = true
is_serial _ = false

-- the serial port's lines come from its own syntaxes, if the other devices' syntaxes give none of them
own_line : (named : Bool) (serial : Option SerialCommand) (others : Option Command) (line : SerialCommand) → is_serial others ≡ false →
    (if named then option_map (λ line. Serial line) serial else others) ≡ Some (Serial line) → serial ≡ Some line
own_line named serial others line none is = grind arith

-- one of the other devices
other_line : {A : Type 0} (named : Bool) (make : A → Command) (line : Option A) (others : Option Command) → ((line : A) → is_serial (Some (make line)) ≡ false) → is_serial others ≡ false →
    is_serial (if named then option_map make line else others) ≡ false
other_line true make (Some line) others differs none = differs line
other_line true make None others differs none = refl
other_line false make line others differs none = none

serial-name : (letter : ℕ) (letters : List ℕ) (fields : List (List ℕ)) → command_of_name (letter ∷ letters) fields ≡ Some (Serial line.Restore)
    → by_syntax serial_syntaxes (letter ∷ letters) fields ≡ Some line.Restore
serial-name letter letters fields is =
    own_line (letter == 0x73) (by_syntax serial_syntaxes (letter ∷ letters) fields) _ line.Restore (search other_line depth 16) is

-- ---- the line

restore-name : (name : List ℕ) (fields : List (List ℕ)) → command_of_name name fields ≡ Some (Serial line.Restore) → name ∷ fields ≡ codes "ss" ∷ []
restore-name [] fields is = absurd cc
restore-name (letter ∷ letters) fields is =
    let name = letter ∷ letters in
    let (named, alone) = restore-syntax name fields (serial-name letter letters fields is) in
    ap (λ name. name ∷ fields) ((bytes_eq-Decides name (codes "ss")).0 named) ∙ ap (λ fields. codes "ss" ∷ fields) (ended fields alone)

pub restore_line-is_ss : (text : List ℕ) → command_of text ≡ Some (Serial line.Restore) → text ≡ codes "ss"
restore_line-is_ss text is = one-field text (codes "ss") (by_fields (fields_of text) is)
  where
    by_fields : (fields : List (List ℕ)) → command_of_fields fields ≡ Some (Serial line.Restore) → fields ≡ codes "ss" ∷ []
    by_fields [] is = absurd cc
    by_fields (name ∷ fields) is = restore-name name fields is

pub ruleset restore_line = (restore_line-is_ss)
