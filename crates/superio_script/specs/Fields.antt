-- SPDX-License-Identifier: Apache-2.0 OR BSD-3-Clause
-- The lines of a script, the fields of a line, by the kinds that the syntaxes have, and what a syntax is.
use Rattle.std.specs.Prelude.{ℕ, List, [], ◌∷◌, if◌then◌else◌, ◌==◌, None, Some, Option, ◌/◌, ◌&&◌, nat_le, length, option_map, option_and_then, bytes_eq}
use Rattle.std.specs.Borrow.{Bor}
use Rattle.std.specs.Result.{result_ok}
use Rattle.std.specs.Int.{Width, byte_len, from_be_bytes}
use Rattle.hex.specs.Hex.{decode_sized}

-- the pieces with this byte in front of the first one
abbrev pub prepend_to_first : (byte : ℕ) (pieces : List (List ℕ)) → List (List ℕ)
prepend_to_first byte [] = (byte ∷ []) ∷ []
prepend_to_first byte (piece ∷ pieces) = (byte ∷ piece) ∷ pieces

-- the pieces before, between and after the separators; if no byte remains, there are the pieces `end`
abbrev pub pieces_of : (separator : ℕ) (end : List (List ℕ)) (bytes : List ℕ) → List (List ℕ)
pieces_of separator end [] = end
pieces_of separator end (byte ∷ bytes) =
    if byte == separator then [] ∷ pieces_of separator end bytes
    else prepend_to_first byte (pieces_of separator end bytes)

-- the lines of a script. Each line ends with LF, which the last one may lack. No further line follows a final LF
abbrev pub lines_of : (script : List ℕ) → List (List ℕ)
lines_of script = pieces_of 10 [] script

-- the fields of a line. One space separates two fields, so a field is empty if two spaces meet, before a leading
-- space and after a trailing one
abbrev pub fields_of : (line : List ℕ) → List (List ℕ)
fields_of line = pieces_of 32 ([] ∷ []) line

-- the fields that are still to come
abbrev pub remaining_fields : (rest : Option (Bor (List ℕ))) → List (List ℕ)
remaining_fields None = []
remaining_fields (Some rest) = fields_of rest.now

-- ---- the fields of a line, by the kinds that the syntaxes have

-- ---- one field

-- `count` bytes, each written as two hexadecimal digits, in upper or lower case
abbrev pub bytes_of : (count : ℕ) (field : List ℕ) → Option (List ℕ)
bytes_of count field = result_ok (decode_sized field count)

-- how many bytes a field has at most
abbrev pub field_limit : ℕ
field_limit = 128

-- 1 to 128 bytes, of two digits each
abbrev pub field_bytes_of : (field : List ℕ) → Option (List ℕ)
field_bytes_of field =
    let count = length field / 2 in
    if nat_le 1 count && nat_le count field_limit then bytes_of count field else None

-- ---- the first of the fields

-- `count` bytes, from the first field
abbrev pub first_array : (count : ℕ) (fields : List (List ℕ)) → Option (List ℕ)
first_array count [] = None
first_array count (field ∷ fields) = bytes_of count field

-- a number of this width: two digits for each of its bytes, the most significant digit first
abbrev pub first_number : (width : Width) (fields : List (List ℕ)) → Option ℕ
first_number width fields = option_map (from_be_bytes width) (first_array (byte_len width) fields)

-- the bytes of the first field, or no bytes if there is no field
abbrev pub first_bytes : (fields : List (List ℕ)) → Option (List ℕ)
first_bytes [] = Some []
first_bytes (field ∷ fields) = field_bytes_of field

abbrev pub later_fields : (fields : List (List ℕ)) → List (List ℕ)
later_fields [] = []
later_fields (field ∷ fields) = fields

abbrev pub no_field : (fields : List (List ℕ)) → Option (Unit {0})
no_field [] = Some tt
no_field (field ∷ fields) = None

-- ---- the fields of a syntax, read one after another

-- a number of this width, and the fields after it
abbrev pub number : {A : Type 0} (width : Width) (next : (value : ℕ) → List (List ℕ) → Option A)
    (fields : List (List ℕ)) → Option A
number width next fields = option_and_then (λ value. next value (later_fields fields)) (first_number width fields)

-- bytes, of one field or none, and the fields after it
abbrev pub bytes : {A : Type 0} (next : (value : List ℕ) → List (List ℕ) → Option A)
    (fields : List (List ℕ)) → Option A
bytes next fields = option_and_then (λ value. next value (later_fields fields)) (first_bytes fields)

-- no further field
abbrev pub end : {A : Type 0} (command : A) (fields : List (List ℕ)) → Option A
end command fields = option_map (λ _. command) (no_field fields)

-- ---- the syntaxes of a device's lines

-- a syntax: a line's name, and the command that the fields after it give
abbrev pub Syntax : (A : Type 0) → Type 0
Syntax A = List ℕ × (List (List ℕ) → Option A)

-- the command of a line with this name and these fields, or `None` if it has no syntax
abbrev pub by_syntax : {A : Type 0} (syntaxes : List (Syntax A)) (name : List ℕ) (fields : List (List ℕ)) → Option A
by_syntax [] name fields = None
by_syntax (syntax ∷ syntaxes) name fields =
    if bytes_eq name syntax.0 then syntax.1 fields else by_syntax syntaxes name fields
