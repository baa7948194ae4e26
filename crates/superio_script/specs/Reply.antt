-- SPDX-License-Identifier: Apache-2.0 OR BSD-3-Clause
-- The reply to a line, and how a program reports the fault that ended its run.
use Rattle.std.specs.Prelude.{ℕ, List, [], ◌∷◌, ◌++◌, codes, decimal}
use Rattle.std.specs.Int.{w64, to_be_bytes}
use Rattle.hex.specs.Hex.{encode_lower}
use Rattle.superio_script.specs.declared.replies.ScriptFault.{ScriptFault}
use Rattle.superio_script.specs.declared.replies.ScriptFault.TheVariants.{Bad, Io, Memory, TooLong}

-- ---- the text of a reply

-- a text and LF
abbrev pub with_lf : (text : List ℕ) → List ℕ
with_lf text = text ++ 10 ∷ []

-- two lower-case digits for each byte, and LF
abbrev pub digits_reply : (bytes : List ℕ) → List ℕ
digits_reply bytes = with_lf (encode_lower bytes)

-- a count as sixteen digits
abbrev pub count_digits : (count : ℕ) → List ℕ
count_digits count = encode_lower (to_be_bytes w64 count)

-- ---- how a program reports the fault that ended its run

-- its exit status
abbrev pub status_of : (fault : ScriptFault) → ℕ
status_of (Bad number) = 1
status_of Io = 2
status_of Memory = 3
status_of TooLong = 4

-- its message, without the LF
abbrev pub message_of : (fault : ScriptFault) → List ℕ
message_of (Bad number) = codes "bad line " ++ decimal number
message_of Io = codes "input or output fault"
message_of Memory = codes "out of memory"
message_of TooLong = codes "script too long"
