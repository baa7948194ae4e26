-- SPDX-License-Identifier: Apache-2.0 OR BSD-3-Clause
-- What a read of the clock leaves to the caller, and the number that says when the alarm is due.
use Rattle.std.specs.Prelude.{ℕ, ◌-◌, ◌^◌, ◌==◌, true, false, if◌then◌else◌, Option, Some, None}
use Rattle.superio_c.specs.declared.clock.RtcReadEffects.{RtcReadEffects}

-- a read that shows a number gives it, and one that shows nothing is invalid, and gives 0
abbrev pub effects_of_response : (response : Option ℕ) → RtcReadEffects
effects_of_response (Some number) = record { value = number; invalid_read = false }
effects_of_response None = record { value = 0; invalid_read = true }

-- the seconds that a number stands for; the largest of 64 bits says never
abbrev pub due_of : (number : ℕ) → Option ℕ
due_of number = if number == 2 ^ 64 - 1 then None else Some number
