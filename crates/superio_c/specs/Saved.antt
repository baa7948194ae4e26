-- SPDX-License-Identifier: Apache-2.0 OR BSD-3-Clause
-- What a load of a saved state returns.
use Rattle.std.specs.Prelude.{ℕ, Option, Some, None}
use Rattle.superio_core.specs.declared.saved.SavedStateError.{SavedStateError}
use Rattle.superio_core.specs.declared.saved.SavedStateError.TheVariants.{TooShort, NotASavedState, OtherDevice, UnknownVersion, WrongLength, TooManyBytes, InvalidArmed, InvalidFlags}

-- the numbers of `enum superio_saved_state_error`: 0 if no check fails
abbrev pub load_status : (fault : Option SavedStateError) → ℕ
load_status None = 0
load_status (Some TooShort) = 1
load_status (Some NotASavedState) = 2
load_status (Some OtherDevice) = 3
load_status (Some (UnknownVersion _)) = 4
load_status (Some WrongLength) = 5
load_status (Some TooManyBytes) = 6
load_status (Some InvalidArmed) = 7
load_status (Some InvalidFlags) = 8
