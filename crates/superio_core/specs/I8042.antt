-- SPDX-License-Identifier: Apache-2.0 OR BSD-3-Clause
-- The i8042 controller, which emulates only the CPU reset command.
use Rattle.std.specs.Prelude.{ℕ, Bool, ◌==◌, ◌&&◌}

-- a write is the reset command: the byte 0xFE at offset 4, the command register
abbrev pub is_reset_command : (offset value : ℕ) → Bool
is_reset_command offset value = (offset == 4) && (value == 0xFE)
