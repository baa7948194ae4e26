-- SPDX-License-Identifier: Apache-2.0 OR BSD-3-Clause
-- The port accepts all input that its room allows.
use Rattle.std.proofs.Common.{◌≡◌, ℕ, ◌-◌, min, Bool, ◌&&◌, not, List, [], length, take, ap, ◌∙◌, arith, length-take, if◌then◌else◌}
use Rattle.std.proofs.lemmas.List.{take_min}
use Rattle.superio_laws.specs.Serial.{is_loopback, enqueued_bytes}
use Rattle.superio_console.specs.Console.{ConsoleState, is_open, input_room}

pub take_fewer : (room : ℕ) (bytes : List ℕ) → take (min (length bytes) room) bytes ≡ take room bytes
take_fewer room bytes =
    let least : min (length bytes) room ≡ min room (length bytes) = omega arith in
    ap (λ n. take n bytes) least ∙ take_min room bytes

all-taken : (loopback opened : Bool) (room : ℕ) (bytes : List ℕ)
    → length (if loopback then [] else take room (take (if opened && not loopback then room else 0) bytes))
    ≡ min (length bytes) (if opened && not loopback then room else 0)
all-taken loopback opened room bytes = grind (arith, length-take)

pub accepted_room : (c : ConsoleState) (bytes : List ℕ)
    → length (enqueued_bytes c.port (take (input_room c) bytes)) ≡ min (length bytes) (input_room c)
accepted_room c bytes = all-taken (is_loopback c.port.modem_control) (is_open c) (64 - length c.port.in_buffer) bytes
