-- SPDX-License-Identifier: Apache-2.0 OR BSD-3-Clause
-- Worked scripts of the serial port: the replies, computed from the history.
use Rattle.std.proofs.Common.{◌≡◌, ℕ, List, [], ◌∷◌, ◌++◌, refl, replicate, codes}
use Rattle.vm_superio.specs.Serial.{has_bits, only_bits, with_bits}
use Rattle.superio_script.specs.Reply.{with_lf, digits_reply, count_digits}
use Rattle.superio_script.specs.SerialScript.{Out, serial_replies}
use Rattle.superio_script.specs.declared.serial_lines.SerialCommand.TheVariants.{Read, Write, Enqueue, Capacity, Drain, Restore, Output, Calls, Events}

abbrev ok : List ℕ
ok = with_lf (codes "ok")

abbrev bytes : (values : List ℕ) → List ℕ
bytes values = digits_reply values

abbrev count : (value : ℕ) → List ℕ
count value = with_lf (count_digits value)

a_restored_port_keeps_its_byte :
    serial_replies 0 [] (Write 1 0x01 ∷ Enqueue (0x61 ∷ 0x62 ∷ 0x63 ∷ []) ∷ Restore ∷ Calls ∷ Read 2 ∷ Read 0 ∷ Capacity ∷ []) [] []
    ≡ ok ∷ bytes (3 ∷ []) ∷ ok ∷ count 2 ∷ bytes (0xC4 ∷ []) ∷ bytes (0x61 ∷ []) ∷ bytes (0x3E ∷ []) ∷ []
unfolding has_bits only_bits with_bits
a_restored_port_keeps_its_byte = refl

-- the mask refuses call number 1, which is the restore's: the count is back at 1. After the read of IIR no call is due
a_refused_restore_changes_nothing :
    serial_replies 2 [] (Write 1 0x01 ∷ Enqueue (0x61 ∷ []) ∷ Restore ∷ Calls ∷ Read 2 ∷ Restore ∷ Calls ∷ []) [] []
    ≡ ok ∷ bytes (1 ∷ []) ∷ with_lf (codes "trigger") ∷ count 1 ∷ bytes (0xC4 ∷ []) ∷ ok ∷ count 1 ∷ []
unfolding has_bits only_bits with_bits
a_refused_restore_changes_nothing = refl

each_event_is_counted :
    serial_replies 0 [] (Read 0 ∷ Write 0 0x41 ∷ Events ∷ []) (Out ∷ []) []
    ≡ bytes (0 ∷ []) ∷ ok ∷ with_lf (count_digits 1 ++ 32 ∷ count_digits 1 ++ 32 ∷ count_digits 0 ++ 32 ∷ count_digits 1) ∷ []
unfolding has_bits only_bits with_bits
each_event_is_counted = refl

-- a byte for which no outcome is left is lost, and what `so` then prints is left open
a_lost_byte_leaves_the_output_open :
    serial_replies 0 [] (Write 0 0x41 ∷ Output ∷ Write 0 0x42 ∷ Output ∷ []) (Out ∷ []) ((0x41 ∷ []) ∷ [])
    ≡ ok ∷ bytes (0x41 ∷ []) ∷ with_lf (codes "io") ∷ bytes (0x41 ∷ []) ∷ []
unfolding has_bits only_bits with_bits
a_lost_byte_leaves_the_output_open = refl

a_drain_reads_what_is_held :
    serial_replies 0 [] (Drain ∷ Enqueue (0x61 ∷ 0x62 ∷ []) ∷ Drain ∷ Read 5 ∷ Enqueue (0x63 ∷ []) ∷ Write 3 0x80 ∷ Drain ∷ Write 3 0x03 ∷ Drain ∷ []) [] []
    ≡ bytes [] ∷ bytes (2 ∷ []) ∷ bytes (0x61 ∷ 0x62 ∷ []) ∷ bytes (0x60 ∷ []) ∷ bytes (1 ∷ []) ∷ ok ∷ bytes [] ∷ ok ∷ bytes (0x63 ∷ []) ∷ []
unfolding has_bits only_bits with_bits
a_drain_reads_what_is_held = refl

-- the output has room for 256 bytes, and the next is lost
the_output_takes_256_bytes :
    serial_replies 0 [] (replicate 257 (Write 0 0x41) ++ Output ∷ []) (replicate 256 Out) (replicate 256 0x41 ∷ [])
    ≡ replicate 256 ok ++ with_lf (codes "io") ∷ bytes (replicate 256 0x41) ∷ []
unfolding has_bits only_bits with_bits
the_output_takes_256_bytes = refl
