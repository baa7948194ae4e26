-- SPDX-License-Identifier: Apache-2.0 OR BSD-3-Clause
-- The start, the received bytes, and what follows them.
use Rattle.std.proofs.Common.{◌≡◌, ◌+◌, List, ℕ, ◌++◌, length, drop, sym, ap, ◌∙◌, append_assoc, length-append}
use Rattle.std.proofs.Math.Seq.{drop-drop}
use Rattle.superio_core.specs.Serial.{state_with}
use Rattle.superio_core.specs.Saved.{serial_encoding}
use Rattle.superio_core.proofs.serial.registers.Registers.encode_serial.Goals as goal

written :
    (start begin held left rest old encoding : List ℕ) (count : ℕ) → start ≡ begin → left ≡ held ++ drop count rest
    → rest ≡ drop 17 old → begin ++ held ≡ encoding → start ++ left ≡ encoding ++ drop (17 + count) old
written start begin held left rest old encoding count e f g h =
    ap (λ l. l ++ left) e
    ∙ ap (λ l. begin ++ l) f
    ∙ ap (λ l. begin ++ (held ++ drop count l)) g
    ∙ ap (λ l. begin ++ (held ++ l)) (drop-drop count 17 old)
    ∙ sym (append_assoc begin held (drop (17 + count) old))
    ∙ ap (λ l. l ++ drop (17 + count) old) h

pub returns-clause-encoding : goal.returns-clause-encoding
returns-clause-encoding c =
    let older = c.args.older.now in
    let newer = c.args.newer.now in
    let held = older ++ newer in
    written c.copy_from_slice.new.self c.encode_prefix.result held c.copy_both.new.target c.split_at_mut-start.result.1.now
    c.args.encoding.now (serial_encoding (state_with c.args.self.now held)) (length older + length newer)
    c.copy_from_slice.ensures.after c.copy_both.ensures c.split_at_mut-start.ensures.back
    (c.encode_prefix.ensures held (length-append older newer))
