-- SPDX-License-Identifier: Apache-2.0 OR BSD-3-Clause
-- The parts follow each other.
use Rattle.std.proofs.Common.{◌+◌, ◌++◌, length, take, ap, sym, ◌∙◌, arith, length-append}
use Rattle.superio_core.specs.Saved.{serial_encoding}
use Rattle.superio_console.specs.Console.{state_of}
use Rattle.superio_console.specs.Saved.{console_prefix}
use Rattle.superio_console.proofs.Lemmas.Saved.{all-written, alike-later, prefix-then}
use Rattle.superio_console.proofs.Console.save.Goals as goal

pub returns-clause-encoding : goal.returns-clause-encoding
returns-clause-encoding c =
    let older = c.as_slices.result.0.now in
    let newer = c.as_slices.result.1.now in
    let state = state_of c.args.self.now in
    let port = serial_encoding state.port in
    let encoding = c.as_bytes-port.ensures ∙ c.to_bytes-port.ensures.encoding in
    let prefix = console_prefix state (length older + length newer) (length c.as_bytes-port.result.now) in
    all-written c.append-count.new.bytes c.append-count-2.new.bytes c.append-count-3.new.bytes c.append.new.bytes prefix older newer
    state.output port c.append-count.result c.append-count-2.result c.append-count-3.result c.append.result
    (c.append-count.ensures.written ∙ c.encode_prefix-prefix.ensures) c.append-count-2.ensures.written c.append-count-3.ensures.written
    (c.append.ensures.written ∙ ap (λ l. take c.append-count-3.result c.append-count-3.new.bytes ++ l) encoding) c.as_slices.ensures.bytes
    ∙ prefix-then state (length older + length newer) (length c.as_bytes-port.result.now)
    (sym (length-append older newer) ∙ ap length c.as_slices.ensures.bytes) (ap length encoding)

pub returns-clause-rest_unchanged : goal.returns-clause-rest_unchanged
returns-clause-rest_unchanged c =
    let count = c.append.result in
    c.append.ensures.rest
    ∙ alike-later c.append-count-3.result count _ _ (omega (arith, c.append.ensures.count)) c.append-count-3.ensures.rest
    ∙ alike-later c.append-count-2.result count _ _ (omega (arith, c.append-count-3.ensures.count, c.append.ensures.count)) c.append-count-2.ensures.rest
    ∙ alike-later c.append-count.result count _ _ (omega (arith, c.append-count-2.ensures.count, c.append-count-3.ensures.count, c.append.ensures.count)) c.append-count.ensures.rest
