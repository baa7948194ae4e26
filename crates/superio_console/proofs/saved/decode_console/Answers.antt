-- SPDX-License-Identifier: Apache-2.0 OR BSD-3-Clause
-- The contents are the parts, and their checks are the checks of the specification.
use Rattle.std.proofs.Common.{◌≡◌, ◌-◌, length, take, drop, ap, ◌∙◌, arith}
use Rattle.superio_core.specs.Saved.{encoding, console_kind}
use Rattle.superio_console.specs.Saved.{output_count}
use Rattle.superio_console.proofs.Lemmas.Saved.{parts-back, rest-of, split-back, contents-small, passes-on}
use Rattle.superio_console.proofs.saved.decode_console.Goals as goal

pub returns-else-flags-gt-ALL_BITS-clause-encoding : goal.returns-else-flags-gt-ALL_BITS-clause-encoding
returns-else-flags-gt-ALL_BITS-clause-encoding c =
    let bytes = c.args.bytes.now in
    let contents = c.in_ok-decode_header.field-0.now in
    let output = c.split_at.result.0.now in
    let port = c.split_at.result.1.now in
    let is = c.in_ok-decode_header.ensures.encoding in
    is ∙ ap (encoding console_kind)
    (parts-back contents output port c.from_le_bytes-dropped.result c.in-len11-up.len_at_least
    (contents-small console_kind bytes contents is (λ i. (c.type_inv.bytes i).fits))
    c.from_le_bytes-dropped.ensures (omega arith)
    (split-back c.from-waiting.result output port (take (length contents - 11) (drop 11 contents)) c.split_at.ensures.front c.split_at.ensures.back
    ∙ rest-of contents))

pub returns-else-flags-gt-ALL_BITS-clause-port : goal.returns-else-flags-gt-ALL_BITS-clause-port
returns-else-flags-gt-ALL_BITS-clause-port c =
    let bytes = c.args.bytes.now in
    let contents = c.in_ok-decode_header.field-0.now in
    let port = c.split_at.result.1.now in
    let back : port ≡ drop c.from-waiting.result (take (length contents - 11) (drop 11 contents)) = c.split_at.ensures.back in
    let waiting : c.from-waiting.result ≡ output_count contents = omega arith in
    passes-on bytes contents port c.in_ok-decode_header.ensures.fault c.in_ok-decode_header.ensures.encoding
    (omega arith) (omega arith) (omega arith) (back ∙ ap (drop c.from-waiting.result) (rest-of contents) ∙ ap (λ n. drop n (drop 11 contents)) waiting)
