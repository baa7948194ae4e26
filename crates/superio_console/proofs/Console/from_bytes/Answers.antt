-- SPDX-License-Identifier: Apache-2.0 OR BSD-3-Clause
-- The parts are the parts of one state.
use Rattle.std.proofs.Common.{bit_and, length, refl, ap, sym, ◌∙◌, arith}
use Rattle.superio_console.specs.Console.{Console, state_of}
use Rattle.superio_console.proofs.Lemmas.Saved.{flags-back, at-most-64, encoded, read-back, not-refused}
use Rattle.superio_console.proofs.Console.from_bytes.Goals as goal

pub returns-in_err-flags-clause-read : goal.returns-in_err-flags-clause-read
returns-in_err-flags-clause-read c = λ state fits is. absurd (not-refused c.args.bytes.now _ state fits is c.in_err-flags.ensures.fault)

pub returns-in_err-from_bytes-clause-read : goal.returns-in_err-from_bytes-clause-read
returns-in_err-from_bytes-clause-read c = λ state fits is.
    absurd (not-refused c.args.bytes.now _ state fits is (c.in_ok-flags.ensures.port ∙ sym c.in_err-from_bytes.ensures.fault))

pub returns-clause-encoding : goal.returns-clause-encoding
returns-clause-encoding c =
    let flags = c.in_ok-flags.flags in
    let console : Console = record {
      port = c.in_ok-from_bytes.field-0;
      output = c.from_slice.result;
      dropped = c.in_ok-flags.dropped;
      is_polled = bit_and flags 1;
      is_ready = bit_and flags 2;
      is_asleep = bit_and flags 4;
      is_refused = bit_and flags 8;
    } in
    encoded c.args.bytes.now c.in_ok-flags.output.now c.in_ok-flags.port.now flags c.in_ok-flags.dropped (state_of console)
    c.in_ok-flags.ensures.encoding (flags-back flags c.in_ok-flags.ensures.flags) refl c.from_slice.ensures c.in_ok-from_bytes.ensures.encoding

pub returns-clause-read : goal.returns-clause-read
returns-clause-read c = λ state fits is.
    let flags = c.in_ok-flags.flags in
    let console : Console = record {
      port = c.in_ok-from_bytes.field-0;
      output = c.from_slice.result;
      dropped = c.in_ok-flags.dropped;
      is_polled = bit_and flags 1;
      is_ready = bit_and flags 2;
      is_asleep = bit_and flags 4;
      is_refused = bit_and flags 8;
    } in
    read-back c.args.bytes.now console state (record {
      held = at-most-64 c.in_ok-from_bytes.field-0;
      waiting = omega (arith, ap length c.from_slice.ensures, c.in_ok-flags.ensures.at_most_4096);
      dropped = c.in_ok-flags.ensures.dropped;
    }) fits
    (returns-clause-encoding c) is
