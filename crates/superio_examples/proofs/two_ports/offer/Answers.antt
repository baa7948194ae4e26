-- SPDX-License-Identifier: Apache-2.0 OR BSD-3-Clause
use Rattle.std.proofs.Common.{◌-◌, ◌++◌, length, take, drop, ap, sym, ◌∙◌}
use Rattle.std.proofs.lemmas.List.{take_rest}
use Rattle.superio_laws.specs.Serial.{state_of_uart}
use Rattle.superio_examples.proofs.two_ports.offer.Goals as goal

pub returns-clause-held : goal.returns-clause-held
returns-clause-held c =
    let call = c.enqueue_raw_bytes-effects in
    let accepted = c.one_uart_call.ensures.accepted c.args.input.now call.result _ _ call.ensures.step in
    accepted.held ∙ ap (λ bytes. (state_of_uart c.args.port.now).in_buffer ++ bytes) accepted.first

pub returns-clause-rest : goal.returns-clause-rest
returns-clause-rest c =
    let call = c.enqueue_raw_bytes-effects in
    let input = c.args.input.now in
    let count = call.result.accepted in
    let accepted = c.one_uart_call.ensures.accepted input call.result _ _ call.ensures.step in
    ap (λ bytes. bytes ++ take (length input - count) (drop count input)) (sym accepted.first)
    ∙ ap (λ rest. take count input ++ rest) (take_rest input count) ∙ accepted.rest
