-- SPDX-License-Identifier: Apache-2.0 OR BSD-3-Clause
use Rattle.std.proofs.Common.{refl}
use Rattle.superio_laws.specs.Serial.Laws.UartRun.{UartWrite}
use Rattle.superio_examples.proofs.two_ports.a_write_covers_what_is_held.Goals as goal

pub returns-clause-turned_on : goal.returns-clause-turned_on
returns-clause-turned_on c =
    c.one_uart_call.ensures.turned_on (UartWrite c.args.offset c.args.value c.write.result) _ _ c.write.ensures.step

pub returns-clause-covers : goal.returns-clause-covers
returns-clause-covers c =
    c.one_uart_call.ensures.covers (UartWrite c.args.offset c.args.value c.write.result) _ _ c.write.ensures.step refl c.requires
