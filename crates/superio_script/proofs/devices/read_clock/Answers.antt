-- SPDX-License-Identifier: Apache-2.0 OR BSD-3-Clause
-- The reply shows what the history says, and the accesses go on with the read.
use Rattle.std.proofs.Common.{◌∙◌, ap, sym}
use Rattle.superio_laws.specs.Rtc.{read}
use Rattle.superio_script.specs.Devices.{value_reply}
use Rattle.superio_script.specs.Reply.{digits_reply}
use Rattle.superio_script.proofs.LineLemmas.{clock_goes_on, clock_responds}
use Rattle.superio_script.proofs.devices.read_clock.Goals as goal

pub returns-in-Some : goal.returns-in-Some
returns-in-Some c =
    let access = read c.args.offset c.args.moment in
    record {
      step = λ accesses at. (
        c.reply_digits.ensures ∙ ap digits_reply c.to_be_bytes.ensures
            ∙ ap value_reply (sym c.in-Some.is ∙ clock_responds accesses _ access _ c.read_value.ensures.response at),
        clock_goes_on accesses _ _ access c.read_value.ensures.state at,
      );
    }

pub returns-in-None : goal.returns-in-None
returns-in-None c =
    let access = read c.args.offset c.args.moment in
    record {
      step = λ accesses at. (
        c.reply_text.ensures
            ∙ ap value_reply (sym c.in-None.is ∙ clock_responds accesses _ access _ c.read_value.ensures.response at),
        clock_goes_on accesses _ _ access c.read_value.ensures.state at,
      );
    }
