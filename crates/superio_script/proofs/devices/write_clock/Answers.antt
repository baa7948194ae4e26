-- SPDX-License-Identifier: Apache-2.0 OR BSD-3-Clause
-- The reply shows whether the register takes the write, and the accesses go on with it.
use Rattle.std.proofs.Common.{◌∙◌, ap, sym, Bool, List, ℕ, codes, if◌then◌else◌}
use Rattle.superio_laws.specs.Rtc.{write}
use Rattle.superio_script.specs.Reply.{with_lf}
use Rattle.superio_script.proofs.LineLemmas.{clock_goes_on}
use Rattle.superio_script.proofs.devices.write_clock.Goals as goal

abbrev reply : Bool → List ℕ
reply taken = with_lf (if taken then codes "ok" else codes "invalid")

pub returns-then-write_value : goal.returns-then-write_value
returns-then-write_value c = record {
  step = λ accesses at. (
    c.reply_text.ensures ∙ ap reply (sym c.if-write_value.true ∙ c.write_value.ensures.writable),
    clock_goes_on accesses _ _ (write c.args.offset c.args.value c.args.moment) c.write_value.ensures.state at,
  );
}

pub returns : goal.returns
returns c = record {
  step = λ accesses at. (
    c.reply_text-2.ensures ∙ ap reply (sym c.if-write_value.false ∙ c.write_value.ensures.writable),
    clock_goes_on accesses _ _ (write c.args.offset c.args.value c.args.moment) c.write_value.ensures.state at,
  );
}
