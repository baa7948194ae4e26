-- SPDX-License-Identifier: Apache-2.0 OR BSD-3-Clause
-- Each call adds its entry.
use Rattle.std.proofs.Common.{◌∷◌, sym, ap, ◌∙◌}
use Rattle.superio_laws.specs.Serial.{ByteRead, State, is_dlab}
use Rattle.vm_superio.specs.Serial.{timeout_response}
use Rattle.superio_laws.specs.Serial.Laws.Line.{timeout_entry}
use Rattle.superio_examples.proofs.TracedLemmas.{read_of, run_of, is_run}
use Rattle.superio_examples.proofs.traced.take_one.Goals as goal

pub returns-clause-run : goal.returns-clause-run
returns-clause-run g c = λ start before coherent is.
    let iir = c.read.ensures.step in
    let first = c.calls_of_history.ensures start before (read_of 2) (ByteRead c.read.result) c.args.serial.now.state c.read.new.self.state coherent is iir.fits iir.response iir.state in
    let rbr = c.read-2.ensures.step in
    let second = c.calls_of_history.ensures start (read_of 2 ∷ before) (read_of 0) (ByteRead c.read-2.result) c.read.new.self.state c.read-2.new.self.state coherent first.state rbr.fits rbr.response rbr.state in
    let made = c.character_timeout.ensures.step in
    let third = c.calls_of_history.ensures start (read_of 0 ∷ read_of 2 ∷ before) (timeout_entry made.asked) (timeout_response c.character_timeout.result) c.read-2.new.self.state c.character_timeout.new.self.state coherent second.state made.step.fits made.step.response made.step.state in
    record {
      run = run_of made.asked;
      is_run = is_run start before made.asked (ap (λ (s : State). is_dlab s.line_control) (sym is) ∙ c.requires);
      state = third.state;
    }
