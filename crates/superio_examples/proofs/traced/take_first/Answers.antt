-- SPDX-License-Identifier: Apache-2.0 OR BSD-3-Clause
-- The law of a driver, over the runs of the loop.
use Rattle.std.proofs.Common.{[], ◌∷◌, ◌++◌, take, refl, ap, sym, ◌∙◌, append-nil, arith}
use Rattle.superio_laws.specs.Serial.History.{read_out_bytes}
use Rattle.superio_examples.specs.Traced.{receiver}
use Rattle.superio_examples.proofs.traced.take_first.Goals as goal

pub loop-init : goal.loop-init
loop-init g c = record {
  hidden = c.requires.hidden;
  coherent = c.requires.coherent;
  made = record {
    before = [];
    state = c.states_of_history.ensures.state c.args.serial.now.state [] c.requires.coherent;
    runs = λ rest are. (rest, are, omega arith, refl);
  };
}

pub loop-preserved : goal.loop-preserved
loop-preserved g c =
    let so_far = c.loop.invariant.made in
    let made = c.take_one.ensures.run c.args.serial.now.state so_far.before c.requires.coherent so_far.state in
    record {
      hidden = c.take_one.ensures.hidden;
      coherent = c.take_one.ensures.coherent c.loop.invariant.coherent;
      made = record {
        before = made.run ++ so_far.before;
        state = made.state;
        runs = λ rest are. let all = so_far.runs (made.run ∷ rest) (made.is_run, are) in (all.0, all.1, omega (arith, all.2), all.3);
      };
    }

pub returns-clause-taken : goal.returns-clause-taken
returns-clause-taken g c =
    let start = c.args.serial.now.state in
    let so_far = c.loop.invariant.made in
    let all = so_far.runs [] tt in
    let taken = c.guest_driver.ensures.taken receiver start [] all.0 all.1 in (
      so_far.before,
      so_far.state,
      taken.0,
      ap (read_out_bytes start) (sym all.3) ∙ taken.1
          ∙ ap (λ n. take n (start.in_buffer ++ []) ++ taken.0) (omega (arith, all.2)) ∙ ap (λ held. take c.args.count held ++ taken.0) (append-nil start.in_buffer),
    )
