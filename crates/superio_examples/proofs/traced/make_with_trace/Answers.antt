-- SPDX-License-Identifier: Apache-2.0 OR BSD-3-Clause
-- Each access adds its entry to the trace of those before it.
use Rattle.std.proofs.Common.{[], ◌∷◌, ◌++◌, map, take, refl, sym, ap, ◌∙◌}
use Rattle.std.specs.Cmp.Derive.{both_true}
use Rattle.std.proofs.lemmas.List.{map-append, take_more}
use Rattle.superio_laws.specs.Serial.{Op}
use Rattle.superio_examples.specs.declared.many_calls.Access.{Access}
use Rattle.superio_examples.specs.Traced.{op_of}
use Rattle.superio_examples.proofs.traced.make_with_trace.Goals as goal

pub loop-access-init : goal.loop-access-init
loop-access-init g c = record {
  traced = record {
    trace = [];
    in_order = refl;
    fitting = refl;
    state = c.states_of_history.ensures.state c.args.serial.now.state [] c.requires;
  };
  coherent = c.requires;
}

pub loop-access-preserved : goal.loop-access-preserved
loop-access-preserved g c =
    let so_far = c.loop-access.invariant.traced in
    let added = c.make_one.ensures.entry c.args.serial.now.state so_far.trace c.requires so_far.state in
    let place = c.loop-access.access-index in
    let made = take place c.args.accesses.now in
    let one_more = ap (map op_of) (take_more c.args.accesses.now place (Access.Read 0) c.loop-access-test.true) ∙ map-append op_of made _ in
    record {
      traced = record {
        trace = added.entry ∷ so_far.trace;
        in_order = ap (λ ops. ops ++ added.entry.op ∷ []) so_far.in_order ∙ ap (λ (op : Op). map op_of made ++ op ∷ []) added.is_op ∙ sym one_more;
        fitting = both_true added.fitting so_far.fitting;
        state = added.state;
      };
      coherent = c.make_one.ensures.coherent c.loop-access.invariant.coherent;
    }
