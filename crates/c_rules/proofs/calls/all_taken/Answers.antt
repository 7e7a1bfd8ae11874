use Rattle.cc_model.specs.Typing.{all_taken}
use Rattle.c_rules.proofs.ArgumentLemmas.{taken_all}
use Rattle.c_rules.proofs.calls.all_taken.Goals as goal

pub returns : goal.returns
returns c = taken_all c.loop-arg.params.now c.args.args.now c.loop-arg.arg-index (all_taken c.args.params.now c.args.args.now) c.loop-arg-test.false c.loop-arg.invariant
