use Rattle.flip_solve.proofs.Steps.{here_is, not_here, nowhere}
use Rattle.flip_solve.proofs.gathering.atoms_for.Goals as goal

pub returns-then-same_outcome : goal.returns-then-same_outcome
returns-then-same_outcome c = here_is c.args.outcome c.args.choices.now c.loop-choice.choice-index c.choice-item.result c.same_outcome.result _ _ c.loop-choice-test.true c.choice-item.is c.same_outcome.ensures c.if-same_outcome.true c.loop-choice.invariant c.as_slice.ensures

pub loop-choice-preserved : goal.loop-choice-preserved
loop-choice-preserved c = not_here c.args.outcome c.args.choices.now c.loop-choice.choice-index c.choice-item.result c.same_outcome.result _ c.loop-choice-test.true c.choice-item.is c.same_outcome.ensures c.if-same_outcome.false c.loop-choice.invariant

pub returns : goal.returns
returns c = nowhere c.args.outcome c.args.choices.now c.loop-choice.choice-index _ c.loop-choice-test.false c.loop-choice.invariant
