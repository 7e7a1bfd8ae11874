use Rattle.c_trees.specs.Walks.{declared_expressions, declared_marks}
use Rattle.c_trees.proofs.Walking.{no_parts}
use Rattle.c_trees.proofs.walk.Walk.declarators.Goals as goal

pub returns : goal.returns
returns c = c.loop-part.invariant c.loop-part.self (no_parts declared_expressions declared_marks c.args.parts.now c.loop-part.part-index c.loop-part.self c.loop-part-test.false)
