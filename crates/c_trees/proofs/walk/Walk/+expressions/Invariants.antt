-- What is left of the arguments, and how deep an expression is. What calls another on the same expression stands above it.
use Rattle.std.proofs.Common.{◌+◌, ◌*◌, drop, flat_map}
use denote.Param.Weighed.{most}
use Rattle.cc_model.specs.declared.trees.Expr.{size-Expr}
use Rattle.cc_model.specs.CheckedProgram.{tokens_in}
use Rattle.c_trees.specs.declared.walk.Walk.{Walk}
use Rattle.c_trees.specs.Forms.{valued}
use Rattle.c_trees.specs.Walks.{Adds}
use Rattle.c_trees.proofs.walk.Walk.+expressions.Given as goal

abbrev pub decreases-value : goal.decreases-value
decreases-value l = 4 * size-Expr l.e.now + 1

abbrev pub decreases-truth : goal.decreases-truth
decreases-truth l = 4 * size-Expr l.e.now + 2

abbrev pub decreases-values : goal.decreases-values
decreases-values l = 4 * most size-Expr l.args.now + 3

abbrev pub invariant-values-loop-arg : goal.invariant-values-loop-arg
invariant-values-loop-arg l = (w : Walk) → Adds l.self w (flat_map tokens_in (drop l.arg-index l.args)) (flat_map valued (drop l.arg-index l.args)) → Adds l.initial.self w (flat_map tokens_in l.args) (flat_map valued l.args)
