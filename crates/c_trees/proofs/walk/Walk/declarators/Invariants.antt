use Rattle.std.proofs.Common.{drop, flat_map}
use Rattle.c_trees.specs.declared.walk.Walk.{Walk}
use Rattle.c_trees.specs.Walks.{Covers, declared_expressions, declared_marks}
use Rattle.c_trees.proofs.walk.Walk.declarators.Given as goal

abbrev pub invariant-loop-part : goal.invariant-loop-part
invariant-loop-part l = (w : Walk) → Covers l.self w (flat_map declared_expressions (drop l.part-index l.parts)) (flat_map declared_marks (drop l.part-index l.parts)) → Covers l.initial.self w (flat_map declared_expressions l.parts) (flat_map declared_marks l.parts)
