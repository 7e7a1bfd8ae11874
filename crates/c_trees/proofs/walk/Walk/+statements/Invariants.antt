use Rattle.std.proofs.Common.{drop, flat_map}
use Rattle.c_trees.specs.declared.walk.Walk.{Walk}
use Rattle.c_trees.specs.Walks.{Covers, expressions_of, marks_of}
use Rattle.c_trees.proofs.walk.Walk.+statements.Given as goal

abbrev pub invariant-parts-loop-part : goal.invariant-parts-loop-part
invariant-parts-loop-part l = (w : Walk) → Covers l.self w (flat_map expressions_of (drop l.part-index l.parts)) (flat_map marks_of (drop l.part-index l.parts)) → Covers l.initial.self w (flat_map expressions_of l.parts) (flat_map marks_of l.parts)
