use Rattle.std.proofs.Common.{drop, flat_map}
use Rattle.cc_model.specs.CheckedProgram.{item_expressions}
use Rattle.cc_model.specs.Sites.{item_sites}
use Rattle.c_trees.specs.declared.walk.Walk.{Walk}
use Rattle.c_trees.specs.Walks.{Covers}
use Rattle.c_trees.proofs.walk.Walk.items.Given as goal

abbrev pub invariant-loop-item : goal.invariant-loop-item
invariant-loop-item l = (w : Walk) → Covers l.self w (flat_map item_expressions (drop l.item-index l.items)) (flat_map item_sites (drop l.item-index l.items)) → Covers l.initial.self w (flat_map item_expressions l.items) (flat_map item_sites l.items)
