use Rattle.cc_model.specs.CheckedProgram.{item_expressions}
use Rattle.cc_model.specs.Sites.{item_sites}
use Rattle.c_trees.proofs.Walking.{no_parts}
use Rattle.c_trees.proofs.walk.Walk.items.Goals as goal

pub returns : goal.returns
returns c = c.loop-item.invariant c.loop-item.self (no_parts item_expressions item_sites c.args.items.now c.loop-item.item-index c.loop-item.self c.loop-item-test.false)
