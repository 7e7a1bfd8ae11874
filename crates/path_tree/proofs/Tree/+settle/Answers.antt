use Rattle.path_tree.proofs.Settles.{settled_room, open_some}
use Rattle.path_tree.proofs.Tree.+settle.Goals as goal

pub take_least-least-requires : goal.take_least-least-requires
take_least-least-requires t c = open_some _ _ c.requires

pub add_least-requires : goal.add_least-requires
add_least-requires t c = settled_room _ _ _ _ _ c.take_least-least.ensures c.settle.ensures.settled
