-- What a tree's fields stand for.
use Rattle.std.specs.Prelude.{length}
use Rattle.path_tree.specs.declared.Tree.TheInside.{Inside}
use Rattle.path_tree.specs.Branches.{Branches}
use Rattle.path_tree.specs.Nodes.{levels_up, Shows}

-- the levels that the nodes stand for
abbrev pub branches_of : Inside → Branches
branches_of a = record { most = a.most; levels = levels_up (length a.nodes.items) a.nodes.items a.deepest }

-- the nodes stand for those levels
abbrev pub IsTree : Inside → Type 0
IsTree a = Shows a.nodes.items a.deepest a.free a.most a.depth a.live (levels_up (length a.nodes.items) a.nodes.items a.deepest)
