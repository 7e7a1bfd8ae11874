use Rattle.std.proofs.Common.{◌≡◌, length}
use Rattle.path_tree.proofs.Chains.{Spare}
use Rattle.path_tree.proofs.Tree.new.Given as goal

-- the nodes so far are one chain of free nodes
abbrev pub invariant-loop-index : goal.invariant-loop-index
invariant-loop-index l = Spare l.nodes.items l.free × (length l.nodes.items ≡ l.index)
