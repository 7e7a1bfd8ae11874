use Rattle.std.proofs.Common.{◌≡◌, map, take}
use Rattle.cc_model.specs.CheckedProgram.{site_of}
use Rattle.c_trees.specs.Walks.{mark}
use Rattle.c_types.proofs.sites.sites_at.Given as goal

abbrev pub invariant-loop-mark : goal.invariant-loop-mark
invariant-loop-mark l = l.sites ≡ map (λ m. site_of l.tokens (mark m)) (take l.mark-index l.marks)
