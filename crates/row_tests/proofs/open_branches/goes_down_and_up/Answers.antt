use Rattle.std.proofs.Common.{ap, refl, inl, inr}
use Rattle.path_tree.specs.Branches.{Branches}
use Rattle.row_tests.proofs.open_branches.goes_down_and_up.Goals as goal

pub settle-requires : goal.settle-requires
settle-requires g c = (_, _, ap (λ (b : Branches). b.levels) c.push.ensures, inr (inl refl))
