use Rattle.std.proofs.Common.{ap}
use Rattle.cc_base.specs.declared.outcomes.Outcome.TheVariants.{Zero}
use Rattle.path_tree.specs.Branches.{Branches}
use Rattle.path_tree.proofs.Settles.{left_room}
use Rattle.path_tree.proofs.Tree.push.Goals as goal

pub add_least-requires : goal.add_least-requires
add_least-requires c =
    left_room c.args.outcomes.now c.loop-left.left Zero _ _ c.requires.ascending c.loop-left-test.true c.loop-left.invariant.0 c.requires.few (ap (λ (b : Branches). b.levels) c.loop-left.invariant.1)
