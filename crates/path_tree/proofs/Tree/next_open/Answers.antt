use Rattle.std.proofs.Common.{subst, arith}
use Rattle.path_tree.specs.Branches.{Branches, IsLeast}
use Rattle.path_tree.proofs.Turns.{level_inside, child_inside, read, least_open}
use Rattle.path_tree.proofs.Tree.next_open.Goals as goal

pub index-requires : goal.index-requires
index-requires c = omega (arith, level_inside _ _ _ _ _ _ _ _ c.self.invariant c.in_ok-level.was, c.self.inside.nodes.ok.0)

pub index-requires-2 : goal.index-requires-2
index-requires-2 c =
    let one = level_inside _ _ _ _ _ _ _ _ c.self.invariant c.in_ok-level.was in
    omega (arith, child_inside _ _ _ _ _ _ _ _ _ _ c.self.invariant c.in_ok-level.was (read _ _ _ one c.index.ensures) c.in_ok-first.was, c.self.inside.nodes.ok.0)

pub returns-clause-least : goal.returns-clause-least
returns-clause-least c =
    let one = level_inside _ _ _ _ _ _ _ _ c.self.invariant c.in_ok-level.was in
    let two = child_inside _ _ _ _ _ _ _ _ _ _ c.self.invariant c.in_ok-level.was (read _ _ _ one c.index.ensures) c.in_ok-first.was in
    subst (λ (b : Branches). IsLeast c.index-2.result.now.outcome b.levels) c.self.view_is
    (least_open _ _ _ _ _ _ _ _ _ _ _ c.self.invariant c.in_ok-level.was (read _ _ _ one c.index.ensures) c.in_ok-first.was (read _ _ _ two c.index-2.ensures))
