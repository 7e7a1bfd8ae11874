use Rattle.std.proofs.Common.{◌≡◌, refl, sym, ap, subst, arith}
use Rattle.cc_base.specs.declared.outcomes.Outcome.{Outcome}
use Rattle.path_tree.specs.Branches.{Branches, HasRoom, with_least}
use Rattle.path_tree.proofs.Turns.{free_some, added, free_inside, level_inside, read, deepest_some, closed, live_few, viewed, room_for_outcome, read_wide}
use Rattle.path_tree.proofs.Tree.add_least.Goals as goal

-- what is asked, of the levels that the nodes stand for
asked : (n m : Branches) (o : Outcome) → n ≡ m → HasRoom o m.levels → HasRoom o n.levels
asked n m o e h = subst (λ (b : Branches). HasRoom o b.levels) (sym e) h

pub unwrap-level-requires : goal.unwrap-level-requires
unwrap-level-requires c =
    let h = asked _ _ _ c.self.view_is c.requires in
    deepest_some _ _ _ _ _ _ _ _ _ c.self.invariant h.2

pub unwrap-node-requires : goal.unwrap-node-requires
unwrap-node-requires c =
    let h = asked _ _ _ c.self.view_is c.requires in
    free_some _ _ _ _ _ _ _ c.self.invariant (room_for_outcome _ _ _ _ _ _ _ _ _ c.self.invariant h.2 h.3)

pub index-requires : goal.index-requires
index-requires c = omega (arith, level_inside _ _ _ _ _ _ _ _ c.self.invariant c.unwrap-level.ensures, c.self.inside.nodes.ok.0)

pub index-requires-2 : goal.index-requires-2
index-requires-2 c = omega (arith, free_inside _ _ _ _ _ _ _ _ c.self.invariant c.unwrap-node.ensures, c.self.inside.nodes.ok.0)

pub index_mut-requires : goal.index_mut-requires
index_mut-requires c = omega (arith, free_inside _ _ _ _ _ _ _ _ c.self.invariant c.unwrap-node.ensures, c.self.inside.nodes.ok.0)

pub index_mut-requires-2 : goal.index_mut-requires-2
index_mut-requires-2 c = omega (arith, level_inside _ _ _ _ _ _ _ _ c.self.invariant c.unwrap-level.ensures, c.self.inside.nodes.ok.0)

pub overflow_add-self : goal.overflow_add-self
overflow_add-self c = omega (arith, live_few _ _ _ _ _ _ _ c.self.invariant, (c.self.invariant).small)

pub invariant_of-self : goal.invariant_of-self
invariant_of-self c =
    let h = asked _ _ _ c.self.view_is c.requires in
    let one = level_inside _ _ _ _ _ _ _ _ c.self.invariant c.unwrap-level.ensures in
    let two = free_inside _ _ _ _ _ _ _ _ c.self.invariant c.unwrap-node.ensures in
    closed _ _ _ _ _ _ _
    (added _ _ _ _ _ _ _ _ _ c.index.result.now c.index-2.result.now _ c.index_mut-2.result.now _ _ c.self.invariant c.unwrap-level.ensures c.unwrap-node.ensures
    (read _ _ _ one c.index.ensures) (read _ _ _ two c.index-2.ensures) refl refl (read_wide _ _ _ _ _ one c.index_mut-2.ensures.value) refl refl h)

pub returns : goal.returns
returns c =
    let h = asked _ _ _ c.self.view_is c.requires in
    let one = level_inside _ _ _ _ _ _ _ _ c.self.invariant c.unwrap-level.ensures in
    let two = free_inside _ _ _ _ _ _ _ _ c.self.invariant c.unwrap-node.ensures in
    viewed _ _ _ _ _ _ _ _
    (added _ _ _ _ _ _ _ _ _ c.index.result.now c.index-2.result.now _ c.index_mut-2.result.now _ _ c.self.invariant c.unwrap-level.ensures c.unwrap-node.ensures
    (read _ _ _ one c.index.ensures) (read _ _ _ two c.index-2.ensures) refl refl (read_wide _ _ _ _ _ one c.index_mut-2.ensures.value) refl refl h)
    (sym (ap (λ (b : Branches). b.most) c.self.view_is)) (ap (λ (b : Branches). with_least c.args.outcome b.levels) (sym c.self.view_is))
