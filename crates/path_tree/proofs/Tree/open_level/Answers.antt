use Rattle.std.proofs.Common.{◌<◌, [], ◌∷◌, length, refl, sym, ap, subst, arith}
use Rattle.path_tree.specs.Branches.{Branches}
use Rattle.path_tree.proofs.Turns.{free_some, room_for_level, opened, free_inside, read, closed, viewed}
use Rattle.path_tree.proofs.Tree.open_level.Goals as goal

pub unwrap-level-requires : goal.unwrap-level-requires
unwrap-level-requires c =
    let lt = subst (λ (b : Branches). length b.levels < b.most) (sym c.self.view_is) c.requires in
    free_some _ _ _ _ _ _ _ c.self.invariant (room_for_level _ _ _ _ _ _ _ c.self.invariant lt)

pub index-requires : goal.index-requires
index-requires c = omega (arith, free_inside _ _ _ _ _ _ _ _ c.self.invariant c.unwrap-level.ensures, c.self.inside.nodes.ok.0)

pub index_mut-requires : goal.index_mut-requires
index_mut-requires c = omega (arith, free_inside _ _ _ _ _ _ _ _ c.self.invariant c.unwrap-level.ensures, c.self.inside.nodes.ok.0)

pub invariant_of-self : goal.invariant_of-self
invariant_of-self c =
    let lt = subst (λ (b : Branches). length b.levels < b.most) (sym c.self.view_is) c.requires in
    let inside = free_inside _ _ _ _ _ _ _ _ c.self.invariant c.unwrap-level.ensures in
    closed _ _ _ _ _ _ _ (opened _ _ _ _ _ _ _ _ c.index.result.now _ c.self.invariant c.unwrap-level.ensures (read _ _ _ inside c.index.ensures) refl refl lt)

pub returns : goal.returns
returns c =
    let lt = subst (λ (b : Branches). length b.levels < b.most) (sym c.self.view_is) c.requires in
    let inside = free_inside _ _ _ _ _ _ _ _ c.self.invariant c.unwrap-level.ensures in
    viewed _ _ _ _ _ _ _ _ (opened _ _ _ _ _ _ _ _ c.index.result.now _ c.self.invariant c.unwrap-level.ensures (read _ _ _ inside c.index.ensures) refl refl lt)
    (sym (ap (λ (b : Branches). b.most) c.self.view_is)) (ap (λ (b : Branches). [] ∷ b.levels) (sym c.self.view_is))
