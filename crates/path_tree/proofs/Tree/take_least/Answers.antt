use Rattle.std.proofs.Common.{◌≡◌, ◌∷◌, refl, sym, ap, ◌∙◌, subst, arith}
use Rattle.cc_base.specs.declared.outcomes.Outcome.{Outcome}
use Rattle.path_tree.specs.declared.Node.{Node}
use Rattle.path_tree.specs.Branches.{Branches, IsSomeOpen, Below}
use Rattle.path_tree.proofs.Turns.{taken, level_inside, child_inside, read, deepest_some, child_some, closed, viewed, read_wide, live_some, least_fits}
use Rattle.path_tree.proofs.Tree.take_least.Goals as goal

-- what is asked, of the levels that the nodes stand for
asked : (n m : Branches) → n ≡ m → IsSomeOpen m.levels → IsSomeOpen n.levels
asked n m e h = subst (λ (b : Branches). IsSomeOpen b.levels) (sym e) h

pub unwrap-level-requires : goal.unwrap-level-requires
unwrap-level-requires c = deepest_some _ _ _ _ _ _ _ _ _ c.self.invariant (asked _ _ c.self.view_is c.requires).3

pub index-requires : goal.index-requires
index-requires c = omega (arith, level_inside _ _ _ _ _ _ _ _ c.self.invariant c.unwrap-level.ensures, c.self.inside.nodes.ok.0)

pub unwrap-node-requires : goal.unwrap-node-requires
unwrap-node-requires c =
    let one = level_inside _ _ _ _ _ _ _ _ c.self.invariant c.unwrap-level.ensures in
    child_some _ _ _ _ _ _ _ _ _ _ _ _ c.self.invariant c.unwrap-level.ensures (read _ _ _ one c.index.ensures) (asked _ _ c.self.view_is c.requires).3

pub index-requires-2 : goal.index-requires-2
index-requires-2 c =
    let one = level_inside _ _ _ _ _ _ _ _ c.self.invariant c.unwrap-level.ensures in
    omega (arith, child_inside _ _ _ _ _ _ _ _ _ _ c.self.invariant c.unwrap-level.ensures (read _ _ _ one c.index.ensures) c.unwrap-node.ensures, c.self.inside.nodes.ok.0)

pub index-requires-3 : goal.index-requires-3
index-requires-3 c =
    let one = level_inside _ _ _ _ _ _ _ _ c.self.invariant c.unwrap-level.ensures in
    omega (arith, child_inside _ _ _ _ _ _ _ _ _ _ c.self.invariant c.unwrap-level.ensures (read _ _ _ one c.index.ensures) c.unwrap-node.ensures, c.self.inside.nodes.ok.0)

pub index_mut-requires : goal.index_mut-requires
index_mut-requires c = omega (arith, level_inside _ _ _ _ _ _ _ _ c.self.invariant c.unwrap-level.ensures, c.self.inside.nodes.ok.0)

pub index_mut-requires-2 : goal.index_mut-requires-2
index_mut-requires-2 c =
    let one = level_inside _ _ _ _ _ _ _ _ c.self.invariant c.unwrap-level.ensures in
    omega (arith, child_inside _ _ _ _ _ _ _ _ _ _ c.self.invariant c.unwrap-level.ensures (read _ _ _ one c.index.ensures) c.unwrap-node.ensures, c.self.inside.nodes.ok.0)

pub overflow_sub-self : goal.overflow_sub-self
overflow_sub-self c = live_some _ _ _ _ _ _ _ _ _ _ c.self.invariant (asked _ _ c.self.view_is c.requires).3

pub invariant_of-self : goal.invariant_of-self
invariant_of-self c =
    let one = level_inside _ _ _ _ _ _ _ _ c.self.invariant c.unwrap-level.ensures in
    let two = child_inside _ _ _ _ _ _ _ _ _ _ c.self.invariant c.unwrap-level.ensures (read _ _ _ one c.index.ensures) c.unwrap-node.ensures in
    let same = read _ _ _ one c.index.ensures ∙ sym (read _ _ _ one c.index_mut.ensures.value) in
    closed _ _ _ _ _ _ _
    (taken _ _ _ _ _ _ _ _ _ c.index.result.now c.index-3.result.now _ c.index_mut-2.result.now _ _ _ _ c.self.invariant c.unwrap-level.ensures
    (read _ _ _ one c.index.ensures) c.unwrap-node.ensures (read _ _ _ two c.index-3.ensures) refl (sym (ap (λ (x : Node). x.parent) same)) (read_wide _ _ _ _ _ two c.index_mut-2.ensures.value) refl (asked _ _ c.self.view_is c.requires).3).0

pub returns : goal.returns
returns c =
    let h = asked _ _ c.self.view_is c.requires in
    let one = level_inside _ _ _ _ _ _ _ _ c.self.invariant c.unwrap-level.ensures in
    let two = child_inside _ _ _ _ _ _ _ _ _ _ c.self.invariant c.unwrap-level.ensures (read _ _ _ one c.index.ensures) c.unwrap-node.ensures in
    let same = read _ _ _ one c.index.ensures ∙ sym (read _ _ _ one c.index_mut.ensures.value) in
    let all = taken _ _ _ _ _ _ _ _ _ c.index.result.now c.index-3.result.now _ c.index_mut-2.result.now _ _ _ _ c.self.invariant c.unwrap-level.ensures
    (read _ _ _ one c.index.ensures) c.unwrap-node.ensures (read _ _ _ two c.index-3.ensures) refl (sym (ap (λ (x : Node). x.parent) same)) (read_wide _ _ _ _ _ two c.index_mut-2.ensures.value) refl h.3 in
    let out : c.index-2.result.now.outcome ≡ h.0 = ap (λ (x : Node). x.outcome) (read _ _ _ two c.index-2.ensures ∙ sym (read _ _ _ two c.index-3.ensures)) ∙ all.1 in
    let fits = least_fits _ _ _ _ _ _ _ _ _ _ c.self.invariant h.3 in (
      h.1,
      h.2,
      ap (λ (b : Branches). b.levels) (sym c.self.view_is) ∙ h.3 ∙ ap (λ (o : Outcome). (o ∷ h.1) ∷ h.2) (sym out),
      viewed _ _ _ _ _ _ _ _ all.0 (sym (ap (λ (b : Branches). b.most) c.self.view_is)) refl,
      fits.0,
      subst (λ (o : Outcome). Below o h.1) (sym out) fits.1,
    )
