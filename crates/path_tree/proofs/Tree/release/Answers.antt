use Rattle.std.proofs.Common.{◌≡◌, ℕ, List, [], ◌∷◌, length, refl, sym, ap, ap₂, ◌∙◌, subst, arith}
use Rattle.cc_base.specs.declared.outcomes.Outcome.{Outcome}
use Rattle.path_tree.specs.Branches.{Branches, IsOver}
use Rattle.path_tree.proofs.Chains.{shown}
use Rattle.path_tree.proofs.Turns.{removed, level_inside, read, deepest_some, closed}
use Rattle.path_tree.proofs.Tree.release.Goals as goal

-- what is asked, of the levels that the nodes stand for
asked : (n m : Branches) → n ≡ m → IsOver m.levels → IsOver n.levels
asked n m e h = subst (λ (b : Branches). IsOver b.levels) (sym e) h

pub unwrap-level-requires : goal.unwrap-level-requires
unwrap-level-requires c = deepest_some _ _ _ _ _ _ _ _ _ c.self.invariant (asked _ _ c.self.view_is c.requires).1

pub index-requires : goal.index-requires
index-requires c = omega (arith, level_inside _ _ _ _ _ _ _ _ c.self.invariant c.unwrap-level.ensures, c.self.inside.nodes.ok.0)

pub index_mut-requires : goal.index_mut-requires
index_mut-requires c = omega (arith, level_inside _ _ _ _ _ _ _ _ c.self.invariant c.unwrap-level.ensures, c.self.inside.nodes.ok.0)

pub overflow_sub-self : goal.overflow_sub-self
overflow_sub-self c =
    let h = asked _ _ c.self.view_is c.requires in
    omega (arith, ap length h.1, (c.self.invariant).deep)

pub invariant_of-self : goal.invariant_of-self
invariant_of-self c =
    let one = level_inside _ _ _ _ _ _ _ _ c.self.invariant c.unwrap-level.ensures in
    closed _ _ _ _ _ _ _ (removed _ _ _ _ _ _ _ _ c.index.result.now _ _ c.self.invariant c.unwrap-level.ensures (read _ _ _ one c.index.ensures) refl (asked _ _ c.self.view_is c.requires).1)

pub returns : goal.returns
returns c =
    let h = asked _ _ c.self.view_is c.requires in
    let one = level_inside _ _ _ _ _ _ _ _ c.self.invariant c.unwrap-level.ensures in
    let all = removed _ _ _ _ _ _ _ _ c.index.result.now _ _ c.self.invariant c.unwrap-level.ensures (read _ _ _ one c.index.ensures) refl h.1 in
    let most = ap (λ (b : Branches). b.most) c.self.view_is in
    ap₂ (λ (x : ℕ) (y : List (List Outcome)). (let r : Branches = record { most = x; levels = y } in r)) (sym most)
    (ap (λ (b : Branches). b.levels) (sym c.self.view_is) ∙ h.1 ∙ ap (λ (l : List (List Outcome)). [] ∷ l) (sym (shown _ _ _ _ _ _ _ all)))
