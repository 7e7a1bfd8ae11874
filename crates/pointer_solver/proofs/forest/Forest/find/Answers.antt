use Rattle.std.proofs.Common.{◌≡◌, ◌≢◌, ◌∙◌, sym, ap, subst, arith, ℕ, ◌<◌, length, set, length-set}
use Rattle.pointer_solver.specs.Forest.{up, IsForest, IsRooted}
use Rattle.pointer_solver.proofs.Trees.{halved_forest, halved_rooted, halved_fixed}
use Rattle.pointer_solver.proofs.forest.Forest.find.Goals as goal

pub climb-preserved : goal.climb-preserved
climb-preserved c =
    let p = c.climb.self.parents.items in let r = c.climb.self.ranks.items in let x = c.climb.at in
    let i = c.climb.invariant in
    let v = c.parent-above.result in
    let e : v ≡ up p (up p x) = c.parent-above.ensures ∙ ap (λ (z : ℕ). up p z) c.parent-parent.ensures in
    let n : up p x ≢ x = λ q. c.if-parent-at.false (c.parent-parent.ensures ∙ q) in
    let q : v < length p = subst (λ (w : ℕ). w < length p) (sym e) (i.forest.within (up p x) (i.forest.within x i.inside)) in
    record {
      inside = omega (arith, length-set p x v, q);
      forest = subst (λ (w : ℕ). IsForest (set p x w) r) (sym e) (halved_forest p r x i.forest i.inside n);
      ranks = i.ranks;
      len = length-set p x v ∙ i.len;
      rooted = λ root t. let s = i.rooted root t in
          (subst (λ (w : ℕ). IsRooted (set p x w) root) (sym e) (halved_rooted p r x root i.forest i.inside n s.0), ap root e ∙ s.0.step (up p x) ∙ s.0.step x ∙ s.1);
      fixed = λ z k. halved_fixed p x v n z (i.fixed z k);
    }
