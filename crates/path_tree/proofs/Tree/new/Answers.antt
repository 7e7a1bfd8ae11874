use Rattle.std.proofs.Common.{◌≡◌, ℕ, ◌+◌, ◌*◌, ◌≤◌, length, List, Some, sym, refl, ap, ◌∙◌, subst, arith}
use Rattle.std.proofs.lemmas.List.{length_push}
use Rattle.path_tree.specs.declared.Node.{Node}
use Rattle.path_tree.proofs.Chains.{Spare, spare_more, fresh}
use Rattle.path_tree.proofs.Turns.{closed}
use Rattle.path_tree.proofs.Tree.new.Goals as goal

pub loop-index-preserved : goal.loop-index-preserved
loop-index-preserved c =
    let more = spare_more _ _ _ _ c.loop-index.invariant.0 refl c.loop-index.invariant.1 in
    (subst (λ (ns : List Node). Spare ns (Some c.loop-index.index)) (sym c.in_ok-push.ensures.items) more, ap length c.in_ok-push.ensures.items ∙ length_push _ _ ∙ ap (λ (n : ℕ). n + 1) c.loop-index.invariant.1)

pub invariant_of-result : goal.invariant_of-result
invariant_of-result c =
    let wide : length c.loop-index.nodes.items ≡ 30 * (c.args.depth + 1) = omega (arith, c.loop-index.invariant.1) in
    let small : c.args.depth + 1 ≤ 1025 = omega (arith, c.requires) in
    closed _ _ _ _ _ _ _ (fresh _ _ _ c.loop-index.invariant.0 wide small)
