use Rattle.std.proofs.Common.{◌≡◌, ◌∙◌, ap, List, [], ◌∷◌, ◌+◌, ◌++◌, drop}
use Rattle.linear_solver.specs.Seen.{seen, seen_all}
use Rattle.linear_solver.specs.declared.inequalities.Inequality.{Inequality}
use Rattle.linear_solver.proofs.Loops.{copied, copied_all}
use Rattle.linear_solver.proofs.inequalities.with_first.Goals as goal

started : (o p l : List Inequality) (x : Inequality) → o ≡ [] → p ≡ o ++ (x ∷ []) → seen_all p ++ seen_all l ≡ seen x ∷ seen_all l
unfolding seen_all
started o p l x e f = ap (λ (y : List Inequality). seen_all y ++ seen_all l) (f ∙ ap (λ (y : List Inequality). y ++ (x ∷ [])) e)

pub loop-i-init : goal.loop-i-init
loop-i-init c = started c.new-out.result.items c.push.new.self.items c.args.list.now c.args.first c.new-out.ensures.items c.in_ok-push.ensures.items

pub loop-i-preserved : goal.loop-i-preserved
loop-i-preserved c =
    ap (λ (y : List Inequality). seen_all y ++ seen_all (drop (c.loop-i.i-index + 1) c.args.list.now)) c.in_ok-push-2.ensures.items
    ∙ copied c.loop-i.out.items c.args.list.now c.loop-i.i-index c.i-item.result c.in_ok-copy_of.field-0 (seen c.args.first ∷ seen_all c.args.list.now) c.loop-i-test.true c.i-item.is c.in_ok-copy_of.ensures c.loop-i.invariant

pub returns : goal.returns
returns c = copied_all c.loop-i.out.items c.args.list.now c.loop-i.i-index (seen c.args.first ∷ seen_all c.args.list.now) c.loop-i-test.false c.loop-i.invariant
