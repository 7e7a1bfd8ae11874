use Rattle.std.proofs.Common.{◌∙◌, sym, ap, subst, arith, ℤ, pos, ◌<ℤ◌, ◌≤ℤ◌, unsigned_abs, to_z, of_z}
use Rattle.std.proofs.lemmas.Int.{to_z-of_z, ints}
use mir.Syntax.{w128}
use Rattle.linear_solver.proofs.SideSteps.{side_none, side_lower, side_upper}
use Rattle.linear_solver.proofs.slack.side_by.Goals as goal

pub returns-then-coefficient-eq0 : goal.returns-then-coefficient-eq0
returns-then-coefficient-eq0 c = side_none c.args.coefficient (sym (to_z-of_z w128 c.args.coefficient c.ranges.coefficient) ∙ ap (to_z w128) c.if-coefficient-eq0.true)

pub returns-then-coefficient-lt0 : goal.returns-then-coefficient-lt0
returns-then-coefficient-lt0 c =
    let e = to_z-of_z w128 c.args.coefficient c.ranges.coefficient in
    let h : to_z w128 (of_z w128 c.args.coefficient) <ℤ pos 0 = omega (arith, ints, c.if-coefficient-lt0.true) in
    side_lower c.args.coefficient c.unsigned_abs.result (subst (λ (z : ℤ). z <ℤ pos 0) e h) (c.unsigned_abs.ensures.value ∙ ap unsigned_abs e)

pub returns-else-coefficient-lt0 : goal.returns-else-coefficient-lt0
returns-else-coefficient-lt0 c =
    let e = to_z-of_z w128 c.args.coefficient c.ranges.coefficient in
    let h : pos 0 ≤ℤ to_z w128 (of_z w128 c.args.coefficient) = omega (arith, ints, c.if-coefficient-lt0.false) in
    side_upper c.args.coefficient c.unsigned_abs-else-coefficient-lt0.result (λ q. c.if-coefficient-eq0.false (ap (of_z w128) q)) (subst (λ (z : ℤ). pos 0 ≤ℤ z) e h)
    (c.unsigned_abs-else-coefficient-lt0.ensures.value ∙ ap unsigned_abs e)
