use Rattle.std.proofs.Common.{◌∙◌, subst, rules, arith, SFits, ℤ, ◌≤ℤ◌, to_z, of_z}
use Rattle.std.proofs.lemmas.Int.{to_z-of_z, ints}
use mir.Syntax.{w128}
use Rattle.linear_solver.specs.Seen.{seen}
use Rattle.linear_solver.proofs.TidySteps.{lesser_first, lesser_second, most_is}
use Rattle.linear_solver.proofs.tidy.lower.Goals as goal

pub returns-then-most-i : goal.returns-then-most-i
returns-then-most-i c =
    let e = to_z-of_z w128 c.args.most c.ranges.most in
    let f : SFits w128 c.args.i.now.most = search rules in
    let g = to_z-of_z w128 c.args.i.now.most f in
    let h : to_z w128 (of_z w128 c.args.most) ≤ℤ to_z w128 (of_z w128 c.args.i.now.most) = omega (arith, ints, c.if-most-i.true) in
    most_is (seen c.args.i.now) (to_z w128 (of_z w128 c.args.most)) _ (e ∙ lesser_first c.args.most c.args.i.now.most (subst (λ (z : ℤ). c.args.most ≤ℤ z) g (subst (λ (z : ℤ). z ≤ℤ to_z w128 (of_z w128 c.args.i.now.most)) e h)))

pub returns-else-most-i : goal.returns-else-most-i
returns-else-most-i c =
    let e = to_z-of_z w128 c.args.most c.ranges.most in
    let f : SFits w128 c.args.i.now.most = search rules in
    let g = to_z-of_z w128 c.args.i.now.most f in
    let h : to_z w128 (of_z w128 c.args.i.now.most) ≤ℤ to_z w128 (of_z w128 c.args.most) = omega (arith, ints, c.if-most-i.false) in
    most_is (seen c.args.i.now) c.args.i.now.most _ (lesser_second c.args.most c.args.i.now.most (subst (λ (z : ℤ). c.args.i.now.most ≤ℤ z) e (subst (λ (z : ℤ). z ≤ℤ to_z w128 (of_z w128 c.args.most)) g h)))
