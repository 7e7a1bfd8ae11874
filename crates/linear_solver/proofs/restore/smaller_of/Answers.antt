use Rattle.std.proofs.Common.{◌∙◌, subst, arith, ℤ, ◌≤ℤ◌, to_z, of_z}
use Rattle.std.proofs.lemmas.Int.{to_z-of_z, ints}
use mir.Syntax.{w128}
use Rattle.linear_solver.proofs.Evaluation.{smaller_first, smaller_second}
use Rattle.linear_solver.proofs.restore.smaller_of.Goals as goal

pub returns-then-a-b : goal.returns-then-a-b
returns-then-a-b c =
    let e = to_z-of_z w128 c.args.a c.ranges.a in let f = to_z-of_z w128 c.args.b c.ranges.b in
    let h : to_z w128 (of_z w128 c.args.a) ≤ℤ to_z w128 (of_z w128 c.args.b) = omega (arith, ints, c.if-a-b.true) in
    to_z-of_z w128 c.args.a c.ranges.a ∙ smaller_first c.args.a c.args.b (subst (λ (z : ℤ). c.args.a ≤ℤ z) f (subst (λ (z : ℤ). z ≤ℤ to_z w128 (of_z w128 c.args.b)) e h))

pub returns-else-a-b : goal.returns-else-a-b
returns-else-a-b c =
    let e = to_z-of_z w128 c.args.a c.ranges.a in let f = to_z-of_z w128 c.args.b c.ranges.b in
    let h : to_z w128 (of_z w128 c.args.b) ≤ℤ to_z w128 (of_z w128 c.args.a) = omega (arith, ints, c.if-a-b.false) in
    to_z-of_z w128 c.args.b c.ranges.b ∙ smaller_second c.args.a c.args.b (subst (λ (z : ℤ). c.args.b ≤ℤ z) e (subst (λ (z : ℤ). z ≤ℤ to_z w128 (of_z w128 c.args.a)) f h))
