use Rattle.std.proofs.Common.{◌∙◌, ap, ap₂, rules, SFits, Some, ℤ}
use Rattle.std.proofs.lemmas.Int.{to_z-of_z}
use mir.Syntax.{w128}
use Rattle.cc_base.specs.Witness.{larger}
use Rattle.linear_solver.proofs.Evaluation.{with_low_none, with_low_some}
use Rattle.linear_solver.proofs.restore.raised.Goals as goal

pub returns-in-Some : goal.returns-in-Some
returns-in-Some c =
    let f : SFits w128 c.larger_of.result = search rules in
    let g : SFits w128 c.in-Some.y = search rules in
    ap (λ (z : ℤ). Some z) (to_z-of_z w128 c.larger_of.result f ∙ c.larger_of.ensures ∙ ap₂ larger (to_z-of_z w128 c.in-Some.y g) (to_z-of_z w128 c.args.z c.ranges.z)) ∙ with_low_some c.args.low c.in-Some.y c.args.z c.in-Some.is

pub returns-in-None : goal.returns-in-None
returns-in-None c = ap (λ (z : ℤ). Some z) (to_z-of_z w128 c.args.z c.ranges.z) ∙ with_low_none c.args.low c.args.z c.in-None.is
