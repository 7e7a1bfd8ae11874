use Rattle.std.proofs.Common.{◌∙◌, ap, ap₂, rules, SFits, Some, ℤ}
use Rattle.std.proofs.lemmas.Int.{to_z-of_z}
use mir.Syntax.{w128}
use Rattle.cc_base.specs.Witness.{smaller}
use Rattle.linear_solver.proofs.Evaluation.{with_high_none, with_high_some}
use Rattle.linear_solver.proofs.restore.lowered.Goals as goal

pub returns-in-Some : goal.returns-in-Some
returns-in-Some c =
    let f : SFits w128 c.smaller_of.result = search rules in
    let g : SFits w128 c.in-Some.y = search rules in
    ap (λ (z : ℤ). Some z) (to_z-of_z w128 c.smaller_of.result f ∙ c.smaller_of.ensures ∙ ap₂ smaller (to_z-of_z w128 c.in-Some.y g) (to_z-of_z w128 c.args.z c.ranges.z)) ∙ with_high_some c.args.high c.in-Some.y c.args.z c.in-Some.is

pub returns-in-None : goal.returns-in-None
returns-in-None c = ap (λ (z : ℤ). Some z) (to_z-of_z w128 c.args.z c.ranges.z) ∙ with_high_none c.args.high c.args.z c.in-None.is
