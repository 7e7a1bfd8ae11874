use Rattle.std.proofs.Common.{◌∙◌, ap, ap₂, SFits, rules, ℤ, ◌*ℤ◌}
use Rattle.std.proofs.lemmas.Int.{to_z-of_z}
use mir.Syntax.{w128}
use Rattle.cc_base.specs.Inequality.{scaled_term}
use Rattle.cc_base.specs.declared.forms.Multiple.{Multiple}
use Rattle.linear_solver.proofs.merging.multiple.Goals as goal

pub returns : goal.returns
unfolding scaled_term
returns c =
    let f : SFits w128 c.product.result = search rules in
    let g : SFits w128 c.args.t.coefficient = search rules in
    ap (λ (z : ℤ). let r : Multiple = record { place = c.args.t.place; coefficient = z } in r) (to_z-of_z w128 c.product.result f ∙ c.product.ensures.value ∙ ap₂ (λ (y z : ℤ). y *ℤ z) (to_z-of_z w128 c.args.c c.ranges.c) (to_z-of_z w128 c.args.t.coefficient g))
