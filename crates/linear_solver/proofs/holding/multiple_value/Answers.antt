use Rattle.std.proofs.Common.{◌∙◌, sym, ap, subst, rules, SFits, ℤ, ◌*ℤ◌, ◌≤◌, ◌^◌, unsigned_abs}
use mir.Syntax.{w32, w128}
use Rattle.linear_solver.proofs.Evaluation.{term_bound, unwrapped, value_small}
use Rattle.linear_solver.proofs.holding.multiple_value.Goals as goal

pub returns-clause-value : goal.returns-clause-value
returns-clause-value c =
    let f : SFits w128 c.args.t.coefficient = search rules in let g : SFits w32 c.value_at.result = search rules in
    unwrapped c.args.t.coefficient c.value_at.result f g c.requires ∙ ap (λ (z : ℤ). c.args.t.coefficient *ℤ z) c.value_at.ensures

pub returns-clause-bound : goal.returns-clause-bound
returns-clause-bound c =
    let f : SFits w128 c.args.t.coefficient = search rules in let g : SFits w32 c.value_at.result = search rules in
    subst (λ (z : ℤ). unsigned_abs z ≤ 2 ^ 75) (sym (unwrapped c.args.t.coefficient c.value_at.result f g c.requires)) (term_bound c.args.t.coefficient c.value_at.result c.requires (value_small c.value_at.result g))
