use Rattle.std.proofs.Common.{subst, arith, rules, to_z, of_z, ℤ, unsigned_abs, ◌≤◌, ◌^◌}
use Rattle.std.proofs.lemmas.Int.{to_z-of_z}
use Rattle.std.specs.List.{All}
use mir.Syntax.{w128}
use Rattle.sym_expr.proofs.FormSteps.{Small, small_back, form_made, narrow_made}
use Rattle.sym_expr.proofs.forms.narrowed.Goals as goal

pub returns-then-not-all_small : goal.returns-then-not-all_small
returns-then-not-all_small c = λ n. let t = c.if-not-all_small.ensures.1 (small_back c.args.terms.now n.coefficients) in search rules

pub invariant_of-result : goal.invariant_of-result
invariant_of-result c =
    let e = to_z-of_z w128 c.args.constant c.ranges.constant in
    let n : unsigned_abs (to_z w128 (of_z w128 c.args.constant)) ≤ 2 ^ 72 = omega (arith, c.unsigned_abs.ensures.value) in
    let s : All Small c.args.terms.now = c.if-not-all_small.ensures.0 (search rules) in
    form_made c.args.constant _ c.args.terms.now c.copied.result.items e c.copied.ensures c.if-terms-gt16.false (subst (λ (z : ℤ). unsigned_abs z ≤ 2 ^ 72) e n) s c.requires.ascending c.requires.not_zero

pub returns : goal.returns
returns c =
    let e = to_z-of_z w128 c.args.constant c.ranges.constant in
    let n : unsigned_abs (to_z w128 (of_z w128 c.args.constant)) ≤ 2 ^ 72 = omega (arith, c.unsigned_abs.ensures.value) in
    let s : All Small c.args.terms.now = c.if-not-all_small.ensures.0 (search rules) in
    narrow_made c.args.constant _ c.args.terms.now c.copied.result.items e c.copied.ensures c.if-terms-gt16.false (subst (λ (z : ℤ). unsigned_abs z ≤ 2 ^ 72) e n) s
