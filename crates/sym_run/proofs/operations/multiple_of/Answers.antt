use Rattle.std.proofs.Common.{◌≡◌, ◌∙◌, ap, arith, ◌≤◌, ◌<◌, ◌^◌, ℤ, unsigned_abs, to_z, of_z}
use Rattle.std.proofs.lemmas.Int.{to_z-of_z, fits_signed_from_abs}
use mir.Syntax.{w64, w128}
use Rattle.cc_model.specs.Traced.{or_wide}
use Rattle.cc_laws.specs.LinearForms.{if_narrow}
use Rattle.sym_expr.specs.Sums.{multiple_of_form}
use Rattle.sym_run.proofs.FormedLaws.{wide_multiple}
use Rattle.sym_run.proofs.operations.multiple_of.Goals as goal

pub returns-then-unsigned_abs-ge-FACTOR_LIMIT : goal.returns-then-unsigned_abs-ge-FACTOR_LIMIT
returns-then-unsigned_abs-ge-FACTOR_LIMIT c =
    let e : c.unsigned_abs.result ≡ unsigned_abs c.args.factor = c.unsigned_abs.ensures.value ∙ ap unsigned_abs (to_z-of_z w128 c.args.factor c.ranges.factor) in
    let h : 2 ^ 63 ≤ unsigned_abs c.args.factor = omega (arith, e, c.if-unsigned_abs-ge-FACTOR_LIMIT.true) in
    wide_multiple c.args.factor c.args.form.now c.requires.form c.requires.depends h

pub returns : goal.returns
returns c =
    let k = c.args.factor in
    let e : to_z w128 (of_z w128 k) ≡ k = to_z-of_z w128 k c.ranges.factor in
    let u : c.unsigned_abs.result ≡ unsigned_abs k = c.unsigned_abs.ensures.value ∙ ap unsigned_abs e in
    let h : unsigned_abs k < 2 ^ 63 = omega (arith, u, c.if-unsigned_abs-ge-FACTOR_LIMIT.false) in
    let f : to_z w64 (of_z w64 (to_z w128 (of_z w128 k))) ≡ k = ap (λ (z : ℤ). to_z w64 (of_z w64 z)) e ∙ to_z-of_z w64 k (fits_signed_from_abs w64 k h) in
    c.or_wide.ensures _ c.scale.ensures.form ∙ ap (λ (z : ℤ). or_wide (if_narrow (multiple_of_form z c.args.form.now))) f
