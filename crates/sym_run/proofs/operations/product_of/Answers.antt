use Rattle.std.proofs.Common.{◌∙◌, sym, ap, rules, SFits, ℤ}
use Rattle.cc_model.specs.Traced.{or_wide, depends}
use Rattle.cc_laws.specs.LinearForms.{if_narrow}
use Rattle.sym_expr.specs.Sums.{multiple_of_form}
use Rattle.std.proofs.lemmas.Int.{to_z-of_z}
use mir.Syntax.{w128}
use Rattle.sym_run.proofs.FormedLaws.{product_left, product_right, product_term}
use Rattle.sym_run.proofs.operations.product_of.Goals as goal

pub returns-then-not-depends : goal.returns-then-not-depends
returns-then-not-depends c =
    let f : SFits w128 c.constant.result = search rules in
    product_left (depends c.args.a.now) (depends c.args.b.now) c.args.a.now c.args.b.now _ (sym c.depends.ensures.value ∙ c.if-not-depends.true)
    (c.multiple_of.ensures ∙ ap (λ (z : ℤ). or_wide (if_narrow (multiple_of_form z c.args.b.now))) (to_z-of_z w128 c.constant.result f ∙ c.constant.ensures.value))

pub returns-then-depends : goal.returns-then-depends
returns-then-depends c =
    product_term (depends c.args.a.now) (depends c.args.b.now) c.args.a.now c.args.b.now (sym c.depends.ensures.value ∙ c.if-not-depends.false) (sym c.depends-2.ensures.value ∙ c.if-depends.true)

pub returns : goal.returns
returns c =
    let f : SFits w128 c.constant-2.result = search rules in
    product_right (depends c.args.a.now) (depends c.args.b.now) c.args.a.now c.args.b.now _ (sym c.depends.ensures.value ∙ c.if-not-depends.false) (sym c.depends-2.ensures.value ∙ c.if-depends.false)
    (c.multiple_of-2.ensures ∙ ap (λ (z : ℤ). or_wide (if_narrow (multiple_of_form z c.args.a.now))) (to_z-of_z w128 c.constant-2.result f ∙ c.constant-2.ensures.value))
