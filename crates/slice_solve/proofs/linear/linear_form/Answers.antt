use Rattle.std.proofs.Common.{◌∙◌, subst, refl, SFits, ◌^◌}
use Rattle.std.proofs.lemmas.Int.{to_z-of_z}
use mir.Syntax.{w128}
use Rattle.linear_solver.specs.Answers.{Below}
use Rattle.slice_solve.proofs.LinearSteps.{is_linear, fits_constant}
use Rattle.slice_solve.proofs.linear.linear_form.Goals as goal

pub returns : goal.returns
returns c =
    let f : SFits w128 c.constant.result = fits_constant c.constant.result c.args.form.now c.constant.ensures.value c.constant.ensures.form in
    let e = c.in_ok-terms.ensures.made ∙ c.terms.ensures.value in
    is_linear _ c.args.sign c.args.form.now refl (to_z-of_z w128 c.constant.result f ∙ c.constant.ensures.value) e c.terms.ensures.form (subst (Below (2 ^ 32)) e c.in_ok-terms.ensures.fits)
