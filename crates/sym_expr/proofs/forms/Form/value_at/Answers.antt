use Rattle.std.proofs.Common.{◌∙◌, sym, ap, ap₂, subst, arith, List, ℤ, ◌+ℤ◌}
use Rattle.std.proofs.lemmas.Int.{ints, to_z-of_z}
use Rattle.std.specs.List.{All}
use mir.Syntax.{w32}
use Rattle.cc_base.specs.Places.{at_place}
use Rattle.cc_base.specs.Holds.{total, value_of_form, or_zero}
use Rattle.sym_expr.specs.declared.forms.FormTerm.{FormTerm}
use Rattle.sym_expr.specs.TermsSeen.{multiples_of}
use Rattle.sym_expr.proofs.FormSteps.{Small, small_back}
use Rattle.sym_expr.proofs.forms.Form.value_at.Goals as goal

pub total_at-requires-clause-small : goal.total_at-requires-clause-small
total_at-requires-clause-small c = subst (λ (l : List FormTerm). All Small l) (sym c.as_slice.ensures.value) (small_back c.self.inside.terms.items c.self.invariant.coefficients)

pub returns : goal.returns
unfolding value_of_form
returns c =
    let ps = c.args.places.now in let i = c.args.input.now in
    omega (arith, ints, c.self.invariant.number, c.total_at.ensures.bound)
    ∙ ap (λ (z : ℤ). c.self.inside.constant +ℤ z) (c.total_at.ensures.value ∙ ap₂ (λ (b : ℤ) (l : List FormTerm). total (or_zero (at_place ps i b)) (multiples_of l)) (to_z-of_z w32 c.args.base c.ranges.base) c.as_slice.ensures.value)
    ∙ ap (value_of_form (or_zero (at_place ps i c.args.base))) c.self.view_is
