use Rattle.std.proofs.Common.{sym, subst, refl, arith, List}
use Rattle.std.proofs.lemmas.Int.{ints}
use Rattle.std.specs.List.{All}
use Rattle.cc_base.specs.Forms.{Form}
use Rattle.sym_expr.specs.declared.forms.FormTerm.{FormTerm}
use Rattle.sym_expr.specs.TermsSeen.{multiples_of}
use Rattle.sym_expr.specs.Sums.{form_with, IsForm}
use Rattle.sym_expr.proofs.FormSteps.{Small, small_back, opposite_form, opposite_made, of_opposite}
use Rattle.sym_expr.proofs.forms.Form.opposite.Goals as goal

pub negated_terms-requires-clause-small : goal.negated_terms-requires-clause-small
negated_terms-requires-clause-small c = subst (λ (l : List FormTerm). All Small l) (sym c.as_slice.ensures.value) (small_back c.self.inside.terms.items c.self.invariant.coefficients)

pub invariant_of-result : goal.invariant_of-result
invariant_of-result c =
    let x = c.self.inside.constant in let p = c.self.inside.terms.items in
    let g = form_with x (multiples_of p) in
    subst (λ (f : Form). IsForm f) (sym (opposite_made g x _ p c.as_slice.result.now c.negated_terms.result.items (omega (arith, ints, c.self.invariant.number)) c.negated_terms.ensures c.as_slice.ensures.value refl)) (opposite_form g c.self.invariant)

pub returns-clause-form : goal.returns-clause-form
returns-clause-form c =
    opposite_made c.args.self.now c.self.inside.constant _ c.self.inside.terms.items c.as_slice.result.now c.negated_terms.result.items (omega (arith, ints, c.self.invariant.number)) c.negated_terms.ensures c.as_slice.ensures.value c.self.view_is

pub returns-clause-values : goal.returns-clause-values
returns-clause-values c = of_opposite _ c.args.self.now (returns-clause-form c)
