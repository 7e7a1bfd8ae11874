use Rattle.std.proofs.Common.{◌≡◌, ◌∙◌, sym, ap, ap₂, subst, arith, List, ℕ, ℤ, ◌+ℤ◌}
use Rattle.std.proofs.lemmas.Int.{ints}
use Rattle.std.specs.List.{All}
use Rattle.cc_base.specs.declared.forms.Multiple.{Multiple}
use Rattle.cc_base.specs.Holds.{value_of_form}
use Rattle.sym_expr.specs.declared.forms.FormTerm.{FormTerm}
use Rattle.sym_expr.specs.TermsSeen.{multiples_of}
use Rattle.sym_expr.specs.Sums.{Ascending, merge, sum_of, IsNarrow}
use Rattle.sym_expr.proofs.FormLaws.{NotZero, Ascending-merge, NotZero-merge, value-sum_of}
use Rattle.sym_expr.proofs.FormSteps.{Small, small_back, sum_made, ok_value}
use Rattle.sym_expr.proofs.forms.Form.add.Goals as goal

pub merged-terms-requires-clause-left : goal.merged-terms-requires-clause-left
merged-terms-requires-clause-left c = subst (λ (l : List FormTerm). All Small l) (sym c.as_slice.ensures.value) (small_back c.self.inside.terms.items c.self.invariant.coefficients)

pub merged-terms-requires-clause-right : goal.merged-terms-requires-clause-right
merged-terms-requires-clause-right c = subst (λ (l : List FormTerm). All Small l) (sym c.as_slice-2.ensures.value) (small_back c.b.inside.terms.items c.b.invariant.coefficients)

made : (s m a b p q : List FormTerm) → s ≡ m → multiples_of m ≡ merge (multiples_of a) (multiples_of b) → a ≡ p → b ≡ q → multiples_of s ≡ merge (multiples_of p) (multiples_of q)
made s m a b p q e f g h = ap multiples_of e ∙ f ∙ ap₂ (λ (x y : List FormTerm). merge (multiples_of x) (multiples_of y)) g h

pub narrowed-requires-clause-ascending : goal.narrowed-requires-clause-ascending
narrowed-requires-clause-ascending c =
    let p = c.self.inside.terms.items in let q = c.b.inside.terms.items in
    subst (λ (l : List Multiple). Ascending l) (sym (made _ _ _ _ p q c.as_slice-3.ensures.value c.merged-terms.ensures c.as_slice.ensures.value c.as_slice-2.ensures.value))
    (Ascending-merge (multiples_of p) (multiples_of q) c.self.invariant.ascending c.b.invariant.ascending)

pub narrowed-requires-clause-not_zero : goal.narrowed-requires-clause-not_zero
narrowed-requires-clause-not_zero c =
    let p = c.self.inside.terms.items in let q = c.b.inside.terms.items in
    subst (λ (l : List Multiple). All NotZero l) (sym (made _ _ _ _ p q c.as_slice-3.ensures.value c.merged-terms.ensures c.as_slice.ensures.value c.as_slice-2.ensures.value))
    (NotZero-merge (multiples_of p) (multiples_of q) c.self.invariant.not_zero c.b.invariant.not_zero)

pub returns-clause-form : goal.returns-clause-form
returns-clause-form c =
    let p = c.self.inside.terms.items in let q = c.b.inside.terms.items in
    sum_made c.narrowed.result c.args.self.now c.args.b.now c.self.inside.constant c.b.inside.constant _ p q _ c.narrowed.ensures (omega (arith, ints, c.self.invariant.number, c.b.invariant.number))
    (made _ _ _ _ p q c.as_slice-3.ensures.value c.merged-terms.ensures c.as_slice.ensures.value c.as_slice-2.ensures.value) c.self.view_is c.b.view_is

pub returns-clause-values : goal.returns-clause-values
returns-clause-values c =
    let a = c.args.self.now in let b = c.args.b.now in
    ok_value c.narrowed.result (IsNarrow (sum_of a b)) (sum_of a b) (λ g. (h : ℕ → ℤ) → value_of_form h g ≡ value_of_form h a +ℤ value_of_form h b) (returns-clause-form c) (λ h. value-sum_of h a b)
