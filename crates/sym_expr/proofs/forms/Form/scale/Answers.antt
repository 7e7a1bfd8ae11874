use Rattle.std.proofs.Common.{◌≡◌, ◌∙◌, sym, ap, ap₂, subst, rules, List, ℕ, ℤ, ◌*ℤ◌, ◌<◌, ◌^◌, unsigned_abs, SFits, to_z, of_z, Result, Ok, Err, OkIff, IsErr}
use Rattle.std.proofs.lemmas.Int.{to_z-of_z}
use Rattle.std.specs.List.{All}
use mir.Syntax.{w64, w128}
use Rattle.cc_base.specs.declared.forms.Multiple.{Multiple}
use Rattle.cc_base.specs.Forms.{Form}
use Rattle.cc_base.specs.Holds.{value_of_form}
use Rattle.sym_expr.specs.declared.forms.FormTerm.{FormTerm}
use Rattle.sym_expr.specs.TermsSeen.{multiples_of}
use Rattle.sym_expr.specs.declared.forms.Wide.{Wide}
use Rattle.sym_expr.specs.Sums.{Ascending, AllSmall, scaled, multiple_of_form, IsNarrow}
use Rattle.sym_expr.proofs.FormLaws.{NotZero, Ascending-scaled, NotZero-scaled, value-multiple_of_form}
use Rattle.sym_expr.proofs.FormSteps.{multiple_made, constant_wide, terms_wide, ok_value}
use Rattle.sym_expr.proofs.forms.Form.scale.Goals as goal

err_iff : (r : Result Form Wide) (P : Type 0) (v : Form) → IsErr r → (P → ⊥) → OkIff r P v
err_iff (Ok x) P v e n = absurd (cc e)
err_iff (Err x) P v e n = n

module _ (k x : ℤ) (f : SFits w64 k) (g : SFits w128 x) where
  product_plain : to_z w64 (of_z w64 k) *ℤ to_z w128 (of_z w128 x) ≡ k *ℤ x
  product_plain = ap₂ (λ (y z : ℤ). y *ℤ z) (to_z-of_z w64 k f) (to_z-of_z w128 x g)

scaled_plain : (k : ℤ) (f : SFits w64 k) (s m p q : List FormTerm) → s ≡ m → multiples_of m ≡ scaled (to_z w64 (of_z w64 k)) (multiples_of p) → p ≡ q → multiples_of s ≡ scaled k (multiples_of q)
scaled_plain k f s m p q e g h = ap multiples_of e ∙ g ∙ ap₂ (λ (y : ℤ) (l : List FormTerm). scaled y (multiples_of l)) (to_z-of_z w64 k f) h

pub returns-in_default-clause-form : goal.returns-in_default-clause-form
returns-in_default-clause-form c =
    let x = c.self.inside.constant in
    let g : SFits w128 x = search rules in
    constant_wide c.args.self.now c.args.k x c.self.inside.terms.items c.self.view_is
    (subst (λ (z : ℤ). 2 ^ 72 < unsigned_abs z) (product_plain c.args.k x c.ranges.k g) c.in_default.ensures.none)

pub returns-in_err-terms-clause-form : goal.returns-in_err-terms-clause-form
returns-in_err-terms-clause-form c =
    let p = c.self.inside.terms.items in
    err_iff c.from_residual.result _ _ c.from_residual.ensures.0
    (terms_wide c.args.self.now c.args.k c.self.inside.constant p c.self.view_is
    (subst (λ (l : List Multiple). AllSmall l → ⊥) (ap₂ (λ (y : ℤ) (l : List FormTerm). scaled y (multiples_of l)) (to_z-of_z w64 c.args.k c.ranges.k) c.as_slice.ensures.value) c.in_err-terms.ensures.wide))

pub narrowed-requires-clause-ascending : goal.narrowed-requires-clause-ascending
narrowed-requires-clause-ascending c =
    let p = c.self.inside.terms.items in
    subst (λ (l : List Multiple). Ascending l) (sym (scaled_plain c.args.k c.ranges.k _ _ _ p c.as_slice-2.ensures.value c.in_ok-terms.ensures.ok c.as_slice.ensures.value))
    (Ascending-scaled c.args.k (multiples_of p) c.self.invariant.ascending)

pub narrowed-requires-clause-not_zero : goal.narrowed-requires-clause-not_zero
narrowed-requires-clause-not_zero c =
    let p = c.self.inside.terms.items in
    subst (λ (l : List Multiple). All NotZero l) (sym (scaled_plain c.args.k c.ranges.k _ _ _ p c.as_slice-2.ensures.value c.in_ok-terms.ensures.ok c.as_slice.ensures.value))
    (NotZero-scaled c.args.k (multiples_of p))

pub returns-clause-form : goal.returns-clause-form
returns-clause-form c =
    let p = c.self.inside.terms.items in let x = c.self.inside.constant in
    let g : SFits w128 x = search rules in
    let f : SFits w128 c.in-Some.constant = search rules in
    multiple_made c.narrowed.result c.args.self.now c.args.k x _ p _ c.narrowed.ensures (to_z-of_z w128 c.in-Some.constant f ∙ c.in-Some.ensures.some ∙ product_plain c.args.k x c.ranges.k g)
    (scaled_plain c.args.k c.ranges.k _ _ _ p c.as_slice-2.ensures.value c.in_ok-terms.ensures.ok c.as_slice.ensures.value) c.self.view_is

pub returns-clause-values : goal.returns-clause-values
returns-clause-values c =
    let g = c.args.self.now in let k = c.args.k in
    ok_value c.narrowed.result (IsNarrow (multiple_of_form k g)) (multiple_of_form k g) (λ f. (h : ℕ → ℤ) → value_of_form h f ≡ k *ℤ value_of_form h g) (returns-clause-form c) (λ h. value-multiple_of_form h k g)
