-- What events on numbers ask.
use Rattle.std.proofs.Common.{◌≡◌, ◌∙◌, refl, sym, ap, ap₂, subst, arith, Bool, true, false, ◌||◌, if◌then◌else◌, Option, Some, None, Result, Ok, Err, OkIff, IfOk}
use Rattle.std.proofs.lemmas.Int.{ints}
use Rattle.std.proofs.lemmas.List.{length-map}
use Rattle.cc_base.specs.declared.memory.NoMemory.{NoMemory}
use Rattle.cc_base.specs.Forms.{Form, is_zero, not_zero}
use Rattle.cc_model.specs.declared.terms.TermKind.TheVariants as kind
use Rattle.cc_model.specs.Core.{Cmp}
use Rattle.cc_model.specs.Traced as traced
use Rattle.cc_model.specs.Traced.{asks_nothing, one_of, term, form, depends, two_choices, compare_atom, difference_asked, numbers_asked, test_asked, divisor_asked, index_asked}
use Rattle.cc_laws.specs.LinearForms.{is_narrow, if_narrow, linear}
use Rattle.cc_laws.proofs.LinearLaws.{narrow_is}
use Rattle.sym_expr.specs.Sums.{negated, opposite_of, difference_of, IsNarrow}
use Rattle.sym_expr.specs.declared.forms.Wide.{Wide}
use Rattle.sym_expr.proofs.FormLaws.{AllSmall-negated}
use Rattle.sym_run.specs.declared.asked.Asked.{Asked}
use Rattle.sym_run.specs.Asks.{asked_of}

narrow_opposite : (g : Form) → IsNarrow g → IsNarrow (opposite_of g)
unfolding opposite_of
narrow_opposite g n = record {
  few = let e = length-map g.terms negated in let f = n.few in omega (arith, e, f);
  coefficients = AllSmall-negated g.terms n.coefficients;
  number = let h = n.number in omega (arith, ints, h);
}

pub opposite_is_narrow : (r g : Form) → r ≡ opposite_of g → IsNarrow g → IsNarrow r
opposite_is_narrow r g e n = subst (λ (f : Form). IsNarrow f) (sym e) (narrow_opposite g n)

-- the same, told in other words
pub told : (r : Result Asked NoMemory) (x y : traced.Asked) → IfOk r (λ v. asked_of v ≡ x) → x ≡ y → IfOk r (λ v. asked_of v ≡ y)
told r x y h e = subst (λ (z : traced.Asked). IfOk r (λ v. asked_of v ≡ z)) e h

asked_if : (d : Bool) (x : traced.Asked) → d ≡ true → x ≡ (if d then x else asks_nothing)
asked_if true x e = refl
asked_if false x e = absurd (cc e)

nothing_if : (d : Bool) (x : traced.Asked) → d ≡ false → asks_nothing ≡ (if d then x else asks_nothing)
nothing_if false x e = refl
nothing_if true x e = absurd (cc e)

some_if : (b : Bool) (g f : Form) → b ≡ true → f ≡ g → (if b then Some g else None) ≡ Some f
some_if true g f e p = ap (λ (x : Form). Some x) (sym p)
some_if false g f e p = absurd (cc e)

none_if : (b : Bool) (g : Form) → (b ≡ true → ⊥) → (if b then Some g else None) ≡ None
none_if true g h = absurd (h refl)
none_if false g h = refl

pub some_narrow : (r : Result Form Wide) (g f : Form) → r ≡ Ok f → OkIff r (IsNarrow g) g → if_narrow g ≡ Some f
unfolding if_narrow
some_narrow r g f e o = let p : IsNarrow g × (f ≡ g) = subst (λ (s : Result Form Wide). OkIff s (IsNarrow g) g) e o in some_if (is_narrow g) g f ((narrow_is g).1 p.0) p.1

pub none_narrow : (r : Result Form Wide) (g : Form) (w : Wide) → r ≡ Err w → OkIff r (IsNarrow g) g → if_narrow g ≡ None
unfolding if_narrow
none_narrow r g w e o = let p : IsNarrow g → ⊥ = subst (λ (s : Result Form Wide). OkIff s (IsNarrow g) g) e o in none_if (is_narrow g) g (λ t. p ((narrow_is g).0 t))

pub difference_some : (o : Cmp) (x : Option Form) (d : Form) → x ≡ Some d → one_of (two_choices (compare_atom linear o true d) (compare_atom linear o false d)) ≡ difference_asked linear o x
unfolding difference_asked
difference_some o x d e = subst (λ (y : Option Form). one_of (two_choices (compare_atom linear o true d) (compare_atom linear o false d)) ≡ difference_asked linear o y) (sym e) refl

pub difference_none : (o : Cmp) (x : Option Form) → x ≡ None → term kind.Wide ≡ difference_asked linear o x
unfolding difference_asked
difference_none o x e = subst (λ (y : Option Form). term kind.Wide ≡ difference_asked linear o y) (sym e) refl

pub numbers_difference : (o : Cmp) (a b : Form) → depends a || depends b ≡ true → difference_asked linear o (if_narrow (difference_of a b)) ≡ numbers_asked linear o a b
unfolding numbers_asked
numbers_difference o a b e = asked_if (depends a || depends b) (difference_asked linear o (if_narrow (difference_of a b))) e

pub numbers_nothing : (o : Cmp) (a b : Form) → depends a || depends b ≡ false → asks_nothing ≡ numbers_asked linear o a b
unfolding numbers_asked
numbers_nothing o a b e = nothing_if (depends a || depends b) (difference_asked linear o (if_narrow (difference_of a b))) e

pub test_depends : (g f h : Form) → depends g ≡ true → f ≡ g → h ≡ g → one_of (two_choices (not_zero f) (is_zero h)) ≡ test_asked linear (form g)
unfolding test_asked
test_depends g f h e p q = ap₂ (λ (x y : Form). one_of (two_choices (not_zero x) (is_zero y))) p q ∙ asked_if (depends g) (one_of (two_choices (not_zero g) (is_zero g))) e

pub test_nothing : (g : Form) → depends g ≡ false → asks_nothing ≡ test_asked linear (form g)
unfolding test_asked
test_nothing g e = nothing_if (depends g) (one_of (two_choices (not_zero g) (is_zero g))) e

pub divisor_term : (a b : Form) → depends a || depends b ≡ true → term kind.Quotient ≡ divisor_asked linear a b
unfolding divisor_asked
divisor_term a b e = asked_if (depends a || depends b) (term kind.Quotient) e

pub divisor_nothing : (a b : Form) → depends a || depends b ≡ false → asks_nothing ≡ divisor_asked linear a b
unfolding divisor_asked
divisor_nothing a b e = nothing_if (depends a || depends b) (term kind.Quotient) e

pub index_term : (i : Form) → depends i ≡ true → term kind.Index ≡ index_asked linear i
unfolding index_asked
index_term i e = asked_if (depends i) (term kind.Index) e

pub index_nothing : (i : Form) → depends i ≡ false → asks_nothing ≡ index_asked linear i
unfolding index_asked
index_nothing i e = nothing_if (depends i) (term kind.Index) e
