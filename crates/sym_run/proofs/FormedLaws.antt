-- What comes of an operation on numbers.
use Rattle.std.proofs.Common.{◌≡◌, ◌≢◌, refl, sym, ap, subst, arith, ℕ, zero, suc, ◌^◌, ◌≤◌, ℤ, pos, negsuc, ◌*ℤ◌, unsigned_abs, Bool, true, false, ◌||◌, if◌then◌else◌, List, [], ◌∷◌, Some, None, Result, Ok, Err, OkIff}
use Rattle.std.proofs.lemmas.Int.{unsigned_abs-mul}
use Rattle.std.proofs.lemmas.Nat.{mul-le}
use Rattle.std.proofs.lemmas.List.Elements.{All-head}
use Rattle.std.specs.List.{All}
use Rattle.cc_base.specs.declared.forms.Multiple.{Multiple}
use Rattle.cc_base.specs.Forms.{Form}
use Rattle.cc_model.specs.declared.terms.TermKind.TheVariants as kind
use Rattle.cc_model.specs.Core as core
use Rattle.cc_model.specs.Core.{Op}
use Rattle.cc_model.specs.Plain.{Value, num, null, at}
use Rattle.cc_model.specs.Traced.{Formed, plain_number, formed, termed, or_wide, depends, has_terms, product_of, result_of, formed_of, negated_of, form_of}
use Rattle.cc_laws.specs.LinearForms.{is_narrow, if_narrow, linear}
use Rattle.cc_laws.proofs.LinearLaws.{narrow_is}
use Rattle.sym_expr.specs.Sums.{is_zero_number, put_unless_zero, scaled, sum_of, difference_of, multiple_of_form, AllSmall, IsNarrow, IsForm}
use Rattle.sym_expr.specs.declared.forms.Wide.{Wide}
use Rattle.sym_expr.proofs.FormLaws.{NotZero}
use Rattle.sym_run.specs.declared.symbols.Symbol.{Symbol}
use Rattle.sym_run.specs.Beside.{shadow_by}
use Rattle.sym_run.specs.Numbers.{IsKept}

-- ---- what is kept

kept_if : (b : Bool) (g f : Form) → b ≡ true → f ≡ g → formed f ≡ or_wide (if b then Some g else None)
unfolding or_wide
kept_if true g f e p = ap formed p
kept_if false g f e p = absurd (cc e)

wide_if : (b : Bool) (g : Form) → (b ≡ true → ⊥) → termed kind.Wide ≡ or_wide (if b then Some g else None)
unfolding or_wide
wide_if true g h = absurd (h refl)
wide_if false g h = refl

pub wide : (g : Form) → (IsNarrow g → ⊥) → termed kind.Wide ≡ or_wide (if_narrow g)
unfolding if_narrow
wide g h = wide_if (is_narrow g) g (λ e. h ((narrow_is g).0 e))

pub made_ok : (r : Result Form Wide) (f : Form) → r ≡ Ok f → (g : Form) → OkIff r (IsNarrow g) g → formed f ≡ or_wide (if_narrow g)
unfolding if_narrow
made_ok r f e g o = let p : IsNarrow g × (f ≡ g) = subst (λ (s : Result Form Wide). OkIff s (IsNarrow g) g) e o in kept_if (is_narrow g) g f ((narrow_is g).1 p.0) p.1

pub made_err : (r : Result Form Wide) (w : Wide) → r ≡ Err w → (g : Form) → OkIff r (IsNarrow g) g → termed kind.Wide ≡ or_wide (if_narrow g)
made_err r w e g o = let p : IsNarrow g → ⊥ = subst (λ (s : Result Form Wide). OkIff s (IsNarrow g) g) e o in wide g p

kept_or_if : (b : Bool) (g : Form) → (b ≡ true → IsNarrow g) → IsKept (or_wide (if b then Some g else None))
unfolding or_wide
kept_or_if true g h = h refl
kept_or_if false g h = tt

pub kept_or_wide : (g : Form) → IsKept (or_wide (if_narrow g))
unfolding if_narrow
kept_or_wide g = kept_or_if (is_narrow g) g (λ e. (narrow_is g).0 e)

-- ---- multiples by large numbers

abbrev Small : Multiple → Type 0
Small t = unsigned_abs t.coefficient ≤ 2 ^ 40

positive : (c : ℤ) → c ≢ pos 0 → 1 ≤ unsigned_abs c
positive (pos zero) n = absurd (n refl)
positive (pos (suc m)) n = omega arith
positive (negsuc m) n = omega arith

large_product : (k c : ℤ) → 2 ^ 63 ≤ unsigned_abs k → c ≢ pos 0 → 2 ^ 63 ≤ unsigned_abs (k *ℤ c)
large_product k c h n = let e = unsigned_abs-mul k c in let m = mul-le (2 ^ 63) 1 (unsigned_abs k) (unsigned_abs c) h (positive c n) in omega (arith, e, m)

wide_head : (x : ℕ) (z : ℤ) (l : List Multiple) → 2 ^ 63 ≤ unsigned_abs z → AllSmall (put_unless_zero x z l) → ⊥
unfolding put_unless_zero is_zero_number
wide_head x (pos zero) l h s = omega (arith, h)
wide_head x (pos (suc n)) l h s = let a : suc n ≤ 2 ^ 40 = All-head Small _ l s in omega (arith, h, a)
wide_head x (negsuc n) l h s = let a : suc n ≤ 2 ^ 40 = All-head Small _ l s in omega (arith, h, a)

wide_terms : (k : ℤ) (l : List Multiple) → All NotZero l → has_terms l ≡ true → 2 ^ 63 ≤ unsigned_abs k → AllSmall (scaled k l) → ⊥
unfolding scaled has_terms
wide_terms k [] a d h s = absurd (cc d)
wide_terms k (t ∷ l) a d h s = wide_head t.place (k *ℤ t.coefficient) (scaled k l) (large_product k t.coefficient h (All-head NotZero t l a)) s

pub wide_multiple : (k : ℤ) (g : Form) → IsForm g → depends g ≡ true → 2 ^ 63 ≤ unsigned_abs k → termed kind.Wide ≡ or_wide (if_narrow (multiple_of_form k g))
unfolding multiple_of_form depends
wide_multiple k g i d h = wide (multiple_of_form k g) (λ n. wide_terms k g.terms i.not_zero d h n.coefficients)

-- ---- products

pub product_left : (d e : Bool) (a b : Form) (r : Formed) → d ≡ false → r ≡ or_wide (if_narrow (multiple_of_form a.constant b)) → r ≡ product_of linear d e a b
unfolding product_of
product_left false e a b r p q = q
product_left true e a b r p q = absurd (cc p)

pub product_right : (d e : Bool) (a b : Form) (r : Formed) → d ≡ true → e ≡ false → r ≡ or_wide (if_narrow (multiple_of_form b.constant a)) → r ≡ product_of linear d e a b
unfolding product_of
product_right true false a b r p q s = s
product_right true true a b r p q s = absurd (cc q)
product_right false e a b r p q s = absurd (cc p)

pub product_term : (d e : Bool) (a b : Form) → d ≡ true → e ≡ true → termed kind.Product ≡ product_of linear d e a b
unfolding product_of
product_term true true a b p q = refl
product_term true false a b p q = absurd (cc q)
product_term false e a b p q = absurd (cc p)

-- ---- operations

plain_if : (d : Bool) (x : Formed) → d ≡ false → plain_number ≡ (if d then x else plain_number)
plain_if false x p = refl
plain_if true x p = absurd (cc p)

neither : (d e : Bool) → d ≡ false → e ≡ false → d || e ≡ false
neither false e p q = q
neither true e p q = absurd (cc p)

result_if : (d : Bool) (x r : Formed) → d ≡ true → r ≡ x → r ≡ (if d then x else plain_number)
result_if true x r p q = q
result_if false x r p q = absurd (cc p)

pub formed_plain : (o : Op) (a b : Form) → depends a || depends b ≡ false → plain_number ≡ formed_of linear o a b
unfolding formed_of
formed_plain o a b p = plain_if (depends a || depends b) (result_of linear o a b) p

pub formed_result : (o : Op) (a b : Form) (r : Formed) → depends a || depends b ≡ true → r ≡ result_of linear o a b → r ≡ formed_of linear o a b
unfolding formed_of
formed_result o a b r p q = result_if (depends a || depends b) (result_of linear o a b) r p q

pub negated_plain : (a : Form) → depends a ≡ false → plain_number ≡ negated_of linear a
unfolding negated_of
negated_plain a p = plain_if (depends a) (or_wide (if_narrow (multiple_of_form (negsuc 0) a))) p

pub negated_multiple : (a : Form) (r : Formed) → depends a ≡ true → r ≡ or_wide (if_narrow (multiple_of_form (negsuc 0) a)) → r ≡ negated_of linear a
unfolding negated_of
negated_multiple a r p q = result_if (depends a) (or_wide (if_narrow (multiple_of_form (negsuc 0) a))) r p q

-- where no symbol stands beside a value, its number hangs on no input
zero_at : (symbols : List Symbol) (v : Value) → depends (form_of linear (shadow_by symbols 0 v)) ≡ false
unfolding depends has_terms form_of
zero_at symbols (num z) = refl
zero_at symbols null = refl
zero_at symbols (at o c) = refl

pub zero_depends : (symbols : List Symbol) (n : ℕ) (v : Value) → n ≡ 0 → depends (form_of linear (shadow_by symbols n v)) ≡ false
zero_depends symbols n v e = subst (λ (m : ℕ). depends (form_of linear (shadow_by symbols m v)) ≡ false) (sym e) (zero_at symbols v)

pub zero_neither : (symbols : List Symbol) (m n : ℕ) (v w : Value) → m ≡ 0 → n ≡ 0 → depends (form_of linear (shadow_by symbols m v)) || depends (form_of linear (shadow_by symbols n w)) ≡ false
zero_neither symbols m n v w p q = neither _ _ (zero_depends symbols m v p) (zero_depends symbols n w q)

-- ---- what comes of an operation is narrow

kept_product : (d e : Bool) (a b : Form) → IsKept (product_of linear d e a b)
unfolding product_of
kept_product true true a b = tt
kept_product true false a b = kept_or_wide (multiple_of_form b.constant a)
kept_product false e a b = kept_or_wide (multiple_of_form a.constant b)

kept_result : (o : Op) (a b : Form) → IsKept (result_of linear o a b)
unfolding result_of
kept_result core.add a b = kept_or_wide (sum_of a b)
kept_result core.sub a b = kept_or_wide (difference_of a b)
kept_result core.mul a b = kept_product (depends a) (depends b) a b
kept_result core.quot a b = tt
kept_result core.rem a b = tt

kept_choice : (d : Bool) (x : Formed) → IsKept x → IsKept (if d then x else plain_number)
kept_choice true x k = k
kept_choice false x k = tt

pub kept_formed : (o : Op) (a b : Form) → IsKept (formed_of linear o a b)
unfolding formed_of
kept_formed o a b = kept_choice (depends a || depends b) (result_of linear o a b) (kept_result o a b)

pub kept_negated : (a : Form) → IsKept (negated_of linear a)
unfolding negated_of
kept_negated a = kept_choice (depends a) (or_wide (if_narrow (multiple_of_form (negsuc 0) a))) (kept_or_wide (multiple_of_form (negsuc 0) a))
