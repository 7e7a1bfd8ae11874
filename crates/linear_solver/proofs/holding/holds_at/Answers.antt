use Rattle.std.proofs.Common.{◌≡◌, ◌∙◌, sym, subst, refl, rules, ℕ, ℤ, pos, ◌≤ℤ◌, ◌↔◌, Bool, true, false, not, SFits, to_z, of_z}
use Rattle.std.proofs.lemmas.Int.{to_z-of_z}
use mir.Syntax.{w128}
use Rattle.cc_base.specs.Groups.{Form, Holds, value}
use Rattle.linear_solver.specs.declared.atoms.Sign.{Sign}
use Rattle.linear_solver.specs.declared.atoms.Sign.TheVariants.{AtMostZero, Zero, NotZero}
use Rattle.linear_solver.specs.Atoms.{seen_form, atom_of}
use Rattle.linear_solver.specs.Seen.{at_places}
use Rattle.linear_solver.proofs.holding.holds_at.Goals as goal

most_holds : (v : ℕ → ℤ) (s : Sign) (g : Form) (z : ℤ) (b : Bool) → s ≡ AtMostZero → z ≡ value v g → ((b ≡ true) ↔ (z ≤ℤ pos 0)) → (b ≡ true) ↔ Holds v (atom_of s g)
most_holds v AtMostZero g z b e f h = ((λ t. subst (λ (y : ℤ). y ≤ℤ pos 0) f (h.0 t)), (λ m. h.1 (subst (λ (y : ℤ). y ≤ℤ pos 0) (sym f) m)))
most_holds v Zero g z b e f h = absurd (cc e)
most_holds v NotZero g z b e f h = absurd (cc e)

zero_holds : (v : ℕ → ℤ) (s : Sign) (g : Form) (z : ℤ) (b : Bool) → s ≡ Zero → z ≡ value v g → ((b ≡ true) ↔ (z ≡ pos 0)) → (b ≡ true) ↔ Holds v (atom_of s g)
zero_holds v AtMostZero g z b e f h = absurd (cc e)
zero_holds v Zero g z b e f h = ((λ t. sym f ∙ h.0 t), (λ m. h.1 (f ∙ m)))
zero_holds v NotZero g z b e f h = absurd (cc e)

not_is : (b : Bool) → not b ≡ true → b ≡ true → ⊥
not_is true e f = cc e
not_is false e f = cc f

is_not : (b : Bool) → (b ≡ true → ⊥) → not b ≡ true
is_not true n = absurd (n refl)
is_not false n = refl

other_holds : (v : ℕ → ℤ) (s : Sign) (g : Form) (z : ℤ) (b : Bool) → s ≡ NotZero → z ≡ value v g → ((b ≡ true) ↔ (z ≡ pos 0)) → (not b ≡ true) ↔ Holds v (atom_of s g)
other_holds v AtMostZero g z b e f h = absurd (cc e)
other_holds v Zero g z b e f h = absurd (cc e)
other_holds v NotZero g z b e f h = ((λ t m. not_is b t (h.1 (f ∙ m))), (λ m. is_not b (λ t. m (sym f ∙ h.0 t))))

pub returns-in-AtMostZero : goal.returns-in-AtMostZero
returns-in-AtMostZero c =
    let f : SFits w128 c.form_value-z.result = search rules in
    most_holds (at_places c.args.values.now) c.args.a.now.sign (seen_form c.args.a.now) (to_z w128 (of_z w128 c.form_value-z.result)) c.is_at_most_zero.result c.in-AtMostZero.is (to_z-of_z w128 c.form_value-z.result f ∙ c.form_value-z.ensures) c.is_at_most_zero.ensures

pub returns-in-Zero : goal.returns-in-Zero
returns-in-Zero c =
    let f : SFits w128 c.form_value-z.result = search rules in
    zero_holds (at_places c.args.values.now) c.args.a.now.sign (seen_form c.args.a.now) (to_z w128 (of_z w128 c.form_value-z.result)) c.is_zero.result c.in-Zero.is (to_z-of_z w128 c.form_value-z.result f ∙ c.form_value-z.ensures) c.is_zero.ensures

pub returns-in-NotZero : goal.returns-in-NotZero
returns-in-NotZero c =
    let f : SFits w128 c.form_value-z.result = search rules in
    other_holds (at_places c.args.values.now) c.args.a.now.sign (seen_form c.args.a.now) (to_z w128 (of_z w128 c.form_value-z.result)) c.is_zero-in-NotZero.result c.in-NotZero.is (to_z-of_z w128 c.form_value-z.result f ∙ c.form_value-z.ensures) c.is_zero-in-NotZero.ensures
