use Rattle.std.proofs.Common.{◌≡◌, subst, ℕ, ℤ, ◌-ℤ◌, OkIff}
use Rattle.cc_base.specs.Forms.{Form}
use Rattle.cc_base.specs.Holds.{value_of_form}
use Rattle.sym_expr.specs.Sums.{sum_of, difference_of, IsNarrow}
use Rattle.sym_expr.proofs.FormLaws.{value-difference_of}
use Rattle.sym_expr.proofs.FormSteps.{ok_value}
use Rattle.sym_expr.proofs.forms.Form.sub.Goals as goal

pub returns-clause-form : goal.returns-clause-form
unfolding difference_of
returns-clause-form c = subst (λ (g : Form). OkIff c.add.result (IsNarrow (sum_of c.args.self.now g)) (sum_of c.args.self.now g)) c.opposite.ensures.form c.add.ensures.form

pub returns-clause-values : goal.returns-clause-values
returns-clause-values c =
    let a = c.args.self.now in let b = c.args.b.now in
    ok_value c.add.result (IsNarrow (difference_of a b)) (difference_of a b) (λ g. (h : ℕ → ℤ) → value_of_form h g ≡ value_of_form h a -ℤ value_of_form h b) (returns-clause-form c) (λ h. value-difference_of h a b)
