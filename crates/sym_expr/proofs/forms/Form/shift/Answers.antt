use Rattle.std.proofs.Common.{◌≡◌, ◌∙◌, ap, rules, ℕ, ℤ, ◌+ℤ◌}
use Rattle.cc_base.specs.Forms.{Form}
use Rattle.cc_base.specs.Holds.{value_of_form}
use Rattle.sym_expr.specs.Sums.{shifted}
use Rattle.sym_expr.proofs.FormLaws.{value-shifted}
use Rattle.sym_expr.proofs.forms.Form.shift.Goals as goal

of_shifted : (r g : Form) (c : ℤ) → r ≡ shifted c g → (h : ℕ → ℤ) → value_of_form h r ≡ value_of_form h g +ℤ c
of_shifted r g c e h = ap (value_of_form h) e ∙ value-shifted h c g

pub returns-clause-values : goal.returns-clause-values
returns-clause-values c = of_shifted _ c.args.self.now c.args.c (search rules)
