use Rattle.std.proofs.Common.{◌≡◌, ◌∙◌, ap, rules, ℕ, ℤ}
use Rattle.cc_base.specs.Forms.{Form}
use Rattle.cc_base.specs.Holds.{value_of_form}
use Rattle.sym_expr.specs.Sums.{number_form}
use Rattle.sym_expr.proofs.FormLaws.{value-number_form}
use Rattle.sym_expr.proofs.forms.Form.number.Goals as goal

of_number : (r : Form) (z : ℤ) → r ≡ number_form z → (h : ℕ → ℤ) → value_of_form h r ≡ z
of_number r z e h = ap (value_of_form h) e ∙ value-number_form h z

pub returns-clause-values : goal.returns-clause-values
returns-clause-values c = of_number _ c.args.c (search rules)
