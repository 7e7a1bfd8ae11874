use Rattle.std.proofs.Common.{◌≡◌, ◌∙◌, ap, rules, ℕ, ℤ}
use Rattle.cc_base.specs.Forms.{Form}
use Rattle.cc_base.specs.Holds.{value_of_form}
use Rattle.sym_expr.specs.Sums.{place_form}
use Rattle.sym_expr.proofs.FormLaws.{value-place_form}
use Rattle.sym_expr.proofs.forms.Form.of.Goals as goal

of_place : (r : Form) (x : ℕ) → r ≡ place_form x → (h : ℕ → ℤ) → value_of_form h r ≡ h x
of_place r x e h = ap (value_of_form h) e ∙ value-place_form h x

pub returns-clause-values : goal.returns-clause-values
returns-clause-values c = of_place _ c.args.p.0 (search rules)
