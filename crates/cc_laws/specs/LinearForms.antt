-- The forms of traced runs: those of the crate sym_expr, whose calls refuse exactly what passes the limits of forms.
use Rattle.std.specs.Prelude.{◌^◌, Bool, true, ◌&&◌, nat_le, unsigned_abs, List, [], ◌∷◌, length, Option, Some, None, if◌then◌else◌}
use Rattle.cc_base.specs.declared.forms.Multiple.{Multiple}
use Rattle.cc_base.specs.Forms.{Form}
use Rattle.cc_model.specs.FormOperations.{Forms}
use Rattle.sym_expr.specs.Sums.{sum_of, difference_of, opposite_of, multiple_of_form, shifted, number_form, place_form}

unfoldable pub all_small : List Multiple → Bool
all_small [] = true
all_small (t ∷ l) = nat_le (unsigned_abs t.coefficient) (2 ^ 40) && all_small l

-- at most 16 terms, coefficients up to 2^40 and a constant up to 2^72 in absolute value
unfoldable pub is_narrow : Form → Bool
is_narrow g = nat_le (length g.terms) 16 && (all_small g.terms && nat_le (unsigned_abs g.constant) (2 ^ 72))

unfoldable pub if_narrow : Form → Option Form
if_narrow g = if is_narrow g then Some g else None

abbrev pub linear : Forms
linear = record {
  number = number_form;
  of = place_form;
  sum = λ a b. if_narrow (sum_of a b);
  difference = λ a b. if_narrow (difference_of a b);
  scale = λ k a. if_narrow (multiple_of_form k a);
  shift = λ g c. shifted c g;
  opposite = opposite_of;
}
