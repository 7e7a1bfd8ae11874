-- Traced runs of small programs, computed, with the forms of the crate sym_expr.
use Rattle.std.proofs.Common.{◌≡◌, ℤ, pos, negsuc, List, [], ◌∷◌, map, Some, refl}
use Rattle.cc_base.specs.declared.outcomes.Outcome.{Outcome}
use Rattle.cc_base.specs.declared.outcomes.Outcome.TheVariants.{High, Low, Plain, False, True}
use Rattle.cc_base.specs.declared.inputs.Input.{Input}
use Rattle.cc_base.specs.declared.forms.Multiple.{Multiple}
use Rattle.cc_base.specs.Forms.{Form, at_most_zero, is_zero, not_zero}
use Rattle.cc_base.specs.Limits.{Limits}
use Rattle.cc_model.specs.declared.terms.TermKind.TheVariants as kind
use Rattle.cc_model.specs.Core as tree
use Rattle.cc_model.specs.Core.{Cell, int_cell, Program, Parts}
use Rattle.cc_model.specs.Traced.{Asked, one_of, term}
use Rattle.cc_model.specs.Conditions.{events_of}
use Rattle.cc_laws.specs.LinearForms.{linear}
use Rattle.cc_laws.proofs.LinearCompute.{linear_everything}

-- what is seen of an event: its outcome and what it asks
record Ask : Type 0 where
  outcome : Outcome
  asked : Asked

asks : Program → Limits → Input → List Ask
asks p b h = map (λ a. record { outcome = (a.event).outcome; asked = (a.event).asked }) (events_of linear p b h)

unfoldable bounds : Limits
bounds = record { lo = negsuc 2147483647; hi = pos 2147483647; depth = 9; objects = 8; steps = 1000 }

-- a function of one number
unfoldable of_x : Parts → Program
of_x body = record { funcs = record { params = int_cell ∷ []; result = int_cell; body = body } ∷ []; line = λ t. 1; layouts = λ t. int_cell ∷ []; globals = []; entry = 0 }

abbrev x : tree.Val
x = tree.read (tree.local 0)

abbrev number : ℤ → tree.Val
number z = tree.number z

abbrev give : tree.Val → Parts
give a = tree.then (tree.return (Some a)) tree.finish

abbrev at_zero : ℤ → Input
at_zero z = record { cells = z ∷ []; stream = [] }

abbrev sum : ℤ → List Multiple → Form
sum z l = record { constant = z; terms = l }

abbrev of : ℤ → Multiple
of k = record { place = 0; coefficient = k }

abbrev fit : ℤ → ℤ → ℤ → ℤ → List Multiple → List Multiple → Ask
fit high low top bottom l m = record {
  outcome = Plain;
  asked = one_of (record { outcome = High; atoms = at_most_zero (sum high m) ∷ [] } ∷ record { outcome = Low; atoms = at_most_zero (sum low l) ∷ [] } ∷ record { outcome = Plain; atoms = at_most_zero (sum top l) ∷ at_most_zero (sum bottom m) ∷ [] } ∷ []);
}

plus_one : asks (of_x (give (tree.arith 1 tree.add x (number (pos 1))))) bounds (at_zero (pos 0)) ≡ fit (pos 2147483647) (pos 2147483650) (negsuc 2147483645) (negsuc 2147483648) (of (pos 1) ∷ []) (of (negsuc 0) ∷ []) ∷ []
unfolding linear_everything asks bounds of_x
plus_one = refl

-- x - x and 0 * x ask, though their forms are numbers
minus_itself : asks (of_x (give (tree.arith 1 tree.sub x x))) bounds (at_zero (pos 5)) ≡ fit (pos 2147483648) (pos 2147483649) (negsuc 2147483646) (negsuc 2147483647) [] [] ∷ []
unfolding linear_everything asks bounds of_x
minus_itself = refl

times_zero : asks (of_x (give (tree.arith 1 tree.mul (number (pos 0)) x))) bounds (at_zero (pos 5)) ≡ fit (pos 2147483648) (pos 2147483649) (negsuc 2147483646) (negsuc 2147483647) [] [] ∷ []
unfolding linear_everything asks bounds of_x
times_zero = refl

-- so does x == x, and neither outcome names a place
is_itself : asks (of_x (give (tree.truth (tree.compare 1 tree.eq x x)))) bounds (at_zero (pos 5)) ≡ record { outcome = True; asked = one_of (record { outcome = False; atoms = not_zero (sum (pos 0) []) ∷ [] } ∷ record { outcome = True; atoms = is_zero (sum (pos 0) []) ∷ [] } ∷ []) } ∷ []
unfolding linear_everything asks bounds of_x
is_itself = refl

-- 2^20 times 2^20 times x is kept; twice as much is too wide
wide_product : map (λ a. a.asked) (asks (of_x (give (tree.arith 3 tree.mul (tree.arith 2 tree.mul (tree.arith 1 tree.mul x (number (pos 1048576))) (number (pos 1048576))) (number (pos 2))))) bounds (at_zero (pos 0))) ≡
    (fit (pos 2147483648) (pos 2147483649) (negsuc 2147483646) (negsuc 2147483647) (of (pos 1048576) ∷ []) (of (negsuc 1048575) ∷ [])).asked
    ∷ (fit (pos 2147483648) (pos 2147483649) (negsuc 2147483646) (negsuc 2147483647) (of (pos 1099511627776) ∷ []) (of (negsuc 1099511627775) ∷ [])).asked
    ∷ term kind.Wide ∷ []
unfolding linear_everything asks bounds of_x
wide_product = refl
