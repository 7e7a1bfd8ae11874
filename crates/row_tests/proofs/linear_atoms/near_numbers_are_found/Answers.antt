use Rattle.std.proofs.Common.{rules, ◌≡◌, pos, negsuc, List, [], ◌∷◌, sym, ap₂, subst}
use native.Mathlib.Omega.{arith}
use Rattle.cc_base.specs.Groups.{Atom, at_most_zero, form_of}
use Rattle.cc_base.specs.declared.forms.Multiple.{Multiple}
use Rattle.linear_solver.specs.Atoms.{FitAll, FitForm, seen_atoms}
use Rattle.linear_solver.specs.Answers.{BelowAll}
use Rattle.row_tests.proofs.linear_atoms.near_numbers_are_found.Goals as goal

abbrev under : List Multiple
under = record { place = 0; coefficient = negsuc 0 } ∷ record { place = 1; coefficient = pos 1 } ∷ []

abbrev over : List Multiple
over = record { place = 0; coefficient = pos 1 } ∷ record { place = 1; coefficient = negsuc 0 } ∷ []

abbrev both : List Multiple → List Multiple → List Atom
both l m = at_most_zero (record { constant = pos 1; terms = l }) ∷ at_most_zero (record { constant = negsuc 0; terms = m }) ∷ []

fits_under : FitForm (record { constant = pos 1; terms = under })
fits_under = search rules

fits_over : FitForm (record { constant = negsuc 0; terms = over })
fits_over = search rules

fits_both : FitAll (both under over)
unfolding form_of
fits_both = (fits_under, (fits_over, tt))

below_both : BelowAll 2 (both under over)
unfolding form_of
below_both = ((omega arith, (omega arith, tt)), ((omega arith, (omega arith, tt)), tt))

fits : (l m : List Multiple) → l ≡ under → m ≡ over → FitAll (both l m)
fits l m e f = subst FitAll (sym (ap₂ both e f)) fits_both

below : (l m : List Multiple) → l ≡ under → m ≡ over → BelowAll 2 (both l m)
below l m e f = subst (BelowAll 2) (sym (ap₂ both e f)) below_both

pub solve_linear-requires-clause-fit : goal.solve_linear-requires-clause-fit
unfolding seen_atoms
solve_linear-requires-clause-fit g c = fits c.in_ok-below.below.items c.in_ok-above.above.items c.in_ok-below.ensures.items c.in_ok-above.ensures.items

pub solve_linear-requires-clause-below : goal.solve_linear-requires-clause-below
unfolding seen_atoms
solve_linear-requires-clause-below g c = below c.in_ok-below.below.items c.in_ok-above.above.items c.in_ok-below.ensures.items c.in_ok-above.ensures.items

pub solve_linear-requires-in-loop-budget-clause-fit : goal.solve_linear-requires-in-loop-budget-clause-fit
unfolding seen_atoms
solve_linear-requires-in-loop-budget-clause-fit g c = fits c.in_ok-below.below.items c.in_ok-above.above.items c.in_ok-below.ensures.items c.in_ok-above.ensures.items

pub solve_linear-requires-in-loop-budget-clause-below : goal.solve_linear-requires-in-loop-budget-clause-below
unfolding seen_atoms
solve_linear-requires-in-loop-budget-clause-below g c = below c.in_ok-below.below.items c.in_ok-above.above.items c.in_ok-below.ensures.items c.in_ok-above.ensures.items
