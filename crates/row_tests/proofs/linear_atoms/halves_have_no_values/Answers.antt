use Rattle.std.proofs.Common.{rules, ◌≡◌, pos, negsuc, List, [], ◌∷◌, sym, subst}
use native.Mathlib.Omega.{arith}
use Rattle.cc_base.specs.Groups.{is_zero, form_of}
use Rattle.cc_base.specs.declared.forms.Multiple.{Multiple}
use Rattle.linear_solver.specs.Atoms.{FitAll, FitForm, seen_atoms}
use Rattle.linear_solver.specs.Answers.{BelowAll}
use Rattle.row_tests.proofs.linear_atoms.halves_have_no_values.Goals as goal

abbrev halves : List Multiple
halves = record { place = 0; coefficient = pos 2 } ∷ record { place = 1; coefficient = negsuc 1 } ∷ []

fits_halves : FitForm (record { constant = negsuc 0; terms = halves })
fits_halves = search rules

below_halves : BelowAll 2 (is_zero (record { constant = negsuc 0; terms = halves }) ∷ [])
unfolding form_of
below_halves = ((omega arith, (omega arith, tt)), tt)

fits : (l : List Multiple) → l ≡ halves → FitAll (is_zero (record { constant = negsuc 0; terms = l }) ∷ [])
unfolding form_of
fits l e = subst (λ m. FitAll (is_zero (record { constant = negsuc 0; terms = m }) ∷ [])) (sym e) (fits_halves, tt)

below : (l : List Multiple) → l ≡ halves → BelowAll 2 (is_zero (record { constant = negsuc 0; terms = l }) ∷ [])
unfolding form_of
below l e = subst (λ m. BelowAll 2 (is_zero (record { constant = negsuc 0; terms = m }) ∷ [])) (sym e) below_halves

pub solve_linear-requires-clause-fit : goal.solve_linear-requires-clause-fit
unfolding seen_atoms
solve_linear-requires-clause-fit g c = fits c.in_ok-terms.terms.items c.in_ok-terms.ensures.items

pub solve_linear-requires-clause-below : goal.solve_linear-requires-clause-below
unfolding seen_atoms
solve_linear-requires-clause-below g c = below c.in_ok-terms.terms.items c.in_ok-terms.ensures.items

pub solve_linear-requires-in-loop-budget-clause-fit : goal.solve_linear-requires-in-loop-budget-clause-fit
unfolding seen_atoms
solve_linear-requires-in-loop-budget-clause-fit g c = fits c.in_ok-terms.terms.items c.in_ok-terms.ensures.items

pub solve_linear-requires-in-loop-budget-clause-below : goal.solve_linear-requires-in-loop-budget-clause-below
unfolding seen_atoms
solve_linear-requires-in-loop-budget-clause-below g c = below c.in_ok-terms.terms.items c.in_ok-terms.ensures.items
