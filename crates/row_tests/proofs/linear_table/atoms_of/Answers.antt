use Rattle.std.proofs.Common.{◌≡◌, sym, subst, List, [], ◌∷◌, ◌++◌, map}
use Rattle.cc_base.specs.Groups.{Form}
use Rattle.linear_solver.specs.declared.atoms.LinearAtom.{LinearAtom}
use Rattle.linear_solver.specs.Answers.{Below, BelowAll}
use Rattle.linear_solver.specs.Atoms.{seen_form, seen_atom, seen_atoms, FitForm, FitAll}
use Rattle.linear_solver.proofs.Writing.{seen_form_is}
use Rattle.row_tests.proofs.linear_table.atoms_of.Goals as goal

no_fit : (l : List LinearAtom) → l ≡ [] → FitAll (seen_atoms l)
unfolding seen_atoms
no_fit l e = subst (λ (m : List LinearAtom). FitAll (map seen_atom m)) (sym e) tt

no_below : (l : List LinearAtom) → l ≡ [] → BelowAll 3 (seen_atoms l)
unfolding seen_atoms
no_below l e = subst (λ (m : List LinearAtom). BelowAll 3 (map seen_atom m)) (sym e) tt

more_fit : (l : List LinearAtom) (a : LinearAtom) → FitAll (seen_atoms l) → FitForm (seen_form a) → FitAll (seen_atoms (l ++ (a ∷ [])))
unfolding seen_atoms
more_fit [] a f g = (subst FitForm (sym (seen_form_is a)) g, tt)
more_fit (b ∷ l) a f g = (f.0, more_fit l a f.1 g)

more_below : (l : List LinearAtom) (a : LinearAtom) → BelowAll 3 (seen_atoms l) → Below 3 (seen_form a).terms → BelowAll 3 (seen_atoms (l ++ (a ∷ [])))
unfolding seen_atoms
more_below [] a f g = (subst (λ (h : Form). Below 3 h.terms) (sym (seen_form_is a)) g, tt)
more_below (b ∷ l) a f g = (f.0, more_below l a f.1 g)

pub atoms-init : goal.atoms-init
atoms-init c = record {
  fit = no_fit c.new-atoms.result.items c.new-atoms.ensures.items;
  below = no_below c.new-atoms.result.items c.new-atoms.ensures.items;
}

pub atoms-preserved : goal.atoms-preserved
atoms-preserved c = record {
  fit = subst (λ (l : List LinearAtom). FitAll (seen_atoms l)) (sym c.in_ok-push.ensures.items) (more_fit c.atoms.atoms.items _ c.atoms.invariant.fit c.in_ok-atom_of.ensures.fit);
  below = subst (λ (l : List LinearAtom). BelowAll 3 (seen_atoms l)) (sym c.in_ok-push.ensures.items) (more_below c.atoms.atoms.items _ c.atoms.invariant.below c.in_ok-atom_of.ensures.below);
}
