use Rattle.std.proofs.Common.{◌∙◌, sym, ap}
use Rattle.cc_base.specs.Groups.{form_of}
use Rattle.sym_expr.specs.declared.atoms.Atom.{Atom}
use Rattle.sym_expr.specs.AtomsSeen.{atom_of}
use Rattle.slice_solve.proofs.joins.terms_of.Goals as goal

pub returns-in-Le-clause-terms : goal.returns-in-Le-clause-terms
unfolding form_of
returns-in-Le-clause-terms c = c.terms.ensures.value ∙ ap (λ (a : Atom). (form_of (atom_of a)).terms) (sym c.in-Le.is)

pub returns-in-Eq-clause-terms : goal.returns-in-Eq-clause-terms
unfolding form_of
returns-in-Eq-clause-terms c = c.terms-in-Eq.ensures.value ∙ ap (λ (a : Atom). (form_of (atom_of a)).terms) (sym c.in-Eq.is)

pub returns-in-Ne-clause-terms : goal.returns-in-Ne-clause-terms
unfolding form_of
returns-in-Ne-clause-terms c = c.terms-in-Ne.ensures.value ∙ ap (λ (a : Atom). (form_of (atom_of a)).terms) (sym c.in-Ne.is)

pub returns-in-Same-clause-terms : goal.returns-in-Same-clause-terms
unfolding form_of
returns-in-Same-clause-terms c = ap (λ (a : Atom). (form_of (atom_of a)).terms) (sym c.in-Same.is)

pub returns-in-Differ-clause-terms : goal.returns-in-Differ-clause-terms
unfolding form_of
returns-in-Differ-clause-terms c = ap (λ (a : Atom). (form_of (atom_of a)).terms) (sym c.in-Differ.is)
