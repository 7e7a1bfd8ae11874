use Rattle.std.proofs.Common.{◌∙◌, sym, ap}
use Rattle.cc_base.specs.Forms.{Form, at_most_zero}
use Rattle.cc_base.specs.Groups.{form_of}
use Rattle.sym_expr.specs.declared.atoms.Atom.{Atom}
use Rattle.sym_expr.specs.AtomsSeen.{atom_of}
use Rattle.slice_solve.specs.Linear.{linear}
use Rattle.slice_solve.proofs.LinearSteps.{linear_as}
use Rattle.slice_solve.proofs.linear.linear_of.Goals as goal

pub returns-in-Same : goal.returns-in-Same
unfolding linear form_of
returns-in-Same c = linear_as c.linear_form-in-Same.result (at_most_zero c.number.result) (atom_of c.args.atom.now)
    (ap (λ (g : Form). linear (at_most_zero g)) c.number.ensures.form ∙ ap (λ (a : Atom). linear (atom_of a)) (sym c.in-Same.is)) c.linear_form-in-Same.ensures

pub returns-in-Differ : goal.returns-in-Differ
unfolding linear form_of
returns-in-Differ c = linear_as c.linear_form-in-Differ.result (at_most_zero c.number-in-Differ.result) (atom_of c.args.atom.now)
    (ap (λ (g : Form). linear (at_most_zero g)) c.number-in-Differ.ensures.form ∙ ap (λ (a : Atom). linear (atom_of a)) (sym c.in-Differ.is)) c.linear_form-in-Differ.ensures
