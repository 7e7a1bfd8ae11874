use Rattle.std.proofs.Common.{sym, subst, List}
use Rattle.cc_base.specs.Forms.{Atom}
use Rattle.cc_base.specs.Classes.{AreClasses}
use Rattle.sym_expr.specs.AtomsSeen.{atoms_of}
use Rattle.slice_solve.specs.Joins.{joins, met}
use Rattle.slice_solve.specs.Linear.{AreLinear}
use Rattle.slice_solve.proofs.Joining.{met_slice}
use Rattle.slice_solve.proofs.slice.slice.Goals as goal

pub returns : goal.returns
returns c =
    let l = atoms_of c.args.condition.now in let a = atoms_of c.args.alternative.now in let k = c.as_slice.result.now in
    let classes : AreClasses (joins l a) c.args.places k = subst (AreClasses (joins l a) c.args.places) (sym c.as_slice.ensures) c.in_ok-classes.ensures in
    subst (λ (q : List Atom). AreLinear q c.push_linear.new.out.items) (met_slice l a c.args.places k classes c.requires.condition) (c.in_ok-push_linear.ensures (met k l) c.in_ok-out.ensures)
