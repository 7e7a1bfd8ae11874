use Rattle.std.proofs.Common.{sym, subst}
use Rattle.cc_base.specs.Slice.{slice_of}
use Rattle.sym_expr.specs.AtomsSeen.{atoms_of}
use Rattle.slice_solve.specs.Linear.{AreLinear}
use Rattle.slice_solve.proofs.Steps.{slice_below}
use Rattle.slice_solve.proofs.LinearSteps.{seen_below, right_seen, given_seen}
use Rattle.slice_solve.proofs.slice.solve_slice.Goals as goal

pub solve_linear-requires-clause-below : goal.solve_linear-requires-clause-below
solve_linear-requires-clause-below c =
    let l = atoms_of c.args.condition.now in let a = atoms_of c.args.alternative.now in
    seen_below c.args.places (slice_of l a) c.deref.result.now (subst (AreLinear (slice_of l a)) (sym c.deref.ensures.value) c.in_ok-atoms.ensures) (slice_below c.args.places l a c.requires.condition c.requires.alternative)

pub returns-clause-right : goal.returns-clause-right
returns-clause-right c =
    let s = slice_of (atoms_of c.args.condition.now) (atoms_of c.args.alternative.now) in
    right_seen c.args.bounds.now.lo c.args.bounds.now.hi c.args.budget s c.deref.result.now c.solve_linear.result (subst (AreLinear s) (sym c.deref.ensures.value) c.in_ok-atoms.ensures) c.solve_linear.ensures.right

pub returns-clause-given : goal.returns-clause-given
returns-clause-given c =
    let s = slice_of (atoms_of c.args.condition.now) (atoms_of c.args.alternative.now) in
    given_seen c.args.bounds.now.lo c.args.bounds.now.hi c.args.places s c.deref.result.now c.solve_linear.result (subst (AreLinear s) (sym c.deref.ensures.value) c.in_ok-atoms.ensures) c.solve_linear.ensures.given
