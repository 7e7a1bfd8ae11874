use Rattle.std.proofs.Common.{◌∙◌, ap, subst}
use Rattle.cc_base.specs.Classes.{FirstContradiction}
use Rattle.sym_expr.specs.AtomsSeen.{atoms_of}
use Rattle.pointer_solver.specs.Faults.{IsFault}
use Rattle.slice_solve.proofs.Steps.{join_pointers, joins_agree}
use Rattle.slice_solve.proofs.joins.classes_of.Goals as goal

pub solve_pointers-requires-clause-pointers : goal.solve_pointers-requires-clause-pointers
solve_pointers-requires-clause-pointers c = join_pointers c.args.places c.deref.result.now (atoms_of c.args.condition.now) (atoms_of c.args.alternative.now) (ap atoms_of c.deref.ensures.value ∙ c.in_ok-joins.ensures.joined) c.requires.condition c.requires.alternative

pub unreachable-requires : goal.unreachable-requires
unreachable-requires c =
    let v = c.deref.result.now in
    let h : FirstContradiction (atoms_of v) c.in-Err-Unsat.field-0-0 = subst (IsFault (atoms_of v)) c.in-Err-Unsat.field-0-is c.in-Err-Unsat.ensures.fault in
    joins_agree c.args.places v (atoms_of c.args.condition.now) (atoms_of c.args.alternative.now) c.in-Err-Unsat.field-0-0 (ap atoms_of c.deref.ensures.value ∙ c.in_ok-joins.ensures.joined) c.requires.condition c.requires.alternative h
