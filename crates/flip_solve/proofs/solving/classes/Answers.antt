use Rattle.std.proofs.Common.{◌≡◌, ◌∙◌, ◌++◌, ap, subst}
use Rattle.sym_expr.specs.AtomsSeen.{atoms_of}
use Rattle.pointer_solver.specs.Faults.{IsFault}
use Rattle.flip_solve.specs.Choosing.{pointers_of}
use Rattle.flip_solve.proofs.Pushed.{both_pushed, few_pointers, pointers_below, classes_of, fault_of}
use Rattle.flip_solve.proofs.solving.classes.Goals as goal
use Rattle.flip_solve.proofs.solving.classes.Goals.{After-as_slice}

-- all pointer atoms were put together
pushed : (c : After-as_slice) → atoms_of c.as_slice.result.now ≡ pointers_of (atoms_of c.args.condition.now ++ atoms_of c.args.alternative.now)
pushed c = ap atoms_of c.as_slice.ensures ∙ both_pushed _ _ _ c.args.condition.now c.args.alternative.now c.new-pointers.ensures c.in_ok-push_pointers.ensures c.in_ok-push_pointers-2.ensures

pub solve_pointers-requires-clause-few : goal.solve_pointers-requires-clause-few
solve_pointers-requires-clause-few c = few_pointers c.as_slice.result.now c.args.condition.now c.args.alternative.now (pushed (goal.at.solve_pointers-requires-clause-few c).After-as_slice) c.requires.few

pub solve_pointers-requires-clause-pointers : goal.solve_pointers-requires-clause-pointers
solve_pointers-requires-clause-pointers c = pointers_below c.args.count c.as_slice.result.now _ (pushed (goal.at.solve_pointers-requires-clause-pointers c).After-as_slice) c.requires.names

pub returns-in-Ok : goal.returns-in-Ok
returns-in-Ok c = classes_of c.as_slice.result.now _ c.args.count c.in-Ok.classes (pushed (goal.at.returns-in-Ok c).After-as_slice) c.in-Ok.ensures.classes

pub returns-in-Err-Unsat : goal.returns-in-Err-Unsat
returns-in-Err-Unsat c = fault_of c.as_slice.result.now _ c.in-Err-Unsat.field-0-0 (pushed (goal.at.returns-in-Err-Unsat c).After-as_slice) (subst (IsFault (atoms_of c.as_slice.result.now)) c.in-Err-Unsat.field-0-is c.in-Err-Unsat.ensures.fault)
