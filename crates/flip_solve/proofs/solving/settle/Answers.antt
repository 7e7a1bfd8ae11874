use Rattle.cc_model.specs.CheckedProgram.{core_of}
use Rattle.sym_expr.specs.AtomsSeen.{atoms_of}
use Rattle.flip_solve.proofs.Settled.{names_places, below_all, front_names, back_names, spent_from, assigned_from, settled_from}
use Rattle.flip_solve.proofs.solving.settle.Goals as goal

pub classes-requires-clause-names : goal.classes-requires-clause-names
classes-requires-clause-names c = names_places c.args.count c.args.places.now _ c.requires.asked.asked.names

pub solve_slice-requires-clause-condition : goal.solve_slice-requires-clause-condition
solve_slice-requires-clause-condition c = below_all c.args.count (atoms_of c.args.condition.now) (front_names c.args.count (atoms_of c.args.condition.now) (atoms_of c.args.alternative.now) (names_places c.args.count c.args.places.now _ c.requires.asked.asked.names))

pub solve_slice-requires-clause-alternative : goal.solve_slice-requires-clause-alternative
solve_slice-requires-clause-alternative c = below_all c.args.count (atoms_of c.args.alternative.now) (back_names c.args.count (atoms_of c.args.condition.now) (atoms_of c.args.alternative.now) (names_places c.args.count c.args.places.now _ c.requires.asked.asked.names))

pub build-requires-clause-assignment : goal.build-requires-clause-assignment
build-requires-clause-assignment c = assigned_from (core_of c.args.checked.now) c.args.bounds.now c.args.budget c.args.places.now c.args.count (atoms_of c.args.condition.now) (atoms_of c.args.alternative.now) c.args.input.now
    _ c.in-Some.classes c.in-Some.is c.in_ok-classes.ensures c.requires.asked _ c.in-Sat.solved c.as_slice.result.now c.in-Sat.is c.in_ok-solve_slice.ensures.given c.as_slice.ensures _ c.in_ok-values-in-Sat.ensures

pub returns-in-Spent : goal.returns-in-Spent
returns-in-Spent c = spent_from (core_of c.args.checked.now) c.args.bounds.now c.args.budget c.args.places.now c.args.count (atoms_of c.args.condition.now) (atoms_of c.args.alternative.now) c.args.input.now
    _ c.in-Some.classes c.in-Some.is c.in_ok-classes.ensures _ c.in-Spent.is c.in_ok-solve_slice.ensures.right

pub returns-in_ok-input-in-Sat : goal.returns-in_ok-input-in-Sat
returns-in_ok-input-in-Sat c = settled_from (core_of c.args.checked.now) c.args.bounds.now c.args.budget c.args.places.now c.args.count (atoms_of c.args.condition.now) (atoms_of c.args.alternative.now) c.args.input.now
    _ c.in-Some.classes c.in-Some.is c.in_ok-classes.ensures c.requires.asked _ c.in-Sat.solved c.as_slice.result.now c.in-Sat.is c.in_ok-solve_slice.ensures.given c.as_slice.ensures _ c.in_ok-values-in-Sat.ensures
    c.in_ok-solve_slice.ensures.right _ c.in_ok-input-in-Sat.ensures
