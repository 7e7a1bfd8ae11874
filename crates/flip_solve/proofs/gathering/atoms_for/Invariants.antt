use Rattle.std.proofs.Common.{◌≡◌, drop}
use Rattle.cc_model.specs.Conditions.{atoms_of}
use Rattle.sym_run.specs.Asks.{choices_of}
use Rattle.flip_solve.proofs.gathering.atoms_for.Given as goal

abbrev pub invariant-loop-choice : goal.invariant-loop-choice
invariant-loop-choice l = atoms_of l.outcome (choices_of (drop l.choice-index l.choices)) ≡ atoms_of l.outcome (choices_of l.choices)
