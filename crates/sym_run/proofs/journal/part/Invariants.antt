use Rattle.std.proofs.Common.{◌≡◌, ◌++◌, length}
use Rattle.cc_model.specs.Conditions.{atoms_of as atoms_among, without}
use Rattle.sym_run.specs.Asks.{choices_of}
use Rattle.sym_run.specs.Journals.{atoms_or}
use Rattle.sym_run.proofs.journal.part.Given as goal

abbrev pub invariant-loop-outcome : goal.invariant-loop-outcome
invariant-loop-outcome l = record {
  taken : atoms_or (l.parts).taken (atoms_among l.outcome (choices_of l.choices)) ≡ atoms_among l.outcome (choices_of l.fn.choices);
  others : choices_of (l.parts).others ++ without l.outcome (choices_of l.choices) ≡ without l.outcome (choices_of l.fn.choices);
}

abbrev pub decreases-loop-outcome : goal.decreases-loop-outcome
decreases-loop-outcome l = length l.choices
