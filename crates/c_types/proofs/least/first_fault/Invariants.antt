-- The first fault of the notes from `left` on.
use Rattle.std.proofs.Common.{◌≤◌, ◌++◌, length, drop}
use Rattle.cc_model.specs.Faults.{faults_among}
use Rattle.c_types.specs.FirstFault.{faults_of, IsLeast}
use Rattle.c_types.proofs.least.first_fault.Given as goal

abbrev pub invariant-loop-left : goal.invariant-loop-left
invariant-loop-left l = record {
  within : l.left ≤ length l.notes;
  least : IsLeast (faults_among (drop l.left l.notes) ++ faults_of l.fn.site) l.least;
}

abbrev pub decreases-loop-left : goal.decreases-loop-left
decreases-loop-left l = l.left
