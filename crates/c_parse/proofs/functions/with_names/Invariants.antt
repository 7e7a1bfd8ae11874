-- The names so far, joined with those to come, are those of all.
use Rattle.std.proofs.Common.{◌≡◌, ◌-◌, length, drop}
use Rattle.c_parse.specs.DescentItems.{with_names}
use Rattle.c_parse.proofs.ItemSteps.{joined}
use Rattle.c_parse.proofs.functions.with_names.Given as goal

abbrev pub invariant-loop-at : goal.invariant-loop-at
invariant-loop-at l = record {
  rest : joined l.params (with_names (drop l.at l.protos)) ≡ with_names l.protos;
}

abbrev pub decreases-loop-at : goal.decreases-loop-at
decreases-loop-at l = length l.protos - l.at
