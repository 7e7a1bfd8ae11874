use Rattle.std.proofs.Common.{◌≡◌, ◌++◌, drop}
use Rattle.sym_run.specs.Starting.{singles}
use Rattle.sym_run.proofs.start.make_each.Given as goal

abbrev pub invariant-loop-cell : goal.invariant-loop-cell
invariant-loop-cell l = record {
  made : l.memory.made ++ singles (drop l.cell-index l.cells) ≡ l.initial.memory.made ++ singles l.cells;
  touched : l.memory.touched ≡ l.initial.memory.touched;
}
