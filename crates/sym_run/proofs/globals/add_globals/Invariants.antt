use Rattle.std.proofs.Common.{◌≡◌, ◌++◌, drop}
use Rattle.cc_model.specs.CheckedProgram.{starts_of}
use Rattle.sym_run.specs.Beside.{IsValue}
use Rattle.sym_run.specs.Remembers.{Every}
use Rattle.sym_run.specs.Starting.{cells_starting}
use Rattle.sym_run.proofs.globals.add_globals.Given as goal

abbrev pub invariant-loop-number : goal.invariant-loop-number
invariant-loop-number l = record {
  cells : l.cells ++ cells_starting (starts_of l.checked (drop l.number l.parts) (drop l.number l.types)) ≡ l.initial.cells ++ cells_starting (starts_of l.checked l.parts l.types);
  values : Every (λ c. IsValue c.value) l.initial.cells → Every (λ c. IsValue c.value) l.cells;
}
