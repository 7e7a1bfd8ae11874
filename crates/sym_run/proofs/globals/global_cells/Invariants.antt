use Rattle.std.proofs.Common.{◌≡◌, ◌++◌, drop, flat_map}
use Rattle.cc_model.specs.CheckedProgram.{starts_of, global_parts}
use Rattle.sym_run.specs.Beside.{IsValue}
use Rattle.sym_run.specs.Remembers.{Every}
use Rattle.sym_run.specs.Starting.{cells_starting}
use Rattle.sym_run.proofs.globals.global_cells.Given as goal

abbrev pub invariant-loop-item : goal.invariant-loop-item
invariant-loop-item l = record {
  cells : l.cells ++ cells_starting (starts_of l.checked (flat_map (global_parts l.checked) (drop l.item-index l.item-items)) (drop l.next (l.checked).globals)) ≡ cells_starting (starts_of l.checked (flat_map (global_parts l.checked) l.item-items) (l.checked).globals);
  values : Every (λ c. IsValue c.value) l.cells;
}
