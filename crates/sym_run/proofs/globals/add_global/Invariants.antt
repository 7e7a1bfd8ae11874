use Rattle.std.proofs.Common.{◌≡◌, ◌++◌, map, drop}
use Rattle.cc_model.specs.declared.checked.Checked.{Checked}
use Rattle.cc_model.specs.CheckedProgram.{cell_of, start_of}
use Rattle.sym_run.specs.Beside.{IsValue}
use Rattle.sym_run.specs.Remembers.{Every}
use Rattle.sym_run.specs.Starting.{cells_starting}
use Rattle.sym_run.proofs.globals.add_global.Given as goal

abbrev pub invariant-loop-ty : goal.invariant-loop-ty
invariant-loop-ty l = record {
  cells : (c : Checked) → l.cells ++ cells_starting (map (start_of c l.start) (map cell_of (drop l.ty-index l.types))) ≡ l.initial.cells ++ cells_starting (map (start_of c l.start) (map cell_of l.types));
  values : Every (λ c. IsValue c.value) l.initial.cells → Every (λ c. IsValue c.value) l.cells;
}
