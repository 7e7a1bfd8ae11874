use Rattle.std.proofs.Common.{◌≡◌, ◌++◌, ◌<◌, ◌≤◌, suc, length, map, drop}
use Rattle.cc_model.specs.CheckedProgram.{cell_of}
use Rattle.cc_model.specs.Traced as traced
use Rattle.sym_run.specs.Accesses.{cells_from, symbols_from}
use Rattle.sym_run.proofs.access.new_cells.Given as goal

abbrev pub invariant-loop-offset : goal.invariant-loop-offset
invariant-loop-offset l = record {
  cells : l.cells.items ++ cells_from (suc (length l.symbols)) (drop l.offset l.layout) (drop l.offset l.numbers) ≡ cells_from (suc (length l.initial.symbols)) l.layout l.numbers;
  places : l.places ++ traced.field_places l.first.0 l.offset (map cell_of (drop l.offset l.layout)) ≡ l.initial.places ++ traced.field_places l.first.0 0 (map cell_of l.layout);
  symbols : l.symbols ++ symbols_from (length l.places) (drop l.offset l.layout) ≡ l.initial.symbols ++ symbols_from (length l.initial.places) l.layout;
  parent : l.first.0 < length l.places;
  enough : l.offset ≤ length l.numbers;
}
