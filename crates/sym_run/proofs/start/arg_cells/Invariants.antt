use Rattle.std.proofs.Common.{◌≡◌, ◌++◌, ◌≤◌, suc, length, map, drop}
use Rattle.cc_model.specs.CheckedProgram.{cell_of}
use Rattle.cc_model.specs.Traced as traced
use Rattle.sym_run.specs.Accesses.{cells_from, symbols_from}
use Rattle.sym_run.proofs.start.arg_cells.Given as goal

abbrev pub invariant-loop-number : goal.invariant-loop-number
invariant-loop-number l = record {
  cells : l.cells ++ cells_from (suc (length l.symbols)) (drop l.number l.types) (drop l.number l.numbers) ≡ cells_from (suc (length l.initial.symbols)) l.types l.numbers;
  places : l.places ++ traced.arg_places l.number (map cell_of (drop l.number l.types)) ≡ l.initial.places ++ traced.arg_places 0 (map cell_of l.types);
  symbols : l.symbols ++ symbols_from (length l.places) (drop l.number l.types) ≡ l.initial.symbols ++ symbols_from (length l.initial.places) l.types;
  enough : l.number ≤ length l.numbers;
}
