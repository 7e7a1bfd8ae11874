use Rattle.std.proofs.Common.{suc, [], length, map, drop}
use Rattle.cc_model.specs.CheckedProgram.{cell_of, cells_at}
use Rattle.input_map.specs.CellFaults.{cells_fault}
use Rattle.input_map.specs.Standing.{Follows}
use Rattle.input_map.proofs.checking.check_cells.Given as goal

-- the rest of the cells has the fault that all of them have
abbrev pub invariant-loop-at : goal.invariant-loop-at
invariant-loop-at l = Follows (cells_at l.checked) l.bounds l.most l.at l.standing (drop l.at l.cells)
    (cells_fault (cells_at l.checked) l.bounds (map cell_of (l.fn).params) [] (suc (length (map cell_of (l.fn).params))) 1 l.cells)
