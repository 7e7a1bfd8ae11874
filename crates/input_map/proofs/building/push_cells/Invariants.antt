use Rattle.std.proofs.Common.{◌≡◌, ◌++◌, take, map}
use Rattle.cc_model.specs.CheckedProgram.{cell_of}
use Rattle.input_map.specs.Laying.{spots, spots_of, at_block, found_in}
use Rattle.input_map.proofs.building.push_cells.Given as goal

-- the cells so far
abbrev pub invariant-loop-cell : goal.invariant-loop-cell
invariant-loop-cell l = spots_of l.due ≡ spots_of (l.fn).due ++ spots (at_block (found_in (l.index).found) l.block) 0 (map cell_of (take l.cell l.types))
