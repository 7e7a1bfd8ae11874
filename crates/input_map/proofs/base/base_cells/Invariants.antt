use Rattle.std.proofs.Common.{◌≡◌, map, take}
use Rattle.cc_model.specs.Canonical.{base_cell}
use Rattle.cc_model.specs.CheckedProgram.{cell_of}
use Rattle.input_map.proofs.base.base_cells.Given as goal

-- the cells of the types so far
abbrev pub invariant-loop-ty : goal.invariant-loop-ty
invariant-loop-ty l = l.cells ≡ map (base_cell l.bounds) (map cell_of (take l.ty-index l.types))
