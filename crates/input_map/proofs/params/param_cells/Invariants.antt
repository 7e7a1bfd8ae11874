use Rattle.std.proofs.Common.{◌≡◌, map, take}
use Rattle.cc_model.specs.CheckedProgram.{cell_of}
use Rattle.input_map.proofs.ParamLaws.{param_in}
use Rattle.input_map.proofs.params.param_cells.Given as goal

-- the cells of the parameters so far
abbrev pub invariant-loop-param : goal.invariant-loop-param
invariant-loop-param l = map cell_of l.cells ≡ map (param_in (l.fn).checked l.sig) (take l.param-index l.param-items)
