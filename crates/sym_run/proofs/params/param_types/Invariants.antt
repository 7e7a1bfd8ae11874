use Rattle.std.proofs.Common.{◌≡◌, map, take}
use Rattle.cc_model.specs.CheckedProgram.{cell_of}
use Rattle.sym_run.proofs.ParamLaws.{param_in}
use Rattle.sym_run.proofs.params.param_types.Given as goal

-- the cells of the parameters so far
abbrev pub invariant-loop-param : goal.invariant-loop-param
invariant-loop-param l = map cell_of l.types ≡ map (param_in (l.fn).checked l.number l.sig) (take l.param-index l.param-items)
