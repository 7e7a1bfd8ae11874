use Rattle.std.proofs.Common.{◌++◌, map, ap, ◌∙◌}
use Rattle.cc_model.specs.CheckedProgram.{cell_of}
use Rattle.input_map.specs.Laying.{spots, spots_of, found_in}
use Rattle.input_map.proofs.building.Laying.new.Goals as goal

pub returns-clause-due : goal.returns-clause-due
returns-clause-due c = c.in_ok-push_cells.ensures ∙ ap (λ l. spots_of l ++ spots (found_in (c.args.index.now).found 0) 0 (map cell_of c.args.params.now)) c.new-due.ensures
