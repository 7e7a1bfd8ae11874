use Rattle.std.proofs.Common.{map, ap, ◌∙◌}
use Rattle.cc_model.specs.Canonical.{base_cell}
use Rattle.cc_model.specs.CheckedProgram.{cell_of, cells_at, core_of}
use Rattle.cc_model.specs.Runs.{params_of}
use Rattle.input_map.proofs.BaseInputs.{base_from}
use Rattle.input_map.proofs.base.base_input.Goals as goal

pub returns-clause-input : goal.returns-clause-input
returns-clause-input c = base_from c.args.bounds.now (c.lo-lo.ensures.in_range).numbers (cells_at c.args.checked.now) (params_of (core_of c.args.checked.now)) (map cell_of c.in_ok-types.types) _ _
    (c.in_ok-cells.ensures ∙ ap (λ l. map (base_cell c.args.bounds.now) (map cell_of l)) c.as_slice.ensures) c.in_ok-types.ensures c.new-stream.ensures
