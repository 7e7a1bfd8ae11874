use Rattle.std.proofs.Common.{map, ap, ◌∙◌}
use Rattle.cc_model.specs.CheckedProgram.{cell_of, core_of}
use Rattle.cc_model.specs.Runs.{params_of}
use Rattle.input_map.specs.Laying.{plan_by, found_in, spots}
use Rattle.input_map.proofs.Filled.{stands_first}
use Rattle.input_map.proofs.building.cells.Goals as goal

pub returns : goal.returns
returns c = c.in_ok-fill.ensures (spots (found_in (c.args.index.now).found 0) 0 (params_of (core_of c.args.checked.now)))
    (stands_first (plan_by c.args.checked.now c.args.values.now c.args.bounds.now c.args.index.now) (spots (found_in (c.args.index.now).found 0) 0 (params_of (core_of c.args.checked.now))) c.in_ok-laying.laying
    (c.in_ok-laying.ensures.due ∙ ap (λ l. spots (found_in (c.args.index.now).found 0) 0 (map cell_of l)) c.as_slice.ensures ∙ ap (spots (found_in (c.args.index.now).found 0) 0) c.in_ok-params.ensures)
    c.in_ok-laying.ensures.cells c.in_ok-laying.ensures.blocks)
