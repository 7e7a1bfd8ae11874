use Rattle.std.proofs.Common.{◌++◌, ap₂, ◌∙◌}
use Rattle.input_map.specs.Laying.{spots, spots_of, found_in, at_block}
use Rattle.input_map.proofs.building.Laying.name.Goals as goal

pub returns-clause-due : goal.returns-clause-due
returns-clause-due c = c.in_ok-push_cells.ensures
    ∙ ap₂ (λ o l. spots_of (c.args.self.now).due ++ spots (at_block (found_in (c.args.index.now).found) o) 0 l) c.block.ensures c.layout.ensures
