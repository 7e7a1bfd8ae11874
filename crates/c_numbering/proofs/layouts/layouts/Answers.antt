use Rattle.std.proofs.Common.{◌∙◌}
use Rattle.c_numbering.proofs.CellLemmas.{laid_out_if}
use Rattle.c_numbering.proofs.layouts.layouts.Goals as goal

pub returns : goal.returns
returns c = laid_out_if c.entries_cells.result c.args.structs.now c.args.table.now c.structs_cells.new.table c.as_slice-2.result.now c.in_ok-structs.structs c.as_slice.result.now
    c.in_ok-structs.ensures c.as_slice.ensures (c.as_slice-2.ensures ∙ c.in_ok-tys.ensures) c.entries_cells.ensures
