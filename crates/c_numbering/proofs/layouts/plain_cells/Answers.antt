use Rattle.c_numbering.proofs.CellLemmas.{base_if, pointer_if}
use Rattle.c_numbering.proofs.layouts.plain_cells.Goals as goal

pub returns-then-stars-eq0 : goal.returns-then-stars-eq0
returns-then-stars-eq0 c = base_if c.base_cells.result c.args.structs.now c.args.table.now c.args.base c.args.stars c.if-stars-eq0.true c.base_cells.ensures

pub returns : goal.returns
returns c = pointer_if c.one_cell.result c.args.structs.now c.args.table.now c.number_of_plain.new.self c.in_ok-target.target c.args.base c.args.stars c.if-stars-eq0.false c.in_ok-target.ensures c.one_cell.ensures
