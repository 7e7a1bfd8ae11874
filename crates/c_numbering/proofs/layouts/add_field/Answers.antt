use Rattle.c_numbering.proofs.CellLemmas.{field_laid}
use Rattle.c_numbering.proofs.layouts.add_field.Goals as goal

pub returns : goal.returns
returns c = field_laid c.args.structs.now c.args.table.now c.type_cells.new.table c.args.cells.now c.in_ok-more.more c.append.new.self c.args.field.now c.in-Some.ty c.in-Some.is c.in_ok-more.ensures c.in_ok-append.ensures
