use Rattle.c_numbering.proofs.NumberingLaws.{numbering_if}
use Rattle.c_numbering.proofs.numbering.number_types.Goals as goal

pub returns : goal.returns
returns c = numbering_if c.with_file.result c.args.expressions.now c.args.declarations.now c.args.file.now c.args.globals.now c.args.slots.now
    c.in_ok-table.table c.expression_numbers.new.table c.in_ok-expr_tys.expr_tys
    c.in_ok-table.ensures c.in_ok-expr_tys.ensures c.with_file.ensures.expressions c.with_file.ensures.numbered
