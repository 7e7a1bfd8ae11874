use Rattle.c_numbering.proofs.NumberingLaws.{file_numbered_if}
use Rattle.c_numbering.proofs.numbering.with_file.Goals as goal

pub returns-clause-numbered : goal.returns-clause-numbered
returns-clause-numbered c = file_numbered_if c.with_layouts.result c.args.file.now c.args.globals.now c.args.slots.now c.args.table.now c.global_numbers.new.table c.sigs.new.table
    c.in_ok-globals.globals c.in_ok-funcs.funcs c.as_slice.result.now c.as_slice-2.result.now
    c.in_ok-globals.ensures c.as_slice.ensures c.in_ok-funcs.ensures c.as_slice-2.ensures c.with_layouts.ensures.laid
    c.with_layouts.ensures.globals c.with_layouts.ensures.functions
