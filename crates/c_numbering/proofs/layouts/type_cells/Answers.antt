use Rattle.std.proofs.Common.{arith, ap, length}
use Rattle.c_numbering.proofs.CellLemmas.{laid_more}
use Rattle.c_numbering.proofs.layouts.type_cells.Goals as goal

pub loop-k-preserved : goal.loop-k-preserved
loop-k-preserved c = laid_more c.args.structs.now c.args.table.now c.plain_cells.new.table c.loop-k.cells c.as_slice.result.now c.in_ok-cells-2.cells (c.args.ty.now).base (c.args.ty.now).stars (c.args.ty.now).lengths c.as_slice-lengths.result.now c.loop-k.k
    c.as_slice-lengths.ensures (omega arith) (omega (arith, ap length c.as_slice-lengths.ensures)) c.as_slice.ensures c.in_ok-cells-2.ensures c.loop-k.invariant
