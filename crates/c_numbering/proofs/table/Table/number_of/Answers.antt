use Rattle.std.proofs.Common.{arith, ap, length}
use Rattle.c_numbering.proofs.TableLemmas.{array_more}
use Rattle.c_numbering.proofs.table.Table.number_of.Goals as goal

pub loop-k-preserved : goal.loop-k-preserved
loop-k-preserved c = array_more c.args.self.now c.loop-k.self c.put.new.self c.loop-k.number (c.in_ok-number-2.number).0 (c.args.ty.now).base (c.args.ty.now).stars (c.args.ty.now).lengths c.as_slice-lengths.result.now c.loop-k.k
    c.as_slice-lengths.ensures (omega arith) (omega (arith, ap length c.as_slice-lengths.ensures)) c.loop-k.invariant c.in_ok-number-2.ensures.added c.in_ok-number-2.ensures.there
