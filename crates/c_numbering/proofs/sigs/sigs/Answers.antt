use Rattle.std.proofs.Common.{arith}
use Rattle.c_numbering.proofs.SigLemmas.{sigs_step}
use Rattle.c_numbering.proofs.sigs.sigs.Goals as goal

pub loop-k-preserved : goal.loop-k-preserved
loop-k-preserved c = sigs_step c.args.table.now c.loop-k.table c.sig.new.table c.args.functions.now c.args.slots.now c.loop-k.sigs c.push.new.self c.loop-k.k c.index-functions-k.result c.index-slots-k.result c.as_slice.result.now c.in_ok-sig.field-0
    c.requires (omega arith) c.index-functions-k.is c.index-slots-k.is c.as_slice.ensures c.in_ok-push.ensures.ok c.loop-k.invariant c.in_ok-sig.ensures
