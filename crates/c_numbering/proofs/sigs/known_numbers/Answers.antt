use Rattle.c_numbering.proofs.SigLemmas.{known_step}
use Rattle.c_numbering.proofs.sigs.known_numbers.Goals as goal

pub loop-ty-preserved : goal.loop-ty-preserved
loop-ty-preserved c = known_step c.args.table.now c.loop-ty.table c.add_known.new.table c.loop-ty.numbers c.add_known.new.numbers c.args.types.now c.loop-ty.ty-index c.ty-item.result
    c.loop-ty-test.true c.ty-item.is c.loop-ty.invariant c.in_ok-add_known.ensures
