use Rattle.c_numbering.proofs.SigLemmas.{global_step, globals_all}
use Rattle.c_numbering.proofs.sigs.global_numbers.Goals as goal

pub loop-global-preserved : goal.loop-global-preserved
loop-global-preserved c = global_step c.args.table.now c.loop-global.table c.add_known.new.table c.loop-global.numbers c.add_known.new.numbers c.args.globals.now c.loop-global.global-index c.global-item.result
    c.loop-global-test.true c.global-item.is c.loop-global.invariant c.in_ok-add_known.ensures

pub returns : goal.returns
returns c = globals_all c.args.table.now c.loop-global.table c.loop-global.numbers c.args.globals.now c.loop-global.global-index c.loop-global-test.false c.loop-global.invariant
