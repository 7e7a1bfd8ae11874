use Rattle.c_numbering.proofs.TableLemmas.{types_more}
use Rattle.c_numbering.proofs.table.Table.numbers_of.Goals as goal

pub loop-ty-preserved : goal.loop-ty-preserved
loop-ty-preserved c = types_more c.args.self.now c.loop-ty.self c.number_of.new.self c.loop-ty.numbers c.push.new.self c.args.types.now c.loop-ty.ty-index c.in_ok-number_of.field-0 c.ty-item.result
    c.loop-ty-test.true c.ty-item.is c.loop-ty.invariant c.in_ok-number_of.ensures c.in_ok-push.ensures.ok
