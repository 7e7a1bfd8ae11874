use Rattle.std.proofs.Common.{◌-◌, arith}
use Rattle.c_types.specs.FirstFault.{faults_of}
use Rattle.c_types.proofs.FirstFaults.{one_more}
use Rattle.c_types.proofs.least.first_fault.Goals as goal

pub loop-left-preserved : goal.loop-left-preserved
loop-left-preserved c = record {
  within = (let h = c.loop-left.invariant.within in omega (arith, h));
  least = (let h = c.loop-left-test.true in let g = c.loop-left.invariant.within in
      one_more c.args.notes.now (faults_of c.args.site) (c.loop-left.left - 1) c.loop-left.left c.index-notes-left.result c.loop-left.least c.with_note-least.result (omega (arith, h)) (omega (arith, h, g)) c.index-notes-left.is c.with_note-least.ensures c.loop-left.invariant.least);
}
