use Rattle.slice_solve.proofs.LinearSteps.{pushed_linear}
use Rattle.slice_solve.proofs.linear.push_linear.Goals as goal

pub loop-atom-preserved : goal.loop-atom-preserved
loop-atom-preserved c = λ k h. pushed_linear k c.loop-atom.out.items c.push.new.self.items c.args.atoms.now c.loop-atom.atom-index c.atom-item.result _ c.loop-atom-test.true c.atom-item.is c.in_ok-push.ensures.items c.in_ok-linear_of.ensures (c.loop-atom.invariant k h)
