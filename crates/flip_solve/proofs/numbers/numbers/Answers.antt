use Rattle.cc_base.specs.Limits.{base_of}
use Rattle.flip_solve.proofs.Steps.{numbers_more}
use Rattle.flip_solve.proofs.numbers.numbers.Goals as goal

pub loop-id-preserved : goal.loop-id-preserved
loop-id-preserved c = numbers_more c.args.places.now c.loop-id.id c.args.input.now (base_of c.args.bounds.now) c.args.solved.now c.loop-id.numbers _ _ c.loop-id.invariant c.number_at.ensures c.in_ok-push.ensures.ok
