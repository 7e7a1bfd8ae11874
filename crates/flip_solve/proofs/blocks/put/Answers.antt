use Rattle.flip_solve.proofs.Steps.{also_last}
use Rattle.flip_solve.proofs.blocks.put.Goals as goal

pub returns-in_ok-push : goal.returns-in_ok-push
returns-in_ok-push c = also_last _ _ c.args.block c.in_ok-push.ensures.ok
