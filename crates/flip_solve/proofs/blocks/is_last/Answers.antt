use Rattle.flip_solve.proofs.Steps.{last_there}
use Rattle.flip_solve.proofs.blocks.is_last.Goals as goal

pub returns-in-Some : goal.returns-in-Some
returns-in-Some c = λ e. last_there c.args.blocks.now _ c.in-Some.last.now c.args.block c.in-Some.ensures.value e
