use Rattle.flip_solve.specs.Choosing.{AreBlocks}
use Rattle.flip_solve.proofs.blocks.blocks.Given as goal

abbrev pub invariant-loop-id : goal.invariant-loop-id
invariant-loop-id l = AreBlocks l.places l.id l.blocks
