use Rattle.std.proofs.Common.{◌+◌, ◌∙◌, sym, subst}
use Rattle.flip_solve.specs.Choosing.{AreBlocks}
use Rattle.flip_solve.proofs.Steps.{blocks_same, blocks_more}
use Rattle.flip_solve.proofs.blocks.blocks.Goals as goal
use Rattle.flip_solve.proofs.blocks.blocks.Goals.{in-Some+in_ok-put-in-Some, in-None}

pub loop-id-preserved : goal.loop-id-preserved
loop-id-preserved c = elim c.match-block_at.branch [
  | in-Some+in_ok-put-in-Some w ↦ subst (λ l. AreBlocks c.args.places.now (c.loop-id.id + 1) l) (sym w.blocks-is) (blocks_more c.args.places.now c.loop-id.id c.loop-id.blocks _ _ c.loop-id.invariant (sym c.block_at.ensures ∙ w.in-Some.is) w.in_ok-put-in-Some.ensures)
  | in-None w ↦ subst (λ l. AreBlocks c.args.places.now (c.loop-id.id + 1) l) (sym w.blocks-is) (blocks_same c.args.places.now c.loop-id.id c.loop-id.blocks c.loop-id.invariant (sym c.block_at.ensures ∙ w.in-None.is))
]
