use Rattle.std.proofs.Common.{◌∙◌}
use Rattle.flip_solve.proofs.Steps.{pointers_start, pointers_same, pointers_more}
use Rattle.flip_solve.proofs.gathering.push_pointers.Goals as goal
use Rattle.flip_solve.proofs.gathering.push_pointers.Goals.{then-is_pointer+in_ok-push, else-is_pointer}

pub loop-atom-init : goal.loop-atom-init
loop-atom-init c = pointers_start c.args.atoms.now c.args.pointers.now

pub loop-atom-preserved : goal.loop-atom-preserved
loop-atom-preserved c = elim c.if-is_pointer.branch [
  | then-is_pointer+in_ok-push w ↦ pointers_more c.args.atoms.now c.args.pointers.now c.loop-atom.pointers _ c.loop-atom.atom-index c.atom-item.result w.copy.result c.is_pointer.result c.loop-atom-test.true c.atom-item.is c.is_pointer.ensures w.if-is_pointer.true c.loop-atom.invariant w.copy.ensures (w.pointers-is ∙ w.in_ok-push.ensures.ok)
  | else-is_pointer w ↦ pointers_same c.args.atoms.now c.args.pointers.now c.loop-atom.pointers _ c.loop-atom.atom-index c.atom-item.result c.is_pointer.result c.loop-atom-test.true c.atom-item.is c.is_pointer.ensures w.if-is_pointer.false c.loop-atom.invariant w.pointers-is
]
