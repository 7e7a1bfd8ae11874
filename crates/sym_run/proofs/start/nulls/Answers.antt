use Rattle.std.proofs.Common.{◌≡◌, refl}
use Rattle.sym_run.specs.Starting.{null_cell}
use Rattle.sym_run.proofs.StartLaws.{push_each}
use Rattle.sym_run.proofs.start.nulls.Goals as goal

pub loop-number-preserved : goal.loop-number-preserved
loop-number-preserved c = push_each (λ n x. x ≡ null_cell) c.loop-number.cells c.push.new.self null_cell c.in_ok-push.ensures.ok c.loop-number.invariant refl
