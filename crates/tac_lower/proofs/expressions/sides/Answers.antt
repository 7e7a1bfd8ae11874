use Rattle.cc_model.specs.declared.checked.Checked.{Checked}
use Rattle.tac_lower.proofs.Emitting.{on_ok, sides_done}
use Rattle.tac_lower.proofs.expressions.sides.Goals as goal

pub returns : goal.returns
returns c = on_ok c.emit-2.result c.emit-2.ensures (λ e. λ (k : Checked). sides_done k c.args.n c.args.yes c.args.no _ _ _ c.in_ok-emit.ensures e)
