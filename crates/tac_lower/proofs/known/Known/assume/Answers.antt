use Rattle.tac_lower.proofs.Emitting.{on_ok}
use Rattle.tac_lower.proofs.Simples.{assume_done}
use Rattle.tac_lower.proofs.known.Known.assume.Goals as goal

pub returns : goal.returns
returns c = on_ok c.emit-3.result c.emit-3.ensures (λ e. assume_done c.args.self.now.checked.now _ _ _ _ _ _ _ _ c.here-end.ensures c.in_ok-emit.ensures c.in_ok-emit-2.ensures c.here-over.ensures c.in_ok-condition.ensures e)
