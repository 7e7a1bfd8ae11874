use Rattle.tac_lower.proofs.Emitting.{on_ok}
use Rattle.tac_lower.proofs.Simples.{local_done}
use Rattle.tac_lower.proofs.known.Known.local.Goals as goal

pub returns : goal.returns
returns c = on_ok c.emit-2.result c.emit-2.ensures (λ e. local_done c.args.self.now.checked.now c.args.slot _ _ _ _ _ c.declared_at.ensures c.in_ok-emit.ensures e)
