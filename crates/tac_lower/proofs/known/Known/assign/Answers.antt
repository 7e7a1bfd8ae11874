use Rattle.tac_lower.proofs.Emitting.{on_ok}
use Rattle.tac_lower.proofs.Simples.{assign_done}
use Rattle.tac_lower.proofs.known.Known.assign.Goals as goal

pub returns : goal.returns
returns c = on_ok c.value.result c.value.ensures (λ p. assign_done c.args.self.now.checked.now _ _ _ _ _ _ c.in_ok-emit.ensures c.in_ok-place.ensures p)
