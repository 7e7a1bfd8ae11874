use Rattle.tac_lower.specs.Forms.{operation}
use Rattle.tac_lower.proofs.Emitting.{on_ok}
use Rattle.tac_lower.proofs.Simples.{update_done}
use Rattle.tac_lower.proofs.known.Known.update.Goals as goal

pub returns : goal.returns
returns c = on_ok c.value.result c.value.ensures (λ p. update_done c.args.self.now.checked.now c.args.t (operation c.args.operator) _ _ _ _ _ _ _ _ _ _ c.in_ok-emit.ensures c.in_ok-operation.ensures c.in_ok-emit-2.ensures c.in_ok-emit-3.ensures c.in_ok-emit-4.ensures c.in_ok-place.ensures p)
