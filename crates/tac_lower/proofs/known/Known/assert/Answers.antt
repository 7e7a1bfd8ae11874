use Rattle.tac_lower.proofs.Emitting.{on_ok}
use Rattle.tac_lower.proofs.Simples.{assert_done}
use Rattle.tac_lower.proofs.known.Known.assert.Goals as goal

pub returns : goal.returns
returns c = on_ok c.emit-2.result c.emit-2.ensures (λ e. assert_done c.args.self.now.checked.now c.args.t _ _ _ _ _ _ _ _ c.here-end.ensures c.line_at.ensures c.in_ok-emit.ensures c.here-fault.ensures c.in_ok-condition.ensures e)
