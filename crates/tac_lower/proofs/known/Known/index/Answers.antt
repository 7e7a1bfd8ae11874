use Rattle.tac_lower.proofs.Emitting.{on_ok, index_done}
use Rattle.tac_lower.proofs.known.Known.index.Goals as goal

pub returns : goal.returns
returns c = on_ok c.emit.result c.emit.ensures (λ e. index_done c.args.self.now.checked.now c.args.t c.args.n c.args.m _ _ _ _ _ _ _ c.site_at-site.ensures c.length_at.ensures c.width_at.ensures e)
