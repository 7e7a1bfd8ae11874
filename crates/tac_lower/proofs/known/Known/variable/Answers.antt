use Rattle.std.proofs.Common.{subst}
use Rattle.cc_model.specs.Core.{Loc}
use Rattle.tac_lower.specs.Emitted.{AddsPlace}
use Rattle.tac_lower.proofs.Emitting.{on_ok, slot_done, global_done}
use Rattle.tac_lower.proofs.known.Known.variable.Goals as goal

pub returns-in-Local : goal.returns-in-Local
returns-in-Local c = on_ok c.emit.result c.emit.ensures (λ e. subst (λ (l : Loc). AddsPlace c.args.self.now.checked.now l c.args.n c.args.code.now c.emit.new.code) c.in-Local.ensures (slot_done c.args.self.now.checked.now c.args.n _ _ _ e))

pub returns-in-Global : goal.returns-in-Global
returns-in-Global c = on_ok c.emit-in-Global.result c.emit-in-Global.ensures (λ e. subst (λ (l : Loc). AddsPlace c.args.self.now.checked.now l c.args.n c.args.code.now c.emit-in-Global.new.code) c.in-Global.ensures (global_done c.args.self.now.checked.now c.args.n _ _ _ e))
