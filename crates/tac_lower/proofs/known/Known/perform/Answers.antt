use Rattle.std.proofs.Common.{subst, ℕ, map}
use Rattle.cc_model.specs.Core.{perform}
use Rattle.cc_model.specs.Resolve.{resolve, vals_of}
use Rattle.tac_lower.specs.Emitted.{AddsSimple}
use Rattle.tac_lower.specs.Tables.{facts_of}
use Rattle.tac_lower.proofs.Emitting.{on_ok, call_of}
use Rattle.tac_lower.proofs.Simples.{perform_done}
use Rattle.tac_lower.proofs.known.Known.perform.Goals as goal

pub returns : goal.returns
returns c = on_ok c.emit-2.result c.emit-2.ensures (λ e. subst (λ (f : ℕ). AddsSimple c.args.self.now.checked.now (perform f (vals_of (map (resolve (facts_of c.args.self.now.checked.now c.args.self.now.function)) c.args.args.now))) c.args.code.now c.emit-2.new.code) c.function_at.ensures (perform_done c.args.self.now.checked.now _ _ _ _ (call_of c.args.self.now.checked.now (facts_of c.args.self.now.checked.now c.args.self.now.function) c.function_at.result c.args.args.now 0 _ _ _ _ _ c.short.ensures c.in_ok-emit.ensures c.in_ok-arguments.ensures e)))
