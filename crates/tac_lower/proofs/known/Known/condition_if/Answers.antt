use Rattle.std.proofs.Common.{sym, ap, subst, Option}
use Rattle.cc_model.specs.Core.{Cond}
use Rattle.cc_model.specs.Resolve.{truth_if}
use Rattle.tac_lower.specs.Tables.{facts_of}
use Rattle.tac_lower.specs.Emitted.{AddsCondIf}
use Rattle.tac_lower.proofs.Emitting.{on_ok}
use Rattle.tac_lower.proofs.Simples.{no_cond, some_cond}
use Rattle.tac_lower.proofs.known.Known.condition_if.Goals as goal

pub returns-in-Some : goal.returns-in-Some
returns-in-Some c = on_ok c.condition.result c.condition.ensures (λ p. subst (λ (k : Option Cond). AddsCondIf c.args.self.now.checked.now k c.args.yes c.args.no c.args.code.now c.condition.new.code) (ap (λ o. truth_if (facts_of c.args.self.now.checked.now c.args.self.now.function) o) (sym c.in-Some.is)) (some_cond c.args.self.now.checked.now _ c.args.yes c.args.no _ _ p))

pub returns-in-None : goal.returns-in-None
returns-in-None c = on_ok c.emit.result c.emit.ensures (λ e. subst (λ (k : Option Cond). AddsCondIf c.args.self.now.checked.now k c.args.yes c.args.no c.args.code.now c.emit.new.code) (ap (λ o. truth_if (facts_of c.args.self.now.checked.now c.args.self.now.function) o) (sym c.in-None.is)) (no_cond c.args.self.now.checked.now c.args.yes c.args.no _ _ e))
