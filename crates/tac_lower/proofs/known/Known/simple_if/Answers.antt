use Rattle.std.proofs.Common.{sym, ap, subst, Option}
use Rattle.cc_model.specs.Core.{Simple}
use Rattle.cc_model.specs.Resolve.{simple_if}
use Rattle.tac_lower.specs.Tables.{facts_of}
use Rattle.tac_lower.specs.Emitted.{AddsSimpleIf}
use Rattle.tac_lower.proofs.Emitting.{on_ok}
use Rattle.tac_lower.proofs.Simples.{no_simple, some_simple}
use Rattle.tac_lower.proofs.known.Known.simple_if.Goals as goal

pub returns-in_ok-simple-in-Some : goal.returns-in_ok-simple-in-Some
returns-in_ok-simple-in-Some c = on_ok c.emit.result c.emit.ensures (λ e. subst (λ (s : Option Simple). AddsSimpleIf c.args.self.now.checked.now s c.args.code.now c.emit.new.code) (ap (λ o. simple_if (facts_of c.args.self.now.checked.now c.args.self.now.function) o) (sym c.in-Some.is)) (some_simple c.args.self.now.checked.now _ _ _ _ c.in_ok-simple-in-Some.ensures e))

pub returns-in-None : goal.returns-in-None
returns-in-None c = subst (λ (s : Option Simple). AddsSimpleIf c.args.self.now.checked.now s c.args.code.now c.args.code.now) (ap (λ o. simple_if (facts_of c.args.self.now.checked.now c.args.self.now.function) o) (sym c.in-None.is)) (no_simple c.args.self.now.checked.now c.args.code.now)
