use Rattle.cc_model.specs.Resolve.{simple_of, resolve, vals_of, function_named}
use Rattle.cc_model.specs.CheckedProgram.{name_at}
use Rattle.std.proofs.Common.{ap, sym, subst, ◌∙◌, map}
use Rattle.cc_model.specs.Core as tree
use Rattle.cc_model.specs.Core.{Simple}
use Rattle.tac_lower.specs.Emitted.{AddsSimple}
use Rattle.tac_lower.specs.Tables.{facts_of}
use Rattle.tac_lower.proofs.Emitting.{on_ok}
use Rattle.tac_lower.proofs.Simples.{abort_done, take_done}
use Rattle.tac_lower.proofs.known.Known.simple.Goals as goal

pub returns-in-Call : goal.returns-in-Call
unfolding facts_of
returns-in-Call c = on_ok c.perform.result c.perform.ensures (λ p. subst (λ (s : Simple). AddsSimple c.args.self.now.checked.now s c.args.code.now c.perform.new.code) (ap (λ xs. tree.perform (function_named (name_at c.args.self.now.checked.now c.in-Call.t)) (vals_of (map (resolve (facts_of c.args.self.now.checked.now c.args.self.now.function)) xs))) c.as_slice.ensures ∙ ap (λ z. simple_of (facts_of c.args.self.now.checked.now c.args.self.now.function) z) (sym c.in-Call.is)) p)

pub returns-in_ok-emit-in-Abort : goal.returns-in_ok-emit-in-Abort
returns-in_ok-emit-in-Abort c = on_ok c.emit-in-Abort.result c.emit-in-Abort.ensures (λ e. subst (λ (s : Simple). AddsSimple c.args.self.now.checked.now s c.args.code.now c.emit-in-Abort.new.code) (ap (λ z. simple_of (facts_of c.args.self.now.checked.now c.args.self.now.function) z) (sym c.in-Abort.is)) (abort_done c.args.self.now.checked.now _ _ _ _ _ c.line_at.ensures c.in_ok-emit-in-Abort.ensures e))

pub returns-in_ok-place-in-CrestInt : goal.returns-in_ok-place-in-CrestInt
returns-in_ok-place-in-CrestInt c = on_ok c.emit-in-CrestInt-2.result c.emit-in-CrestInt-2.ensures (λ e. subst (λ (s : Simple). AddsSimple c.args.self.now.checked.now s c.args.code.now c.emit-in-CrestInt-2.new.code) (ap (λ z. simple_of (facts_of c.args.self.now.checked.now c.args.self.now.function) z) (sym c.in-CrestInt.is)) (take_done c.args.self.now.checked.now _ _ _ _ _ c.in_ok-emit-in-CrestInt.ensures c.in_ok-place-in-CrestInt.ensures e))
