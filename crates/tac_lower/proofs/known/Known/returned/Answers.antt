use Rattle.std.proofs.Common.{sym, ap, ◌∙◌, subst, Option, None}
use Rattle.cc_model.specs.Core.{Cell, Val}
use Rattle.cc_model.specs.Resolve.{value_if}
use Rattle.cc_model.specs.CheckedProgram.{cell_of}
use Rattle.tac_lower.specs.Tables.{facts_of}
use Rattle.tac_lower.specs.Emitted.{AddsReturn}
use Rattle.tac_lower.proofs.Emitting.{on_ok}
use Rattle.tac_lower.proofs.Loops.{return_value, return_zero, return_null}
use Rattle.tac_lower.proofs.known.Known.returned.Goals as goal

pub returns-in-Some : goal.returns-in-Some
returns-in-Some c = on_ok c.value.result c.value.ensures (λ p. subst (λ (a : Option Val). AddsReturn c.args.self.now.checked.now (cell_of c.args.given) a c.args.code.now c.value.new.code) (ap (λ o. value_if (facts_of c.args.self.now.checked.now c.args.self.now.function) o) (sym c.in-Some.is)) (return_value c.args.self.now.checked.now (cell_of c.args.given) _ _ _ _ c.in_ok-emit.ensures p))

pub returns-in-Int : goal.returns-in-Int
returns-in-Int c = on_ok c.emit-in-Int.result c.emit-in-Int.ensures (λ e. subst (λ (a : Option Val). AddsReturn c.args.self.now.checked.now (cell_of c.args.given) a c.args.code.now c.emit-in-Int.new.code) (ap (λ o. value_if (facts_of c.args.self.now.checked.now c.args.self.now.function) o) (sym c.in-None.is))
    (subst (λ (r : Cell). AddsReturn c.args.self.now.checked.now r None c.args.code.now c.emit-in-Int.new.code) (ap (λ z. cell_of z) (sym c.in-Int.is)) (return_zero c.args.self.now.checked.now _ _ _ c.in_ok-emit.ensures e)))

pub returns-in-Ptr : goal.returns-in-Ptr
returns-in-Ptr c = on_ok c.emit-in-Ptr.result c.emit-in-Ptr.ensures (λ e. subst (λ (a : Option Val). AddsReturn c.args.self.now.checked.now (cell_of c.args.given) a c.args.code.now c.emit-in-Ptr.new.code) (ap (λ o. value_if (facts_of c.args.self.now.checked.now c.args.self.now.function) o) (sym c.in-None.is))
    (subst (λ (r : Cell). AddsReturn c.args.self.now.checked.now r None c.args.code.now c.emit-in-Ptr.new.code) (ap (λ z. cell_of z) (sym c.in-Ptr.is)) (return_null c.args.self.now.checked.now _ _ _ _ c.in_ok-emit.ensures e)))
