use Rattle.std.proofs.Common.{subst, sym, ap, ◌∙◌, ℕ, Option, Some, None}
use Rattle.cc_model.specs.Core.{Val, Declarator}
use Rattle.cc_model.specs.Resolve.{start_value}
use Rattle.tac_lower.specs.Emitted.{AddsDeclarator}
use Rattle.tac_lower.specs.Tables.{facts_of}
use Rattle.tac_lower.proofs.Emitting.{on_ok}
use Rattle.tac_lower.proofs.Simples.{not_started, started}
use Rattle.tac_lower.proofs.known.Known.declared.Goals as goal

pub returns-in_ok-emit-in-Some-2 : goal.returns-in_ok-emit-in-Some-2
unfolding facts_of
returns-in_ok-emit-in-Some-2 c = on_ok c.local.result c.local.ensures (λ p. subst (λ (d : Declarator). AddsDeclarator c.args.self.now.checked.now d c.args.code.now c.local.new.code) (ap (λ s. record { slot = s; type = ((facts_of c.args.self.now.checked.now c.args.self.now.function)).declared (c.args.d.now.declarator).name; start = start_value (facts_of c.args.self.now.checked.now c.args.self.now.function) c.args.d.now.initializer }) c.slot_at-slot.ensures) (subst (λ o. AddsDeclarator c.args.self.now.checked.now (record { slot = c.slot_at-slot.result; type = ((facts_of c.args.self.now.checked.now c.args.self.now.function)).declared (c.args.d.now.declarator).name; start = start_value (facts_of c.args.self.now.checked.now c.args.self.now.function) o }) c.args.code.now c.local.new.code) (sym c.in-Some.is) (started c.args.self.now.checked.now c.slot_at-slot.result _ _ _ _ _ _ _ c.in_ok-emit-in-Some.ensures c.in_ok-value-in-Some.ensures c.in_ok-emit-in-Some-2.ensures p)))

pub returns-in-None : goal.returns-in-None
unfolding facts_of
returns-in-None c = on_ok c.local-in-None.result c.local-in-None.ensures (λ p. subst (λ (d : Declarator). AddsDeclarator c.args.self.now.checked.now d c.args.code.now c.local-in-None.new.code) (ap (λ s. record { slot = s; type = ((facts_of c.args.self.now.checked.now c.args.self.now.function)).declared (c.args.d.now.declarator).name; start = start_value (facts_of c.args.self.now.checked.now c.args.self.now.function) c.args.d.now.initializer }) c.slot_at-slot.ensures) (subst (λ o. AddsDeclarator c.args.self.now.checked.now (record { slot = c.slot_at-slot.result; type = ((facts_of c.args.self.now.checked.now c.args.self.now.function)).declared (c.args.d.now.declarator).name; start = start_value (facts_of c.args.self.now.checked.now c.args.self.now.function) o }) c.args.code.now c.local-in-None.new.code) (sym c.in-None.is) (not_started c.args.self.now.checked.now c.slot_at-slot.result _ _ _ p)))
