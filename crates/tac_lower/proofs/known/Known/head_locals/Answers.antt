use Rattle.std.proofs.Common.{sym, ap, subst, List}
use Rattle.cc_model.specs.Core.{Declarator}
use Rattle.cc_model.specs.Resolve.{head_declarators}
use Rattle.tac_lower.specs.Tables.{facts_of}
use Rattle.tac_lower.specs.Emitted.{AddsDeclarators}
use Rattle.tac_lower.proofs.Simples.{no_declarators}
use Rattle.tac_lower.proofs.known.Known.head_locals.Goals as goal

pub returns-in-Simple : goal.returns-in-Simple
returns-in-Simple c = subst (λ (x : List Declarator). AddsDeclarators c.args.self.now.checked.now x c.args.code.now c.args.code.now) (ap (λ h. head_declarators (facts_of c.args.self.now.checked.now c.args.self.now.function) h) (sym c.in-Simple.is)) (no_declarators c.args.self.now.checked.now c.args.code.now)
