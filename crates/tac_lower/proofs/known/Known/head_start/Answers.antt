use Rattle.std.proofs.Common.{sym, ap, subst, Option}
use Rattle.cc_model.specs.Core.{Simple}
use Rattle.cc_model.specs.Resolve.{head_simple}
use Rattle.tac_lower.specs.Tables.{facts_of}
use Rattle.tac_lower.specs.Emitted.{AddsSimpleIf}
use Rattle.tac_lower.proofs.Simples.{no_simple}
use Rattle.tac_lower.proofs.known.Known.head_start.Goals as goal

pub returns-in-Decl : goal.returns-in-Decl
returns-in-Decl c = subst (λ (x : Option Simple). AddsSimpleIf c.args.self.now.checked.now x c.args.code.now c.args.code.now) (ap (λ h. head_simple (facts_of c.args.self.now.checked.now c.args.self.now.function) h) (sym c.in-Decl.is)) (no_simple c.args.self.now.checked.now c.args.code.now)
