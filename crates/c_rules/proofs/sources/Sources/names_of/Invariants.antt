use Rattle.std.proofs.Common.{◌≡◌, ◌++◌, drop, map}
use Rattle.cc_model.specs.Source.{text_at}
use Rattle.c_rules.specs.declared.locals.Locals.{Locals}
use Rattle.c_rules.proofs.sources.Sources.names_of.Given as goal

abbrev pub invariant-loop-body : goal.invariant-loop-body
invariant-loop-body l = l.names ++ map (λ (b : Locals). text_at l.self.source.now l.self.tokens.now b.name) (drop l.body-index l.bodies) ≡ map (λ (b : Locals). text_at l.self.source.now l.self.tokens.now b.name) l.fn.bodies
