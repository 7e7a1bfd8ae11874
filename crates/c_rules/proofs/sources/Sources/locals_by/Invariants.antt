use Rattle.std.proofs.Common.{◌≡◌, ◌++◌, drop, map}
use Rattle.cc_model.specs.declared.typing.Function.{Function}
use Rattle.cc_model.specs.Source.{text_at}
use Rattle.c_rules.specs.declared.locals.Locals.{Locals}
use Rattle.c_rules.specs.BodyLocals.{locals_named}
use Rattle.c_rules.proofs.sources.Sources.locals_by.Given as goal

abbrev pub invariant-loop-function : goal.invariant-loop-function
invariant-loop-function l = record {
  named : l.names-inside.names ≡ map (λ (b : Locals). text_at l.self.source.now l.self.tokens.now b.name) l.bodies;
  locals : l.locals ++ map (λ (f : Function). locals_named (text_at l.self.source.now l.self.tokens.now) f.name l.bodies) (drop l.function-index l.self.file.now.functions) ≡
      map (λ (f : Function). locals_named (text_at l.self.source.now l.self.tokens.now) f.name l.fn.bodies) l.self.file.now.functions;
}
