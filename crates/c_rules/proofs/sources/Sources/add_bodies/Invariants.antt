use Rattle.std.proofs.Common.{◌≡◌, ◌++◌, drop}
use Rattle.cc_model.specs.Source.{text_at}
use Rattle.c_rules.specs.BodyLocals.{bodies_in}
use Rattle.c_rules.proofs.sources.Sources.add_bodies.Given as goal

abbrev pub invariant-loop-item : goal.invariant-loop-item
invariant-loop-item l = l.bodies ++ bodies_in (text_at l.self.source.now l.self.tokens.now) l.self.file.now l.before (drop l.item-index l.items) ≡ l.fn.bodies ++ bodies_in (text_at l.self.source.now l.self.tokens.now) l.self.file.now l.fn.before l.fn.items
