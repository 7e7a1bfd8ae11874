use Rattle.std.proofs.Common.{◌≡◌, ◌++◌, [], drop}
use Rattle.cc_model.specs.Source.{text_at}
use Rattle.cc_model.specs.Faults.{protos_notes}
use Rattle.c_rules.proofs.view.View.protos.Given as goal

abbrev pub invariant-loop-param : goal.invariant-loop-param
invariant-loop-param l = l.notes ++ protos_notes (text_at l.self.source.now l.self.tokens.now) l.self.file.now l.self.before.now l.t l.earlier (drop l.param-index l.params) ≡ l.fn.notes ++ protos_notes (text_at l.self.source.now l.self.tokens.now) l.self.file.now l.self.before.now l.t [] l.fn.params
