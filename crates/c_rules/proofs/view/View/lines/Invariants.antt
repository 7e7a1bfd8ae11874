use Rattle.std.proofs.Common.{◌≡◌, ◌++◌, [], drop}
use Rattle.cc_model.specs.Source.{text_at}
use Rattle.cc_model.specs.Scopes.{fields_of, fields_size}
use Rattle.cc_model.specs.Faults.{lines_notes}
use Rattle.c_rules.proofs.view.View.lines.Given as goal

abbrev pub invariant-loop-line : goal.invariant-loop-line
invariant-loop-line l = record {
  sized : l.size ≡ fields_size l.self.file.now.sizes l.members;
  notes : l.notes ++ lines_notes (text_at l.self.source.now l.self.tokens.now) l.self.file.now l.self.before.now (drop l.line-index l.lines) l.members ≡ l.fn.notes ++ lines_notes (text_at l.self.source.now l.self.tokens.now) l.self.file.now l.self.before.now l.fn.lines [];
  members : l.members ++ fields_of (text_at l.self.source.now l.self.tokens.now) l.self.file.now.tags l.self.before.now (drop l.line-index l.lines) ≡ fields_of (text_at l.self.source.now l.self.tokens.now) l.self.file.now.tags l.self.before.now l.fn.lines;
}
