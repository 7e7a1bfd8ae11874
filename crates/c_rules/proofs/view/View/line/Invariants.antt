use Rattle.std.proofs.Common.{◌≡◌, ◌++◌, List, map, drop}
use Rattle.cc_model.specs.Source.{text_at}
use Rattle.cc_model.specs.declared.typing.Member.{Member}
use Rattle.cc_model.specs.declared.typing.Note.{Note}
use Rattle.cc_model.specs.Scopes.{field_of, fields_size}
use Rattle.cc_model.specs.Faults.{line_notes}
use Rattle.c_rules.proofs.view.View.line.Given as goal

abbrev pub invariant-loop-declarator : goal.invariant-loop-declarator
invariant-loop-declarator l = record {
  sized : l.size ≡ fields_size l.self.file.now.sizes l.earlier;
  notes : (rest : List Member → List Note) → l.notes ++ line_notes (text_at l.self.source.now l.self.tokens.now) l.self.file.now l.self.before.now l.earlier l.base (drop l.declarator-index l.parts) rest ≡ l.fn.notes ++ line_notes (text_at l.self.source.now l.self.tokens.now) l.self.file.now l.self.before.now l.fn.earlier l.base l.fn.parts rest;
  members : l.earlier ++ map (field_of (text_at l.self.source.now l.self.tokens.now) l.self.file.now.tags l.self.before.now l.base) (drop l.declarator-index l.parts) ≡ l.fn.earlier ++ map (field_of (text_at l.self.source.now l.self.tokens.now) l.self.file.now.tags l.self.before.now l.base) l.fn.parts;
}
