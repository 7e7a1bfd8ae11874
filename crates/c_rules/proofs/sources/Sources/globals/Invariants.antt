use Rattle.std.proofs.Common.{◌≡◌, ◌++◌, drop}
use Rattle.cc_model.specs.Source.{text_at}
use Rattle.cc_model.specs.Scopes.{after_globals}
use Rattle.cc_model.specs.Faults.{globals_notes}
use Rattle.c_rules.proofs.sources.Sources.globals.Given as goal

abbrev pub invariant-loop-part : goal.invariant-loop-part
invariant-loop-part l = record {
  notes : l.notes ++ globals_notes (text_at l.self.source.now l.self.tokens.now) l.self.file.now l.before l.base (drop l.part-index l.parts) ≡ l.fn.notes ++ globals_notes (text_at l.self.source.now l.self.tokens.now) l.self.file.now l.fn.before l.base l.fn.parts;
  before : after_globals (text_at l.self.source.now l.self.tokens.now) l.self.file.now.tags l.before l.base (drop l.part-index l.parts) ≡ after_globals (text_at l.self.source.now l.self.tokens.now) l.self.file.now.tags l.fn.before l.base l.fn.parts;
}
