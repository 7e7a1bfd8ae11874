use Rattle.std.proofs.Common.{◌≡◌, ◌++◌, drop}
use Rattle.cc_model.specs.Source.{text_at}
use Rattle.cc_model.specs.Scopes.{nothing_before}
use Rattle.cc_model.specs.Faults.{items_notes, part_of}
use Rattle.c_rules.proofs.sources.Sources.items.Given as goal

abbrev pub invariant-loop-item : goal.invariant-loop-item
invariant-loop-item l = l.notes ++ items_notes (text_at l.self.source.now l.self.tokens.now) l.self.file.now (part_of (text_at l.self.source.now l.self.tokens.now) l.self.file.now) l.before (drop l.item-index l.items) ≡ l.fn.notes ++ items_notes (text_at l.self.source.now l.self.tokens.now) l.self.file.now (part_of (text_at l.self.source.now l.self.tokens.now) l.self.file.now) nothing_before l.fn.items
