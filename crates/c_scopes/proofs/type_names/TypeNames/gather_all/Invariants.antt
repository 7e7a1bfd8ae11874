use Rattle.std.proofs.Common.{◌≡◌, ◌++◌, drop}
use Rattle.cc_model.specs.Source.{text_at}
use Rattle.cc_model.specs.Scopes.{nothing_before, after_items, structs_in, functions_in}
use Rattle.c_scopes.proofs.type_names.TypeNames.gather_all.Given as goal

abbrev pub invariant-loop-item : goal.invariant-loop-item
invariant-loop-item l = record {
  behind : after_items (text_at l.self.source.now l.self.tokens.now) l.self.tags.now l.before (drop l.item-index l.items) ≡ after_items (text_at l.fn.self.source.now l.fn.self.tokens.now) l.fn.self.tags.now nothing_before l.fn.items;
  structs : l.structs ++ structs_in (text_at l.self.source.now l.self.tokens.now) l.self.tags.now l.before (drop l.item-index l.items) ≡ structs_in (text_at l.fn.self.source.now l.fn.self.tokens.now) l.fn.self.tags.now nothing_before l.fn.items;
  functions : l.functions ++ functions_in (text_at l.self.source.now l.self.tokens.now) l.self.tags.now l.before (drop l.item-index l.items) ≡ functions_in (text_at l.fn.self.source.now l.fn.self.tokens.now) l.fn.self.tags.now nothing_before l.fn.items;
}
