use Rattle.std.proofs.Common.{◌≡◌, ◌++◌, drop, map}
use Rattle.cc_model.specs.Source.{text_at}
use Rattle.cc_model.specs.Scopes.{field_of}
use Rattle.c_scopes.proofs.type_names.TypeNames.add_line.Given as goal

abbrev pub invariant-loop-declarator : goal.invariant-loop-declarator
invariant-loop-declarator l = l.fields ++ map (field_of (text_at l.self.source.now l.self.tokens.now) l.self.tags.now l.before l.base) (drop l.declarator-index l.parts)
    ≡ l.fn.fields ++ map (field_of (text_at l.fn.self.source.now l.fn.self.tokens.now) l.fn.self.tags.now l.fn.before l.fn.base) l.fn.parts
