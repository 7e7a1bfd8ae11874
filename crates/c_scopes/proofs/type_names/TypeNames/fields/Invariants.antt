use Rattle.std.proofs.Common.{◌≡◌, ◌++◌, drop}
use Rattle.cc_model.specs.Source.{text_at}
use Rattle.cc_model.specs.Scopes.{fields_of}
use Rattle.c_scopes.proofs.type_names.TypeNames.fields.Given as goal

abbrev pub invariant-loop-line : goal.invariant-loop-line
invariant-loop-line l = l.fields ++ fields_of (text_at l.self.source.now l.self.tokens.now) l.self.tags.now l.before (drop l.line-index l.lines)
    ≡ fields_of (text_at l.fn.self.source.now l.fn.self.tokens.now) l.fn.self.tags.now l.fn.before l.fn.lines
