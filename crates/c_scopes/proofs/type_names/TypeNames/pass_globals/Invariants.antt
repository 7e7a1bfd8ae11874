use Rattle.std.proofs.Common.{◌≡◌, drop}
use Rattle.cc_model.specs.Source.{text_at}
use Rattle.cc_model.specs.Scopes.{after_globals}
use Rattle.c_scopes.proofs.type_names.TypeNames.pass_globals.Given as goal

abbrev pub invariant-loop-part : goal.invariant-loop-part
invariant-loop-part l = after_globals (text_at l.self.source.now l.self.tokens.now) l.self.tags.now l.before l.base (drop l.part-index l.parts)
    ≡ after_globals (text_at l.fn.self.source.now l.fn.self.tokens.now) l.fn.self.tags.now l.fn.before l.fn.base l.fn.parts
