use Rattle.std.proofs.Common.{◌≡◌, ◌++◌, drop}
use Rattle.cc_model.specs.Source.{text_at}
use Rattle.cc_model.specs.Scopes.{func_params}
use Rattle.c_scopes.proofs.type_names.TypeNames.func_params.Given as goal

abbrev pub invariant-loop-param : goal.invariant-loop-param
invariant-loop-param l = l.types ++ func_params (text_at l.self.source.now l.self.tokens.now) l.self.tags.now l.before (drop l.param-index l.params)
    ≡ func_params (text_at l.fn.self.source.now l.fn.self.tokens.now) l.fn.self.tags.now l.fn.before l.fn.params
