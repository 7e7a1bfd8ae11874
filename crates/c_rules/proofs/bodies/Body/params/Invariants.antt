-- The parameters that are left lead to the same.
use Rattle.std.proofs.Common.{◌≡◌, drop}
use Rattle.cc_model.specs.Source.{text_at}
use Rattle.cc_model.specs.Faults.{first_say, params_of}
use Rattle.c_scopes.specs.Places.{place}
use Rattle.c_rules.proofs.bodies.Body.params.Given as goal

abbrev pub invariant-loop-param : goal.invariant-loop-param
invariant-loop-param l =
    first_say l.notes (params_of (text_at l.self.view.source.now l.self.view.tokens.now) l.self.view.file.now l.self.view.before.now (drop l.param-index l.params) (place l.inside))
    ≡ first_say l.fn.notes (params_of (text_at l.fn.self.view.source.now l.fn.self.view.tokens.now) l.fn.self.view.file.now l.fn.self.view.before.now l.fn.params (place l.fn.inside))
