-- The declarators that are left lead to the same.
use Rattle.std.proofs.Common.{◌≡◌, drop}
use Rattle.cc_model.specs.Source.{text_at}
use Rattle.cc_model.specs.Typing.{judged}
use Rattle.cc_model.specs.Faults.{first_say, declareds_of}
use Rattle.c_scopes.specs.Places.{place}
use Rattle.c_rules.proofs.bodies.Body.declareds.Given as goal

abbrev pub invariant-loop-part : goal.invariant-loop-part
invariant-loop-part l =
    first_say l.notes (declareds_of (judged (text_at l.self.view.source.now l.self.view.tokens.now)) (text_at l.self.view.source.now l.self.view.tokens.now) l.self.view.file.now l.self.view.before.now l.self.gives.now l.base (drop l.part-index l.parts) (place l.inside))
    ≡ first_say l.fn.notes (declareds_of (judged (text_at l.fn.self.view.source.now l.fn.self.view.tokens.now)) (text_at l.fn.self.view.source.now l.fn.self.view.tokens.now) l.fn.self.view.file.now l.fn.self.view.before.now l.fn.self.gives.now l.fn.base l.fn.parts (place l.fn.inside))
