use Rattle.cc_laws.proofs.Exact.{alike_at}
use Rattle.cc_laws.proofs.LinearLaws.{linear_laws}
use Rattle.cc_laws.specs.LinearForms.{linear}
use Rattle.cc_laws.proofs.tracing.same_outcomes_ask_alike.Goals as goal

pub returns : goal.returns
returns c = λ p b u h k points ok other clean same. alike_at linear linear_laws p b points u ok h other k clean same
