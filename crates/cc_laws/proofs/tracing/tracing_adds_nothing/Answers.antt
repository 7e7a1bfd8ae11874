use Rattle.cc_laws.proofs.Erased.{erased_at}
use Rattle.cc_laws.proofs.tracing.tracing_adds_nothing.Goals as goal

pub returns-clause-events : goal.returns-clause-events
returns-clause-events c = λ f p b h. (erased_at f p b h).0

pub returns-clause-path : goal.returns-clause-path
returns-clause-path c = λ f p b h. (erased_at f p b h).1

pub returns-clause-end : goal.returns-clause-end
returns-clause-end c = λ f p b h. (erased_at f p b h).2

pub returns-clause-steps : goal.returns-clause-steps
returns-clause-steps c = λ f p b h. (erased_at f p b h).3
