use Rattle.cc_laws.proofs.Exact.{exact_at}
use Rattle.cc_laws.proofs.LinearLaws.{linear_laws}
use Rattle.cc_laws.specs.LinearForms.{linear}
use Rattle.cc_laws.proofs.tracing.conditions_are_exact.Goals as goal

pub returns : goal.returns
returns c = λ p b u k points ok clean. exact_at linear linear_laws p b points u ok k clean
