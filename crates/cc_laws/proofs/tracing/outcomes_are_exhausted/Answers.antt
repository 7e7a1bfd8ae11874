use Rattle.cc_laws.proofs.Exact.{exhausts_at}
use Rattle.cc_laws.proofs.LinearLaws.{linear_laws}
use Rattle.cc_laws.specs.LinearForms.{linear}
use Rattle.cc_laws.proofs.tracing.outcomes_are_exhausted.Goals as goal

pub returns : goal.returns
returns c = λ p b u k points ok clean. exhausts_at linear linear_laws p b points u ok k clean
