use Rattle.run_laws.proofs.LawfulLaws.{lawful}
use Rattle.run_laws.proofs.a_run_is_lawful.Goals as goal

pub returns : goal.returns
returns c = λ p b u points ok. lawful p b u points ok
