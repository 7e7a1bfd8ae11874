use Rattle.std.proofs.Common.{refl}
use Rattle.concolic_cli.specs.Concolic.{quietly, aloud}
use Rattle.concolic_cli.proofs.call.answer.Goals as goal

pub returns-in-Ok-clause-answered : goal.returns-in-Ok-clause-answered
returns-in-Ok-clause-answered g c = quietly c.in-Ok.ensures.performed refl

pub returns-in-Err-clause-answered : goal.returns-in-Err-clause-answered
returns-in-Err-clause-answered g c = aloud _ _ c.in-Err.ensures.performed c.refuse.ensures
