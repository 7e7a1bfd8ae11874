-- The line was said and the status is the refusal's.
use Rattle.std.proofs.Common.{inl, refl}
use Rattle.concolic_cli.proofs.answers.refuse.Goals as goal

pub returns-in-OutputFailed : goal.returns-in-OutputFailed
returns-in-OutputFailed g c = rw c.in-OutputFailed.is (inl (refl, c.say-in-OutputFailed.ensures))
