use Rattle.concolic_cli.proofs.Calls.{made_for, unmade_as}
use Rattle.concolic_cli.proofs.performing.make.Goals as goal

pub returns-in-Ok-clause-performed : goal.returns-in-Ok-clause-performed
returns-in-Ok-clause-performed g c = made_for _ _ _ c.args.branches c.requires.accepted c.in-Ok.ensures

pub returns-in-Err-clause-performed : goal.returns-in-Err-clause-performed
returns-in-Err-clause-performed g c = unmade_as _ _ c.args.branches c.in-Err.refusal c.requires.accepted c.in-Err.ensures c.naming.result c.naming.ensures.why c.naming.ensures.names
