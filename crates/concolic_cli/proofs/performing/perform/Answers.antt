use Rattle.std.proofs.Common.{refl, subst}
use Rattle.command_words.specs.Words.{texts, Accepted}
use Rattle.concolic_cli.proofs.Calls.{bad_as}
use Rattle.concolic_cli.proofs.Commands.{has_after, branches_in}
use Rattle.concolic_cli.proofs.performing.perform.Goals as goal

pub list_or_walk-requires-clause-after : goal.list_or_walk-requires-clause-after
list_or_walk-requires-clause-after g c = has_after (texts c.args.words.now) c.in-Ok-Run.run' (subst (λ k. Accepted (texts c.args.words.now) k) c.in-Ok-Run.field-0-is c.in-Ok-Run.ensures.accepted)

pub make-requires-clause-few : goal.make-requires-clause-few
make-requires-clause-few g c = (branches_in (texts c.args.words.now) c.in-Ok-Make.branches (subst (λ k. Accepted (texts c.args.words.now) k) c.in-Ok-Make.field-0-is c.in-Ok-Make.ensures.accepted)).1

pub make-requires-clause-some : goal.make-requires-clause-some
make-requires-clause-some g c = (branches_in (texts c.args.words.now) c.in-Ok-Make.branches (subst (λ k. Accepted (texts c.args.words.now) k) c.in-Ok-Make.field-0-is c.in-Ok-Make.ensures.accepted)).0

pub returns-in-Err-clause-performed : goal.returns-in-Err-clause-performed
returns-in-Err-clause-performed g c = bad_as _ _ c.in-Err.bad c.in-Err.ensures.bad refl c.naming.result c.naming.ensures.why
