use Rattle.std.proofs.Common.{◌∙◌, sym}
use Rattle.sym_run.proofs.EventLaws.{divisor_term, divisor_nothing}
use Rattle.sym_run.proofs.number_events.divisor_asked.Goals as goal

pub returns-then-either_depends : goal.returns-then-either_depends
returns-then-either_depends c = divisor_term c.args.a.now c.args.b.now (sym c.either_depends.ensures.value ∙ c.if-either_depends.true)

pub returns : goal.returns
returns c = divisor_nothing c.args.a.now c.args.b.now (sym c.either_depends.ensures.value ∙ c.if-either_depends.false)
