use Rattle.std.proofs.Common.{◌∙◌, sym}
use Rattle.sym_run.specs.Numbers.{cmp_of}
use Rattle.sym_run.proofs.EventLaws.{told, numbers_difference, numbers_nothing}
use Rattle.sym_run.proofs.number_events.numbers_asked.Goals as goal

pub returns-then-either_depends : goal.returns-then-either_depends
returns-then-either_depends c = told c.difference_asked.result _ _ c.difference_asked.ensures (numbers_difference (cmp_of c.args.comparison) c.args.a.now c.args.b.now (sym c.either_depends.ensures.value ∙ c.if-either_depends.true))

pub returns : goal.returns
returns c = numbers_nothing (cmp_of c.args.comparison) c.args.a.now c.args.b.now (sym c.either_depends.ensures.value ∙ c.if-either_depends.false)
