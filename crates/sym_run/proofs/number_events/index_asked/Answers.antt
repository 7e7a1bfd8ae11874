use Rattle.std.proofs.Common.{◌∙◌, sym}
use Rattle.sym_run.proofs.EventLaws.{index_term, index_nothing}
use Rattle.sym_run.proofs.number_events.index_asked.Goals as goal

pub returns-then-depends : goal.returns-then-depends
returns-then-depends c = index_term c.args.i.now (sym c.depends.ensures.value ∙ c.if-depends.true)

pub returns : goal.returns
returns c = index_nothing c.args.i.now (sym c.depends.ensures.value ∙ c.if-depends.false)
