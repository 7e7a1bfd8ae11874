use Rattle.std.proofs.Common.{◌∙◌, sym}
use Rattle.sym_run.proofs.EventLaws.{told, test_depends, test_nothing}
use Rattle.sym_run.proofs.number_events.test_asked.Goals as goal

pub returns-then-depends : goal.returns-then-depends
returns-then-depends c = told c.two_choices.result _ _ c.two_choices.ensures (test_depends c.args.number.now _ _ (sym c.depends.ensures.value ∙ c.if-depends.true) c.copy.ensures c.copy-then-depends.ensures)

pub returns : goal.returns
returns c = test_nothing c.args.number.now (sym c.depends.ensures.value ∙ c.if-depends.false)
