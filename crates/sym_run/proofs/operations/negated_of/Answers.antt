use Rattle.std.proofs.Common.{◌∙◌, sym}
use Rattle.sym_run.proofs.FormedLaws.{negated_plain, negated_multiple}
use Rattle.sym_run.proofs.operations.negated_of.Goals as goal

pub returns-then-depends : goal.returns-then-depends
returns-then-depends c = negated_multiple c.args.a.now _ (sym c.depends.ensures.value ∙ c.if-depends.true) (c.or_wide.ensures _ c.scale.ensures.form)

pub returns : goal.returns
returns c = negated_plain c.args.a.now (sym c.depends.ensures.value ∙ c.if-depends.false)
