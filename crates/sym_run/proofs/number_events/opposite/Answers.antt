use Rattle.sym_run.proofs.EventLaws.{opposite_is_narrow}
use Rattle.sym_run.proofs.number_events.opposite.Goals as goal

pub returns-clause-narrow : goal.returns-clause-narrow
returns-clause-narrow c = opposite_is_narrow _ c.args.form.now c.opposite.ensures.form c.requires
