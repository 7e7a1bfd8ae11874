use Rattle.sym_run.specs.Numbers.{cmp_of}
use Rattle.sym_expr.specs.Sums.{difference_of}
use Rattle.sym_run.proofs.EventLaws.{told, some_narrow, none_narrow, difference_some, difference_none}
use Rattle.sym_run.proofs.number_events.difference_asked.Goals as goal

pub returns-in-Ok : goal.returns-in-Ok
returns-in-Ok c =
    let d = difference_of c.args.a.now c.args.b.now in
    told c.zero_asked.result _ _ c.zero_asked.ensures (difference_some (cmp_of c.args.comparison) _ c.in-Ok.difference (some_narrow c.sub.result d c.in-Ok.difference c.in-Ok.is c.sub.ensures.form))

pub returns-in-Err : goal.returns-in-Err
returns-in-Err c =
    let d = difference_of c.args.a.now c.args.b.now in
    difference_none (cmp_of c.args.comparison) _ (none_narrow c.sub.result d c.in-Err.field-0 c.in-Err.is c.sub.ensures.form)
