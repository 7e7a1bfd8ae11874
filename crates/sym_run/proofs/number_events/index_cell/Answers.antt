use Rattle.sym_run.specs.Beside.{value_of}
use Rattle.sym_run.specs.Numbers.{form_at}
use Rattle.sym_run.proofs.FormedLaws.{zero_depends}
use Rattle.sym_run.proofs.EventLaws.{index_nothing}
use Rattle.sym_run.proofs.number_events.index_cell.Goals as goal

pub returns-then-i-eq0 : goal.returns-then-i-eq0
returns-then-i-eq0 c =
    let l = c.args.symbols.now in let i = c.args.i in
    index_nothing (form_at l i) (zero_depends l i.shadow (value_of i.value) c.if-i-eq0.true)
