use Rattle.sym_run.specs.Beside.{value_of}
use Rattle.sym_run.specs.Numbers.{form_at}
use Rattle.sym_run.proofs.FormedLaws.{zero_neither}
use Rattle.sym_run.proofs.EventLaws.{divisor_nothing}
use Rattle.sym_run.proofs.number_events.divisor_cells.Goals as goal

pub returns-then-b-eq0 : goal.returns-then-b-eq0
returns-then-b-eq0 c =
    let l = c.args.symbols.now in let a = c.args.a in let b = c.args.b in
    divisor_nothing (form_at l a) (form_at l b) (zero_neither l a.shadow b.shadow (value_of a.value) (value_of b.value) c.if-a-eq0.true c.if-b-eq0.true)
