use Rattle.sym_run.specs.Beside.{value_of}
use Rattle.sym_run.specs.Numbers.{form_at}
use Rattle.sym_run.proofs.FormedLaws.{negated_plain, zero_depends}
use Rattle.sym_run.proofs.operations.negated_cell.Goals as goal

pub returns-then-a-eq0 : goal.returns-then-a-eq0
returns-then-a-eq0 c =
    let l = c.args.symbols.now in let a = c.args.a in
    negated_plain (form_at l a) (zero_depends l a.shadow (value_of a.value) c.if-a-eq0.true)
