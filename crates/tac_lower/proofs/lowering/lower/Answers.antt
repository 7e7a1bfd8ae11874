use Rattle.tac_lower.specs.declared.tac.Tac.{Tac}
use Rattle.tac_lower.proofs.Wholes.{lowered, lowered_funcs, lowered_temps}
use Rattle.tac_lower.proofs.lowering.lower.Goals as goal

pub returns-clause-compiles : goal.returns-clause-compiles
returns-clause-compiles c =
    let tac : Tac = record { funcs = c.in_ok-funcs.funcs; globals = c.in_ok-tables.tables.all_cells; code = c.in_ok-code.code } in
    lowered c.args.checked.now tac c.in_ok-written.written.code c.as_slice-2.result.now c.in_ok-written.written.funcs c.as_slice-4.result.now c.in_ok-total.total c.in_ok-temps.temps c.len.result
    c.requires.0 c.requires.1 c.requires.2 c.requires.3 c.in_ok-narrow.ensures c.in_ok-written.ensures c.len.ensures c.in_ok-total.ensures.value c.in_ok-total.ensures.room
    c.as_slice-2.ensures c.as_slice-4.ensures c.in_ok-code.ensures c.in_ok-funcs.ensures

pub returns-clause-functions : goal.returns-clause-functions
returns-clause-functions c = lowered_funcs c.args.checked.now c.in_ok-written.written.code c.in_ok-written.written.funcs c.as_slice-4.result.now c.in_ok-funcs.funcs c.in_ok-total.total c.in_ok-temps.temps c.in_ok-written.ensures c.as_slice-4.ensures c.in_ok-funcs.ensures

pub returns-clause-temps : goal.returns-clause-temps
returns-clause-temps c = lowered_temps c.in_ok-code.code c.as_slice-3.result.now c.as_slice-4.result.now c.in_ok-funcs.funcs c.in_ok-total.total c.in_ok-temps.temps c.as_slice-3.ensures c.in_ok-temps.ensures c.in_ok-funcs.ensures
