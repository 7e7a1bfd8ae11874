use Rattle.std.proofs.Common.{sym, arith, rules, SFits, w64}
use Rattle.std.proofs.lemmas.Int.{to_z-of_z}
use Rattle.std.proofs.lemmas.Option.{slice_get-get_or, slice_get_within}
use Rattle.sym_run.proofs.StartLaws.{arg_step, args_done}
use Rattle.sym_run.proofs.start.arg_cells.Goals as goal

pub loop-number-preserved : goal.loop-number-preserved
loop-number-preserved c =
    let fits : SFits w64 c.in-Some.value = search rules in
    let within = slice_get_within c.args.numbers.now c.loop-number.number c.in-Some.value (sym c.in-Some.ensures) in
    let r = arg_step c.args.types.now c.args.numbers.now c.loop-number.number _ _ c.in-Some.value c.loop-number.places c.new_cell.new.places _ c.loop-number.symbols c.new_cell.new.symbols _ c.loop-number.cells c.push.new.self _ _
    c.in_ok-new_cell-in-Some.ensures.places (slice_get-get_or c.args.types.now c.loop-number.number _ c.loop-number-test.true) c.in-Some.ensures c.in_ok-new_cell-in-Some.ensures.symbols c.in_ok-new_cell-in-Some.ensures.cell (to_z-of_z w64 c.in-Some.value fits)
    c.in_ok-push-in-Some.ensures.ok c.loop-number.invariant.cells c.loop-number.invariant.places c.loop-number.invariant.symbols in
    record { cells = r.0; places = r.1; symbols = r.2; enough = omega (arith, within) }

pub returns-clause-places : goal.returns-clause-places
returns-clause-places c = args_done c.loop-number.number c.args.types.now c.loop-number.places _ c.loop-number-test.false c.loop-number.invariant.places
