use Rattle.std.proofs.Common.{sym, arith, rules, SFits, w64}
use Rattle.std.proofs.lemmas.Int.{to_z-of_z}
use Rattle.std.proofs.lemmas.Option.{slice_get-get_or, slice_get_within}
use Rattle.sym_run.proofs.AccessLaws.{all_step, places_done}
use Rattle.sym_run.proofs.access.new_cells.Goals as goal

pub loop-offset-preserved : goal.loop-offset-preserved
loop-offset-preserved c =
    let fits : SFits w64 c.in-Some.number = search rules in
    let within = slice_get_within c.args.numbers.now c.loop-offset.offset c.in-Some.number (sym c.in-Some.ensures) in
    let r = all_step c.args.layout.now c.args.numbers.now c.loop-offset.offset c.args.first.0 _ _ c.in-Some.number c.loop-offset.places c.new_cell.new.places _ c.loop-offset.symbols c.new_cell.new.symbols _ c.loop-offset.cells.items c.push.new.self.items _ _
    c.in_ok-new_cell-in-Some.ensures.places (slice_get-get_or c.args.layout.now c.loop-offset.offset _ c.loop-offset-test.true) c.in-Some.ensures c.in_ok-new_cell-in-Some.ensures.symbols c.in_ok-new_cell-in-Some.ensures.cell (to_z-of_z w64 c.in-Some.number fits)
    c.in_ok-push-in-Some.ensures.items c.loop-offset.invariant.cells c.loop-offset.invariant.places c.loop-offset.invariant.symbols c.loop-offset.invariant.parent in
    record { cells = r.0; places = r.1; symbols = r.2; parent = r.3; enough = omega (arith, within) }

pub returns-clause-places : goal.returns-clause-places
returns-clause-places c = places_done c.args.first.0 c.loop-offset.offset c.args.layout.now c.loop-offset.places _ c.loop-offset-test.false c.loop-offset.invariant.places
