use Rattle.std.proofs.Common.{◌+◌, suc, inr, pos, [], length, map, drop, get_or, arith, add-one, rules, sym, subst, to_z, of_z, w64, FitsSigned}
use Rattle.std.proofs.lemmas.Int.{to_z-of_z}
use Rattle.std.proofs.lemmas.Result.{err_from_is_err_and}
use Rattle.cc_model.specs.CheckedProgram.{cell_of, cells_at}
use Rattle.input_map.specs.CellFaults.{cells_fault}
use Rattle.input_map.specs.Standing.{Follows}
use Rattle.input_map.proofs.Standings.{cut_at, at_last, short, full}
use Rattle.input_map.proofs.checking.check_cells.Goals as goal

pub returns-in_err-cell : goal.returns-in_err-cell
returns-in_err-cell c =
    let fits : FitsSigned w64 (get_or c.args.cells.now c.loop-at.at (pos 0)) = search rules in
    let p = err_from_is_err_and c.from_residual.result c.from_residual.ensures.1 in
    rw (p.1, p.2) (c.in_err-cell.ensures (drop (c.loop-at.at + 1) c.args.cells.now) _
    (cut_at (cells_at c.args.checked.now) c.args.bounds.now (length c.args.cells.now) c.loop-at.at c.loop-at.standing c.args.cells.now _ c.loop-at.invariant
    (to_z w64 (of_z w64 (get_or c.args.cells.now c.loop-at.at (pos 0)))) (pos 0) (omega arith) (to_z-of_z w64 (get_or c.args.cells.now c.loop-at.at (pos 0)) fits)))

pub loop-at-preserved : goal.loop-at-preserved
loop-at-preserved c =
    let fits : FitsSigned w64 (get_or c.args.cells.now c.loop-at.at (pos 0)) = search rules in
    subst (λ n. Follows (cells_at c.args.checked.now) c.args.bounds.now (length c.args.cells.now) n c.cell.new.self (drop (c.loop-at.at + 1) c.args.cells.now)
    (cells_fault (cells_at c.args.checked.now) c.args.bounds.now (map cell_of c.args.params) [] (suc (length (map cell_of c.args.params))) 1 c.args.cells.now)) (sym (add-one c.loop-at.at))
    (c.in_ok-cell.ensures (drop (c.loop-at.at + 1) c.args.cells.now) _
    (cut_at (cells_at c.args.checked.now) c.args.bounds.now (length c.args.cells.now) c.loop-at.at c.loop-at.standing c.args.cells.now _ c.loop-at.invariant
    (to_z w64 (of_z w64 (get_or c.args.cells.now c.loop-at.at (pos 0)))) (pos 0) (omega arith) (to_z-of_z w64 (get_or c.args.cells.now c.loop-at.at (pos 0)) fits)))

pub returns-then-standing-most : goal.returns-then-standing-most
returns-then-standing-most c = let t = c.if-standing-most.true in
    inr (short (cells_at c.args.checked.now) c.args.bounds.now (length c.args.cells.now) c.loop-at.standing _ (omega arith)
    (at_last (cells_at c.args.checked.now) c.args.bounds.now (length c.args.cells.now) c.loop-at.at c.loop-at.standing c.args.cells.now _ c.loop-at.invariant (omega arith) (omega arith)) (omega arith))

pub returns : goal.returns
returns c = let t = c.if-standing-most.false in
    full (cells_at c.args.checked.now) c.args.bounds.now (length c.args.cells.now) c.loop-at.standing _ (omega arith)
    (at_last (cells_at c.args.checked.now) c.args.bounds.now (length c.args.cells.now) c.loop-at.at c.loop-at.standing c.args.cells.now _ c.loop-at.invariant (omega arith) (omega arith)) (omega arith)
