use Rattle.std.proofs.Common.{pos, arith, rules, get_or, FitsSigned, w64, to_z, of_z}
use Rattle.std.proofs.lemmas.Int.{to_z-of_z}
use Rattle.input_map.proofs.NumberTexts.{one_more}
use Rattle.input_map.proofs.writing.push_cells.Goals as goal

pub loop-at-preserved : goal.loop-at-preserved
loop-at-preserved c =
    let f : FitsSigned w64 (get_or c.args.cells.now c.loop-at.at (pos 0)) = search rules in
    one_more _ _ _ c.args.cells.now c.loop-at.at (to_z w64 (of_z w64 (get_or c.args.cells.now c.loop-at.at (pos 0)))) (pos 0) (omega arith) (to_z-of_z w64 (get_or c.args.cells.now c.loop-at.at (pos 0)) f) c.loop-at.invariant c.in_ok-push_next.ensures
