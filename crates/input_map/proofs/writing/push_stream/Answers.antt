use Rattle.std.proofs.Common.{◌≡◌, pos, arith, rules, get_or, FitsSigned, w32, w64, to_z, of_z}
use Rattle.std.proofs.lemmas.Int.{ints}
use Rattle.input_map.proofs.NumberTexts.{one_more}
use Rattle.input_map.proofs.writing.push_stream.Goals as goal

pub loop-at-preserved : goal.loop-at-preserved
loop-at-preserved c =
    let f : FitsSigned w32 (get_or c.args.stream.now c.loop-at.at (pos 0)) = search rules in
    let e : to_z w64 (of_z w64 c.from.result) ≡ get_or c.args.stream.now c.loop-at.at (pos 0) = omega (arith, ints) in
    one_more _ _ _ c.args.stream.now c.loop-at.at (to_z w64 (of_z w64 c.from.result)) (pos 0) (omega arith) e c.loop-at.invariant c.in_ok-push_next.ensures
