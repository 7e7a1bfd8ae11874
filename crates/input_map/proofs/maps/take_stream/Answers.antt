use Rattle.std.proofs.Common.{◌∷◌, ◌++◌, inr, pos, [], get_or, arith, rules, ap, ◌∙◌, to_z, of_z, w32, w64, FitsSigned}
use Rattle.std.proofs.lemmas.List.{drop_all}
use Rattle.std.proofs.lemmas.Int.{to_z-of_z}
use Rattle.input_map.proofs.Streams.{out_at, in_at, kept_at, all_in}
use Rattle.input_map.proofs.maps.take_stream.Goals as goal

pub returns-in-None-clause-judged : goal.returns-in-None-clause-judged
returns-in-None-clause-judged c =
    let fits : FitsSigned w64 (get_or c.args.stream.now c.loop-at.at (pos 0)) = search rules in
    inr (out_at c.args.bounds.now c.args.stream.now c.loop-at.at (to_z w64 (of_z w64 (get_or c.args.stream.now c.loop-at.at (pos 0)))) (pos 0) (omega arith)
    (to_z-of_z w64 (get_or c.args.stream.now c.loop-at.at (pos 0)) fits) c.loop-at.invariant.so_far c.in-None.ensures)

pub loop-at-preserved : goal.loop-at-preserved
loop-at-preserved c =
    let fits : FitsSigned w64 (get_or c.args.stream.now c.loop-at.at (pos 0)) = search rules in
    record {
      taken = kept_at c.args.bounds.now c.args.stream.now c.loop-at.at (to_z w64 (of_z w64 (get_or c.args.stream.now c.loop-at.at (pos 0)))) (pos 0) (omega arith)
          (to_z-of_z w64 (get_or c.args.stream.now c.loop-at.at (pos 0)) fits) c.loop-at.invariant.so_far c.in-Some.number c.loop-at.numbers c.push.new.self c.in-Some.ensures c.loop-at.invariant.taken
          (let n : FitsSigned w32 c.in-Some.number = search rules in c.in_ok-push-in-Some.ensures.ok ∙ ap (λ v. c.loop-at.numbers ++ v ∷ []) (to_z-of_z w32 c.in-Some.number n));
      so_far = in_at c.args.bounds.now c.args.stream.now c.loop-at.at (to_z w64 (of_z w64 (get_or c.args.stream.now c.loop-at.at (pos 0)))) (pos 0) (omega arith)
          (to_z-of_z w64 (get_or c.args.stream.now c.loop-at.at (pos 0)) fits) c.loop-at.invariant.so_far c.in-Some.number c.in-Some.ensures;
    }

pub returns-clause-judged : goal.returns-clause-judged
returns-clause-judged c = all_in c.args.bounds.now c.args.stream.now c.loop-at.at c.loop-at.invariant.so_far (drop_all c.loop-at.at c.args.stream.now (omega arith))
