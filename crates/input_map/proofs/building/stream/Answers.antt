use Rattle.std.proofs.Common.{◌≡◌, ◌∷◌, ◌++◌, [], ap, ◌∙◌, sym, subst, arith, rules, FitsSigned, w32}
use Rattle.std.proofs.lemmas.Int.{to_z-of_z}
use Rattle.cc_base.specs.Limits.{base_of}
use Rattle.input_map.specs.Builds.{number_of}
use Rattle.input_map.specs.Laying.{found_in, IsStream, number_there}
use Rattle.input_map.proofs.Steps.{stream_none, stream_more}
use Rattle.input_map.proofs.building.stream.Goals as goal

pub loop-number-init : goal.loop-number-init
loop-number-init c = subst (IsStream (number_of c.args.values.now (base_of c.args.bounds.now)) (base_of c.args.bounds.now) (found_in (c.args.index.now).found 1) 0) (sym c.new-numbers.ensures)
    (stream_none (number_of c.args.values.now (base_of c.args.bounds.now)) (base_of c.args.bounds.now) (found_in (c.args.index.now).found 1))

pub loop-number-preserved : goal.loop-number-preserved
loop-number-preserved c =
    let fits : FitsSigned w32 c.number_in.result = search rules in
    subst (IsStream (number_of c.args.values.now (base_of c.args.bounds.now)) (base_of c.args.bounds.now) (found_in (c.args.index.now).found 1) _)
    (sym (c.in_ok-push.ensures.ok ∙ ap (λ z. c.loop-number.numbers ++ z ∷ []) (to_z-of_z w32 c.number_in.result fits)))
    (stream_more (number_of c.args.values.now (base_of c.args.bounds.now)) (base_of c.args.bounds.now) (found_in (c.args.index.now).found 1) c.loop-number.number c.loop-number.numbers c.number_in.result
    (c.number_in.ensures ∙ ap (number_there (number_of c.args.values.now (base_of c.args.bounds.now)) (base_of c.args.bounds.now)) c.find.ensures) c.loop-number.invariant)

pub returns : goal.returns
returns c = let e : c.loop-number.number ≡ c.args.end = omega arith in
    subst (λ n. IsStream (number_of c.args.values.now (base_of c.args.bounds.now)) (base_of c.args.bounds.now) (found_in (c.args.index.now).found 1) n c.loop-number.numbers) e c.loop-number.invariant
