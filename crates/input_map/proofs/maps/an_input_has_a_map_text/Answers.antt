use Rattle.std.proofs.Common.{◌≤ℤ◌, pos, negsuc, arith}
use Rattle.std.proofs.lemmas.Int.{ints}
use Rattle.cc_model.specs.Runs.{params_of}
use Rattle.input_map.proofs.ShortNumbers.{has_map}
use Rattle.input_map.proofs.maps.an_input_has_a_map_text.Goals as goal

pub returns : goal.returns
returns c = λ p h points ok few.
    let l = c.lo-low.ensures.value in let m = c.hi-high.ensures.value in
    let low : negsuc 2147483647 ≤ℤ (c.args.bounds.now).lo = omega (arith, ints) in
    let high : (c.args.bounds.now).hi ≤ℤ pos 2147483647 = omega (arith, ints) in
    has_map c.args.bounds.now low high p.layouts (params_of p) h points ok few
