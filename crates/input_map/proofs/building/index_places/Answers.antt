use Rattle.std.proofs.Common.{◌≡◌, sym, subst, add-one, arith}
use Rattle.input_map.specs.Laying.{IsIndex, found_in}
use Rattle.input_map.proofs.Indexed.{index_none}
use Rattle.input_map.proofs.building.index_places.Goals as goal

pub loop-id-init : goal.loop-id-init
loop-id-init c = index_none c.args.places.now c.no_places-found.result c.no_places-found.ensures

pub loop-id-preserved : goal.loop-id-preserved
loop-id-preserved c = subst (λ n. IsIndex c.args.places.now n (found_in c.index_place.new.found)) (sym (add-one c.loop-id.id)) (c.in_ok-index_place.ensures c.loop-id.invariant)

pub returns : goal.returns
returns c = let e : c.loop-id.id ≡ c.args.count = omega arith in subst (λ n. IsIndex c.args.places.now n (found_in c.loop-id.found)) e c.loop-id.invariant
