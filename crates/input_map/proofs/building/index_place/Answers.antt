use Rattle.sym_expr.specs.PlacesSeen.{place_of}
use Rattle.input_map.specs.Laying.{found_in}
use Rattle.input_map.proofs.Indexed.{index_no_place, index_a_place}
use Rattle.input_map.proofs.building.index_place.Goals as goal

pub returns-in_default : goal.returns-in_default
returns-in_default c = λ h. index_no_place c.args.places.now c.args.id (found_in c.args.found.now) c.in_default.ensures h

pub returns : goal.returns
returns c = λ h. index_a_place c.args.places.now c.args.id c.key_of.result c.args.found.now c.put_place.new.found (place_of c.in-Some.place) c.in-Some.ensures c.key_of.ensures.value c.key_of.ensures.small c.in_ok-put_place.ensures h
