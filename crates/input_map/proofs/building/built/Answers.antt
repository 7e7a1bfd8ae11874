use Rattle.cc_model.specs.CheckedProgram.{core_of}
use Rattle.std.proofs.Common.{refl}
use Rattle.cc_base.specs.Limits.{base_of}
use Rattle.input_map.specs.Laying.{found_in, owner_in}
use Rattle.input_map.proofs.Built.{built_by}
use Rattle.input_map.proofs.building.built.Goals as goal

pub returns : goal.returns
returns c = λ a deep. built_by (core_of c.args.checked.now) c.args.bounds.now c.args.places.now c.args.values.now (base_of c.args.bounds.now) (found_in c.in_ok-found.found) (owner_in c.in_ok-owners.owners)
    c.count_of-count.result c.stream_end.result c.as_slice.result.now c.in_ok-cells.cells c.in_ok-stream.stream refl (c.lo-lo.ensures.in_range).numbers c.count_of-count.ensures.value c.count_of-count.ensures.parents
    c.as_slice.ensures c.in_ok-found.ensures c.in_ok-owners.ensures c.in_ok-cells.ensures c.stream_end.ensures c.in_ok-stream.ensures a deep
