use Rattle.std.proofs.Common.{bytes_eq}
use Rattle.indexmap.specs.IndexMap.{get_by}
use Rattle.c_names.proofs.IndexLemmas.{place_added}
use Rattle.c_names.proofs.name_index.NameIndex.add.Goals as goal

pub invariant_of-self-in_default : goal.invariant_of-self-in_default
invariant_of-self-in_default c =
    place_added c.self.inside.names c.push.new.self c.in_ok-from_slice.field-0 c.args.name.now c.len-place.result
    (λ q. get_by (λ k. bytes_eq q k.items) c.self.inside.places) (λ q. get_by (λ k. bytes_eq q k.items) c.put.new.places)
    c.in_ok-push.ensures.ok c.in_ok-from_slice.ensures c.len-place.ensures c.self.invariant c.in_default.ensures.found
