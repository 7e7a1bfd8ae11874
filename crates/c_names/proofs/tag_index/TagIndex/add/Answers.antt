use Rattle.std.proofs.Common.{bytes_eq}
use Rattle.indexmap.specs.IndexMap.{get_by}
use Rattle.c_names.proofs.IndexLemmas.{tag_added}
use Rattle.c_names.proofs.tag_index.TagIndex.add.Goals as goal

pub invariant_of-self-in_default : goal.invariant_of-self-in_default
invariant_of-self-in_default c =
    tag_added c.self.inside.tags c.push.new.self c.in_ok-tag.tag c.args.name.now c.len-place.result
    (λ q. get_by (λ k. bytes_eq q k.items) c.self.inside.places) (λ q. get_by (λ k. bytes_eq q k.items) c.put.new.places)
    c.in_ok-push.ensures.ok c.in_ok-tag.ensures c.len-place.ensures c.self.invariant c.in_default.ensures.found
