use Rattle.std.proofs.Common.{rules, ◌∙◌, ap, map}
use Rattle.std.proofs.lemmas.List.Sorted.{IsNonDecreasingBy-from_sort_by_key}
use Rattle.c_trees.specs.Walks.{mark}
use Rattle.c_types.specs.Ranks.{place}
use Rattle.c_types.proofs.Sorting.{sites_sorted}
use Rattle.c_types.proofs.sites.sites_in.Goals as goal

pub returns : goal.returns
returns c = sites_sorted c.sites_at.result c.args.tokens.now c.args.items.now c.as_slice.result.now c.in_ok-sites.sites.items c.sort_unstable_by_key.new.self.items c.as_slice-2.result.now (ap (map mark) c.as_slice.ensures ∙ c.in_ok-found.ensures) c.in_ok-sites.ensures.items c.sort_unstable_by_key.ensures.permutation
    (IsNonDecreasingBy-from_sort_by_key (λ m. place (mark m)) _ c.sort_unstable_by_key.ensures.sorted (λ a r q k. search rules)) c.as_slice-2.ensures.value c.sites_at.ensures
