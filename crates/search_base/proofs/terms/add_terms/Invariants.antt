use Rattle.std.proofs.Common.{map, take, ◌⊎◌, ◌↔◌}
use Rattle.cc_base.specs.Paths.{In}
use Rattle.cc_model.specs.Tested.{Term}
use Rattle.search_base.specs.Terms.{found_at}
use Rattle.search_base.specs.Terms.{seen_term, InOrder}
use Rattle.search_base.proofs.terms.add_terms.Given as goal

abbrev pub invariant-loop-term : goal.invariant-loop-term
invariant-loop-term l = record {
  all : (x : Term) → In x (map seen_term l.all.items) ↔ (In x (map seen_term l.initial.all.items) ⊎ In x (map (found_at l.checked) (take l.term-index l.terms)));
  order : InOrder l.initial.all.items → InOrder l.all.items;
}
