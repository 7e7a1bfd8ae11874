use Rattle.std.proofs.Common.{◌⊎◌, ◌↔◌, map, refl, ap, ◌∙◌, subst}
use Rattle.cc_base.specs.Paths.{In}
use Rattle.search_base.specs.Terms.{found_at, seen_term}
use Rattle.search_dfs.specs.Task.{setting_of}
use Rattle.search_dfs.specs.Turns.{test_at}
use Rattle.search_dfs.proofs.Terms.{past_counted, run_terms}
use Rattle.search_dfs.proofs.tally.Tally.count_past.Goals as goal

pub returns : goal.returns
returns c = past_counted (setting_of (c.args.task).now) (test_at (c.args.run).now) (c.args.self).now _ (λ x. subst (λ m. In x (map seen_term (c.add_terms.new.all).items) ↔ (In x (map seen_term (((c.args.self).now).terms).items) ⊎ In x m)) (ap (map (found_at (((c.args.task).now).checked).now)) c.as_slice.ensures ∙ run_terms (setting_of (c.args.task).now) ((c.args.run).now).from ((c.args.run).now).trace ((c.args.run).now).path c.requires) (c.in_ok-add_terms.ensures.all x)) c.in_ok-add_terms.ensures.order refl c.in_ok-runs.ensures refl refl refl refl refl
