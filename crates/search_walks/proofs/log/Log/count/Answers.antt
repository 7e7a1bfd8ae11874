use Rattle.std.proofs.Common.{arith, map, length, ◌⊎◌, ◌↔◌, ◌||◌, ap, ◌∙◌, subst}
use Rattle.cc_base.specs.Paths.{In}
use Rattle.search_walks.specs.Covering.{Marks, IsTakenUpTo}
use Rattle.search_walks.specs.Task.{setting_of}
use Rattle.search_base.specs.Terms.{seen_term, found_at}
use Rattle.search_walks.proofs.TakeLaws.{took_marks}
use Rattle.search_walks.proofs.log.Log.count.Goals as goal

pub returns : goal.returns
returns c =
    let b = ap (map (found_at ((c.args.task).now).checked.now)) c.as_slice.ensures ∙ c.requires.run.terms in
    record {
      made = omega arith;
      fault = c.either-self.ensures ∙ ap (λ x. (c.args.self).now.fault || x) c.is_fault.ensures;
      terms = λ x. subst (λ l. In x (map seen_term (c.add_terms.new.all).items) ↔ (In x (map seen_term ((c.args.self).now.terms).items) ⊎ In x l)) b (c.in_ok-add_terms.ensures.all x);
      order = c.in_ok-add_terms.ensures.order;
      covered = took_marks (setting_of (c.args.task).now) ((c.args.run).now).trace ((c.args.run).now).path c.requires.run _ _ _
          (subst (λ es. Marks ((c.args.self).now.covered).items (c.mark_events.new.covered).items (IsTakenUpTo ((c.args.task).now).checked.now es (length es)) c.mark_events.result) c.as_slice-2.ensures c.mark_events.ensures);
    }
