use Rattle.std.proofs.Common.{refl, subst, ap, ◌∙◌}
use Rattle.search_walks.specs.Distance.{AreDistances}
use Rattle.search_walks.specs.Offers.{offers_from}
use Rattle.search_walks.proofs.directed.Course.new.Goals as goal

pub returns : goal.returns
returns c = record {
  run_is = refl;
  open_is = c.in_ok-open.ensures ∙ ap (offers_from 0) c.as_slice.ensures;
  distances = subst (λ v. AreDistances (c.args.task.now).checked.now (c.args.task.now).tac.now v c.in_ok-far.far.items) c.deref.ensures.value c.in_ok-far.ensures;
}
