use Rattle.std.proofs.Common.{sym, ap, ◌∙◌, subst, option_map}
use Rattle.cc_base.specs.Paths.{Before}
use Rattle.search_dfs.proofs.Comparing.{reached_not}
use Rattle.search_dfs.proofs.order.is_passed.Goals as goal

pub returns-else-is_before-clause-reached : goal.returns-else-is_before-clause-reached
returns-else-is_before-clause-reached c = λ e a f.
    reached_not c.args.prefix.now (c.in-Some.a).now (λ h. c.is_before.ensures.no e (subst (Before c.args.prefix.now) (sym c.as_slice.ensures) h)) a
    (sym (ap (option_map (λ r. r.now)) c.in-Some.is) ∙ f)
