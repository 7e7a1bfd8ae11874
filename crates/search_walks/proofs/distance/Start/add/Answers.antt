use Rattle.std.proofs.Common.{refl}
use Rattle.std.proofs.lemmas.Bool.{false≢true}
use Rattle.search_walks.proofs.StepLaws.{starts_open, starts_none, uncovered, not_uncovered}
use Rattle.search_walks.proofs.distance.Start.add.Goals as goal
use Rattle.search_walks.proofs.distance.Start.add.Goals.{else-not-covered-outcome-via-then-not-covered-outcome+else-is_decision_site, else-not-covered-outcome-via-else-not-covered-outcome}

pub returns-in_ok-push-2 : goal.returns-in_ok-push-2
returns-in_ok-push-2 c = starts_open c.args.checked.now c.args.covered.now _ _ _ c.requires.before _ _
    (uncovered c.args.checked.now c.args.covered.now c.args.outcome _ c.requires.within c.if-not-covered-outcome.true (c.if-is_decision_site.ensures.0 refl)) c.in_ok-push.ensures.items c.in_ok-push-2.ensures.items

pub returns-in_ok-push-3 : goal.returns-in_ok-push-3
returns-in_ok-push-3 c = elim c.else-not-covered-outcome.branch [
  | else-not-covered-outcome-via-then-not-covered-outcome+else-is_decision_site w ↦
      starts_none c.args.checked.now c.args.covered.now _ _ _ c.requires.before _ (λ u. false≢true (w.if-is_decision_site.ensures.1 u.is_site)) c.in_ok-push-3.ensures.items
  | else-not-covered-outcome-via-else-not-covered-outcome w ↦
      starts_none c.args.checked.now c.args.covered.now _ _ _ c.requires.before _ (not_uncovered c.args.checked.now c.args.covered.now c.args.outcome _ c.requires.within w.if-not-covered-outcome.false) c.in_ok-push-3.ensures.items
]
