use Rattle.std.proofs.Common.{refl}
use Rattle.std.proofs.lemmas.Bool.{false≢true}
use Rattle.search_walks.proofs.FlowLaws.{one_more_decision, passes_over}
use Rattle.search_walks.proofs.flow.Flow.add_decision.Goals as goal

pub returns-in_ok-add_outcome-2 : goal.returns-in_ok-add_outcome-2
returns-in_ok-add_outcome-2 c = one_more_decision _ _ _ _ c.requires.decides _ _ _ c.requires.before _ _ _ (c.if-is_decision.ensures.0 refl) c.in_ok-add.ensures c.in_ok-add_outcome.ensures c.in_ok-add_outcome-2.ensures

pub returns-else-is_decision : goal.returns-else-is_decision
returns-else-is_decision c = passes_over _ _ _ _ c.requires.decides _ _ _ c.requires.before (λ w. false≢true (c.if-is_decision.ensures.1 w))
