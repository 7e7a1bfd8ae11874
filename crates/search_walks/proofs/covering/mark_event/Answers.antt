use Rattle.std.proofs.lemmas.Bool.{false≢true}
use Rattle.search_walks.proofs.CoverLaws.{not_taken}
use Rattle.search_walks.proofs.covering.mark_event.Goals as goal

pub returns-then-not-is_decision : goal.returns-then-not-is_decision
returns-then-not-is_decision c = not_taken _ _ _ (λ w. false≢true (c.if-not-is_decision.ensures.1 w))
