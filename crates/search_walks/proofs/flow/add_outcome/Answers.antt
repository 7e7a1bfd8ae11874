use Rattle.search_walks.proofs.FlowLaws.{one_comes, none_comes}
use Rattle.search_walks.proofs.flow.add_outcome.Goals as goal

pub returns-in_ok-add : goal.returns-in_ok-add
returns-in_ok-add c = one_comes _ _ _ _ _ _ c.outcome_successor.ensures _ _ _ c.requires c.in-Some.is c.number_of.ensures c.in_ok-add.ensures

pub returns-in_default : goal.returns-in_default
returns-in_default c = none_comes _ _ _ _ _ _ c.outcome_successor.ensures c.in_default.is
