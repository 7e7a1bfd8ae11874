use Rattle.std.proofs.Common.{sym, ◌∙◌}
use Rattle.search_walks.proofs.FlowLaws.{decision_decides, no_decision}
use Rattle.search_walks.proofs.flow.Flow.add.Goals as goal

pub add_decision-requires-clause-decides : goal.add_decision-requires-clause-decides
add_decision-requires-clause-decides c = decision_decides _ _ _ _ _ c.requires.is (sym c.decision_of.ensures ∙ c.in-Some.is)

pub add_edges-requires-clause-plain : goal.add_edges-requires-clause-plain
add_edges-requires-clause-plain c = no_decision c.args.checked.now c.args.tac.now c.args.at c.args.instruction c.requires.is (sym c.decision_of.ensures ∙ c.in-None.is)
