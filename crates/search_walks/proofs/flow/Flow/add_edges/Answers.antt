use Rattle.std.proofs.Common.{subst, sym}
use Rattle.tac_lower.specs.Flow.{AreSuccessors}
use Rattle.search_walks.proofs.FlowLaws.{more_successors, more_returns}
use Rattle.search_base.proofs.OnLaws.{on_ok}
use Rattle.search_walks.proofs.flow.Flow.add_edges.Goals as goal

pub returns-in-Return : goal.returns-in-Return
returns-in-Return c = on_ok c.add_return.result (λ g. more_returns _ _ _ _ _ _ _ _ _ _ c.requires.is c.in-Return.is c.requires.tables.short c.of.ensures c.requires.plain c.requires.before g) c.add_return.ensures

pub returns : goal.returns
returns c = on_ok c.add_all.result (λ g. more_successors _ _ _ _ _ _ _ c.as_slice.result.now c.requires.plain (subst (AreSuccessors c.args.tac.now c.args.at) (sym c.as_slice.ensures) c.in_ok-places.ensures) c.requires.before g) c.add_all.ensures
