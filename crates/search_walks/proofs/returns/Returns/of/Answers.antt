use Rattle.search_walks.proofs.ReturnLaws.{back_at}
use Rattle.search_walks.proofs.returns.Returns.of.Goals as goal

pub returns : goal.returns
returns c = back_at _ _ _ _ _ _ c.requires.tables c.requires.within c.index.ensures c.of.ensures
