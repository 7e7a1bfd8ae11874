use Rattle.source_laws.proofs.OneSource.{renumbers}
use Rattle.source_laws.proofs.one_tree_has_one_numbering.Goals as goal

pub returns : goal.returns
returns c = renumbers
