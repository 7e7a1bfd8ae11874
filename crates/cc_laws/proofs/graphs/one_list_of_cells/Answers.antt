use Rattle.cc_laws.proofs.OneList.{listed}
use Rattle.cc_laws.proofs.OnlyList.{listed_once}
use Rattle.cc_laws.proofs.graphs.one_list_of_cells.Goals as goal

pub returns-clause-listed : goal.returns-clause-listed
returns-clause-listed c = λ layouts params g points ok. listed layouts params g points ok

pub returns-clause-only : goal.returns-clause-only
returns-clause-only c = λ layouts params g points ok. listed_once layouts params g points ok
