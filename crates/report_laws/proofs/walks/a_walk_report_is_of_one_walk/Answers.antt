use Rattle.report_laws.proofs.Reports.{one_walk}
use Rattle.report_laws.proofs.walks.a_walk_report_is_of_one_walk.Goals as goal

pub returns : goal.returns
returns c = one_walk
