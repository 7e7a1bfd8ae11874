use Rattle.cc_laws.proofs.PathLaws.{one_end_at}
use Rattle.cc_laws.proofs.paths.one_path_has_one_end.Goals as goal

pub returns : goal.returns
returns c = one_end_at
