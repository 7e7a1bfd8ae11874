use Rattle.cc_laws.proofs.PathLaws.{no_prefix_at}
use Rattle.cc_laws.proofs.paths.no_path_begins_another.Goals as goal

pub returns : goal.returns
returns c = no_prefix_at
