use Rattle.cc_laws.proofs.Scanned.{same_path, same_end}
use Rattle.cc_laws.proofs.graphs.an_input_runs_as_its_graph.Goals as goal

pub returns-clause-path : goal.returns-clause-path
returns-clause-path c = same_path

pub returns-clause-end : goal.returns-clause-end
returns-clause-end c = same_end
