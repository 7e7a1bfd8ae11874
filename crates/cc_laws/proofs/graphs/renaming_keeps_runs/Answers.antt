use Rattle.cc_model.specs.Runs.{params_of}
use Rattle.cc_laws.proofs.Renaming.{path_renamed, end_renamed}
use Rattle.cc_laws.proofs.graphs.renaming_keeps_runs.Goals as goal

pub returns-clause-path : goal.returns-clause-path
returns-clause-path c = λ p b g k r ok by. path_renamed p.layouts (params_of p) g k r ok by p b

pub returns-clause-end : goal.returns-clause-end
returns-clause-end c = λ p b g k r ok by. end_renamed p.layouts (params_of p) g k r ok by p b
