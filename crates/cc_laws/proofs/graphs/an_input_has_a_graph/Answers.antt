use Rattle.cc_model.specs.Runs.{params_of}
use Rattle.cc_laws.proofs.Listed.{is_graph}
use Rattle.cc_laws.proofs.graphs.an_input_has_a_graph.Goals as goal

pub returns : goal.returns
returns c = λ p b h points ok. is_graph p.layouts (params_of p) points b h ok
