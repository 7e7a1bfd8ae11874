use Rattle.cc_model.specs.Plain.{plain}
use Rattle.cc_model.specs.Runs.{fixed_of}
use Rattle.cc_model.specs.Traced.{traced}
use Rattle.cc_model.specs.Compiles.{is_zero, is_traced_zero}
use Rattle.tac_lower.proofs.Settled.{one_run}
use Rattle.tac_lower.proofs.laws.a_code_has_one_run.Goals as goal

pub returns-clause-run : goal.returns-clause-run
returns-clause-run c = λ p b code first s r q. one_run plain (fixed_of p b) is_zero first code s r q

pub returns-clause-traced_run : goal.returns-clause-traced_run
returns-clause-traced_run c = λ p f b code first s r q. one_run (traced f p.layouts) (fixed_of p b) is_traced_zero first code s r q
