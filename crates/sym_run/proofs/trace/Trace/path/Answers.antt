use Rattle.std.proofs.Common.{map, ap, ◌∙◌}
use Rattle.sym_run.specs.Traces.{outcome_at}
use Rattle.sym_run.proofs.TraceLaws.{path_is}
use Rattle.sym_run.proofs.trace.Trace.path.Goals as goal

pub returns-clause-path : goal.returns-clause-path
returns-clause-path c = λ k b h it. c.in_ok-path.ensures ∙ ap (map outcome_at) c.as_slice.ensures ∙ path_is k b h c.args.self.now it
