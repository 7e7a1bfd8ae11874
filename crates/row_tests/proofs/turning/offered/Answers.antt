use Rattle.std.proofs.Common.{List, map, subst}
use Rattle.cc_base.specs.Paths.{In}
use Rattle.sym_run.specs.declared.trace.Choice.{Choice}
use Rattle.row_tests.proofs.Offered.{outcome_in}
use Rattle.row_tests.proofs.turning.offered.Goals as goal

pub returns-then-same_outcome : goal.returns-then-same_outcome
returns-then-same_outcome c =
    subst (λ (l : List Choice). In c.choice-item.result.outcome (map (λ x. x.outcome) l)) c.as_slice-choice-items.ensures
    (outcome_in c.as_slice-choice-items.result.now c.loop-choice.choice-index c.choice-item.result c.loop-choice-test.true c.choice-item.is)
