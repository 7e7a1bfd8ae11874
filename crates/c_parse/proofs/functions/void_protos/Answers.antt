use Rattle.cc_model.specs.Spots.{kind_at, shallow}
use Rattle.c_parse.specs.DescentItems as it
use Rattle.c_expressions.specs.Shown.{place}
use Rattle.c_statements.proofs.Pieces.{ends_then, ends_stop, ends_pure}
use Rattle.c_statements.proofs.StmtSteps.{leaves_take}
use Rattle.c_parse.proofs.functions.void_protos.Goals as goal

pub returns-in_err-after-clause-shown : goal.returns-in_err-after-clause-shown
unfolding it.void_protos
returns-in_err-after-clause-shown c =
    leaves_take _ (λ _. it.void_protos (kind_at c.args.parser.now.tokens.now) shallow) (place c.args.spot) _ _ c.from_residual.ensures c.in_err-after.ensures.shown (λ x h. (ends_stop _ _ h))

pub returns-clause-shown : goal.returns-clause-shown
unfolding it.void_protos
returns-clause-shown c =
    rw c.new.ensures (ends_then _ _ c.in_ok-after.ensures.shown (ends_pure _ _))
