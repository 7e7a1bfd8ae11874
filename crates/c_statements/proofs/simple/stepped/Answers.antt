use Rattle.cc_model.specs.Spots.{kind_at, shallow}
use Rattle.c_statements.specs.DescentStatements as st
use Rattle.c_expressions.specs.Shown.{place}
use Rattle.c_statements.specs.ShownStatements.{behind_maker}
use Rattle.c_statements.proofs.Pieces.{ends_then, ends_stop, ends_pure, ends_here}
use Rattle.c_statements.proofs.StmtSteps.{leaves_take}
use Rattle.c_statements.proofs.simple.stepped.Goals as goal

pub returns-in_err-after-clause-shown : goal.returns-in_err-after-clause-shown
unfolding st.stepped
returns-in_err-after-clause-shown c =
    leaves_take _ (λ m. st.stepped (kind_at c.args.parser.now.tokens.now) shallow c.args.value (behind_maker c.args.sign)) (place c.args.here) _ _ c.from_residual-in_err-after.ensures c.in_err-after.ensures.shown (λ x h. (ends_here _ (ends_stop _ _ h)))

pub returns-clause-shown : goal.returns-clause-shown
unfolding st.stepped
returns-clause-shown c =
    rw (c.make_behind.ensures, c.into_inner.ensures, c.in_ok-held.ensures) (ends_here _ (ends_then _ _ c.in_ok-after.ensures.shown (ends_pure _ _)))
