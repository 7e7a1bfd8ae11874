use Rattle.cc_model.specs.Spots.{kind_at, shallow}
use Rattle.c_statements.specs.DescentStatements as st
use Rattle.c_expressions.specs.Shown.{place}
use Rattle.c_statements.specs.ShownStatements.{before_maker}
use Rattle.c_statements.proofs.Pieces.{ends_here}
use Rattle.c_statements.proofs.StmtSteps.{passes}
use Rattle.c_statements.proofs.StmtUnfold as un
use Rattle.c_statements.proofs.simple.simple_stmt.Goals as goal

pub returns-in-Assert-clause-shown : goal.returns-in-Assert-clause-shown
unfolding st.simple_stmt
returns-in-Assert-clause-shown c =
    let e = rw c.kind.ensures.value at c.in-Assert.ensures.here in passes (λ m. st.simple_of (kind_at c.args.parser.now.tokens.now) shallow m st.an_assert) (place c.args.spot) (λ m. st.simple_stmt (kind_at c.args.parser.now.tokens.now) shallow m) (place c.args.spot) _ c.assert_stmt.ensures.shown (λ q h. ends_here _ (rw e h))

pub returns-in-Assume-clause-shown : goal.returns-in-Assume-clause-shown
unfolding st.simple_stmt
returns-in-Assume-clause-shown c =
    let e = rw c.kind.ensures.value at c.in-Assume.ensures.here in passes (λ m. st.simple_of (kind_at c.args.parser.now.tokens.now) shallow m st.an_assume) (place c.args.spot) (λ m. st.simple_stmt (kind_at c.args.parser.now.tokens.now) shallow m) (place c.args.spot) _ c.assume_stmt.ensures.shown (λ q h. ends_here _ (rw e h))

pub returns-in-Abort-clause-shown : goal.returns-in-Abort-clause-shown
unfolding st.simple_stmt
returns-in-Abort-clause-shown c =
    let e = rw c.kind.ensures.value at c.in-Abort.ensures.here in passes (λ m. st.simple_of (kind_at c.args.parser.now.tokens.now) shallow m st.an_abort) (place c.args.spot) (λ m. st.simple_stmt (kind_at c.args.parser.now.tokens.now) shallow m) (place c.args.spot) _ c.abort_stmt.ensures.shown (λ q h. ends_here _ (rw e h))

pub returns-in-CrestInt-clause-shown : goal.returns-in-CrestInt-clause-shown
unfolding st.simple_stmt
returns-in-CrestInt-clause-shown c =
    let e = rw c.kind.ensures.value at c.in-CrestInt.ensures.here in passes (λ m. st.simple_of (kind_at c.args.parser.now.tokens.now) shallow m st.a_crest_int) (place c.args.spot) (λ m. st.simple_stmt (kind_at c.args.parser.now.tokens.now) shallow m) (place c.args.spot) _ c.crest_int_stmt.ensures.shown (λ q h. ends_here _ (rw e h))

pub returns-in-Step-clause-shown : goal.returns-in-Step-clause-shown
unfolding st.simple_stmt
returns-in-Step-clause-shown c =
    let e = rw c.kind.ensures.value at c.in-Step.ensures.here in passes (λ m. st.simple_of (kind_at c.args.parser.now.tokens.now) shallow m (st.a_step (before_maker c.in-Step.sign))) (place c.args.spot) (λ m. st.simple_stmt (kind_at c.args.parser.now.tokens.now) shallow m) (place c.args.spot) _ c.step_stmt.ensures.shown (λ q h. ends_here _ (rw e h))

pub returns-in-Unary-clause-shown : goal.returns-in-Unary-clause-shown
unfolding st.simple_stmt
returns-in-Unary-clause-shown c =
    let e = rw c.kind.ensures.value at c.in-Unary.ensures.here in passes (λ m. st.unary_stmt (kind_at c.args.parser.now.tokens.now) shallow m) (place c.args.spot) (λ m. st.simple_stmt (kind_at c.args.parser.now.tokens.now) shallow m) (place c.args.spot) _ c.unary_stmt.ensures.shown (λ q h. ends_here _ (rw e (un.unary_is (kind_at c.args.parser.now.tokens.now) shallow (place c.args.spot) h)))
