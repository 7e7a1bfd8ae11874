use Rattle.cc_model.specs.Spots.{kind_at, shallow}
use Rattle.c_statements.specs.DescentStatements as st
use Rattle.c_expressions.specs.Shown.{place}
use Rattle.c_statements.specs.ShownStatements.{assign_maker, behind_maker}
use Rattle.c_statements.proofs.Pieces.{ends_some, ends_none}
use Rattle.c_statements.proofs.StmtSteps.{passes}
use Rattle.c_statements.proofs.simple.behind_unary.Goals as goal

pub returns-in-Assign-clause-shown : goal.returns-in-Assign-clause-shown
unfolding st.behind_unary
returns-in-Assign-clause-shown c =
    let e = rw c.kind-2.ensures.value at c.in-Assign.ensures.here in passes (λ m. st.assigned (kind_at c.args.parser.now.tokens.now) shallow m c.args.start.level c.args.value (assign_maker c.in-Assign.sign)) (place c.args.here) (λ m. st.behind_unary (kind_at c.args.parser.now.tokens.now) shallow m (place c.args.start) c.args.value) (place c.args.here) _ c.assigned.ensures.shown (λ q h. (ends_some _ (assign_maker c.in-Assign.sign) _ _ e h))

pub returns-in-Step-clause-shown : goal.returns-in-Step-clause-shown
unfolding st.behind_unary
returns-in-Step-clause-shown c =
    let e = rw (c.kind.ensures.value, c.kind-2.ensures.value) at c.in-Step.ensures.here in passes (λ _. st.stepped (kind_at c.args.parser.now.tokens.now) shallow c.args.value (behind_maker c.in-Step.sign)) (place c.args.here) (λ m. st.behind_unary (kind_at c.args.parser.now.tokens.now) shallow m (place c.args.start) c.args.value) (place c.args.here) _ c.stepped.ensures.shown (λ q h. (ends_none _ _ _ e.0 (ends_some _ (behind_maker c.in-Step.sign) _ _ e.1 h)))

pub returns-in-Nothing-clause-shown : goal.returns-in-Nothing-clause-shown
unfolding st.behind_unary
returns-in-Nothing-clause-shown c =
    let e = rw (c.kind.ensures.value, c.kind-2.ensures.value) at c.in-Nothing.ensures.here in passes (λ _. st.called (kind_at c.args.parser.now.tokens.now) shallow (place c.args.start) c.args.value) (place c.args.here) (λ m. st.behind_unary (kind_at c.args.parser.now.tokens.now) shallow m (place c.args.start) c.args.value) (place c.args.here) _ c.called.ensures.shown (λ q h. (ends_none _ _ _ e.0 (ends_none _ _ _ e.1 h)))
