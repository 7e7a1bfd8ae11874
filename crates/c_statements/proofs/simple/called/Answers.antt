use Rattle.c_statements.specs.DescentStatements as st
use Rattle.c_statements.proofs.Pieces.{ends_pure, ends_wrong, ends_some, ends_none}
use Rattle.c_statements.proofs.simple.called.Goals as goal

pub returns-in-Some-clause-shown : goal.returns-in-Some-clause-shown
unfolding st.called
returns-in-Some-clause-shown c =
    let e = rw (c.is_name.ensures.value, c.kind.ensures.value) at c.in-Some.ensures.some in (ends_some _ c.in-Some.args _ _ e (ends_pure _ _))

pub returns-in-None-clause-shown : goal.returns-in-None-clause-shown
unfolding st.called
returns-in-None-clause-shown c =
    let e = rw (c.is_name.ensures.value, c.kind.ensures.value) at c.in-None.ensures.none in (ends_none _ _ _ e (ends_wrong _))
