use Rattle.std.proofs.Common.{rules}
use Rattle.std.proofs.lemmas.Int.{to_z-of_z}
use mir.Syntax.{w32}
use mir.Val.{SFits}
use Rattle.cc_model.specs.Spots.{kind_at, shallow}
use Rattle.c_statements.specs.DescentStatements as st
use Rattle.c_parse.specs.DescentItems as it
use Rattle.c_expressions.specs.Shown.{place}
use Rattle.c_statements.proofs.Pieces.{ends_yes, ends_no, ends_some, ends_none}
use Rattle.c_statements.proofs.StmtSteps.{passes}
use Rattle.c_parse.proofs.globals.start_value.Goals as goal

pub returns-in-Number-clause-shown : goal.returns-in-Number-clause-shown
unfolding it.start_value st.has
returns-in-Number-clause-shown c =
    let e = rw c.kind.ensures.value at c.in-Number.ensures.here in let w : SFits w32 c.in-Number.value = search rules in passes (λ _. it.number_value (kind_at c.args.parser.now.tokens.now) shallow c.in-Number.value) (place c.args.spot) (λ m. it.start_value (kind_at c.args.parser.now.tokens.now) shallow m) (place c.args.spot) _ (rw (to_z-of_z w32 c.in-Number.value w) at c.number_value.ensures.shown) (λ q h. (ends_some _ c.in-Number.value _ _ e h))

pub returns-in-Negative-clause-shown : goal.returns-in-Negative-clause-shown
unfolding it.start_value st.has
returns-in-Negative-clause-shown c =
    let e = rw c.kind.ensures.value at c.in-Negative.ensures.here in passes (λ _. it.negative_value (kind_at c.args.parser.now.tokens.now) shallow) (place c.args.spot) (λ m. it.start_value (kind_at c.args.parser.now.tokens.now) shallow m) (place c.args.spot) _ c.negative_value.ensures.shown (λ q h. (ends_none _ _ _ e.0 (ends_yes _ _ _ e.1 h)))

pub returns-in-Null-clause-shown : goal.returns-in-Null-clause-shown
unfolding it.start_value st.has
returns-in-Null-clause-shown c =
    let e = rw c.kind.ensures.value at c.in-Null.ensures.here in passes (λ _. it.null_value (kind_at c.args.parser.now.tokens.now) shallow) (place c.args.spot) (λ m. it.start_value (kind_at c.args.parser.now.tokens.now) shallow m) (place c.args.spot) _ c.null_value.ensures.shown (λ q h. (ends_none _ _ _ e.0 (ends_no _ _ _ e.1 h)))
