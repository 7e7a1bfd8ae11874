use Rattle.std.proofs.Common.{◌∙◌, sym}
use Rattle.cc_model.specs.Spots.{kind_at, shallow}
use Rattle.c_statements.specs.DescentStatements as st
use Rattle.c_expressions.specs.Shown.{place}
use Rattle.c_statements.proofs.Pieces.{ends_yes, ends_no}
use Rattle.c_statements.proofs.StmtSteps.{passes}
use Rattle.c_statements.proofs.simple.for_head.Goals as goal

pub returns-then-starts_decl-clause-shown : goal.returns-then-starts_decl-clause-shown
unfolding st.for_head
returns-then-starts_decl-clause-shown c =
    let e = sym c.starts_decl.ensures ∙ c.if-starts_decl.true in passes (λ m. st.head_decl (kind_at c.args.parser.now.tokens.now) shallow m) (place c.args.spot) (λ m. st.for_head (kind_at c.args.parser.now.tokens.now) shallow m) (place c.args.spot) _ c.head_decl.ensures.shown (λ q h. (ends_yes _ _ _ e h))

pub returns-clause-shown : goal.returns-clause-shown
unfolding st.for_head
returns-clause-shown c =
    let e = sym c.starts_decl.ensures ∙ c.if-starts_decl.false in passes (λ m. st.head_simple (kind_at c.args.parser.now.tokens.now) shallow m) (place c.args.spot) (λ m. st.for_head (kind_at c.args.parser.now.tokens.now) shallow m) (place c.args.spot) _ c.head_simple.ensures.shown (λ q h. (ends_no _ _ _ e h))
