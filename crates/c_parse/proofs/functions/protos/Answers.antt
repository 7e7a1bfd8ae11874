use Rattle.std.proofs.Common.{◌∙◌, sym}
use Rattle.cc_model.specs.Spots.{kind_at, shallow}
use Rattle.c_statements.specs.DescentStatements as st
use Rattle.c_parse.specs.DescentItems as it
use Rattle.c_expressions.specs.Shown.{place}
use Rattle.c_statements.proofs.Pieces.{ends_pure, ends_yes, ends_no}
use Rattle.c_statements.proofs.StmtSteps.{passes}
use Rattle.c_parse.proofs.functions.protos.Goals as goal

pub returns-then-is_sign-clause-shown : goal.returns-then-is_sign-clause-shown
unfolding it.protos st.has
returns-then-is_sign-clause-shown c =
    let e = sym (rw c.kind.ensures.value at c.is_sign.ensures.value) ∙ c.if-is_sign.true in rw c.new.ensures (ends_yes _ _ _ e (ends_pure _ _))

pub returns-then-is_key-clause-shown : goal.returns-then-is_key-clause-shown
unfolding it.protos st.has
returns-then-is_key-clause-shown c =
    let e = sym (rw c.kind.ensures.value at c.is_sign.ensures.value) ∙ c.if-is_sign.false in let d = sym (rw c.kind-2.ensures.value at c.is_key.ensures.value) ∙ c.if-is_key.true in passes (λ _. it.void_protos (kind_at c.args.parser.now.tokens.now) shallow) (place c.args.spot) (λ m. it.protos (kind_at c.args.parser.now.tokens.now) shallow m) (place c.args.spot) _ c.void_protos.ensures.shown (λ q h. (ends_no _ _ _ e (ends_yes _ _ _ d h)))

pub returns-clause-shown : goal.returns-clause-shown
unfolding it.protos st.has
returns-clause-shown c =
    let e = sym (rw c.kind.ensures.value at c.is_sign.ensures.value) ∙ c.if-is_sign.false in let d = sym (rw c.kind-2.ensures.value at c.is_key.ensures.value) ∙ c.if-is_key.false in passes (λ m. st.commas (kind_at c.args.parser.now.tokens.now) shallow (it.proto (kind_at c.args.parser.now.tokens.now) shallow) m) (place c.args.spot) (λ m. it.protos (kind_at c.args.parser.now.tokens.now) shallow m) (place c.args.spot) _ c.proto_list.ensures.shown (λ q h. (ends_no _ _ _ e (ends_no _ _ _ d h)))
