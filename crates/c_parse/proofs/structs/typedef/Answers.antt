use Rattle.std.proofs.Common.{◌∙◌, None, sym}
use Rattle.cc_model.specs.Spots.{kind_at, shallow}
use Rattle.c_parse.specs.DescentItems as it
use Rattle.c_expressions.specs.Shown.{place}
use Rattle.c_statements.proofs.Pieces.{ends_then, ends_stop, ends_yes, ends_no}
use Rattle.c_statements.proofs.StmtSteps.{leaves_take, passes}
use Rattle.c_parse.proofs.structs.typedef.Goals as goal

pub returns-in_err-word-clause-shown : goal.returns-in_err-word-clause-shown
unfolding it.typedef
returns-in_err-word-clause-shown c =
    leaves_take _ (λ m. it.typedef (kind_at c.args.parser.now.tokens.now) shallow m) (place c.args.spot) _ _ c.from_residual.ensures c.in_err-word.ensures.shown (λ x h. (ends_stop _ _ h))

pub returns-in_err-here-clause-shown : goal.returns-in_err-here-clause-shown
unfolding it.typedef
returns-in_err-here-clause-shown c =
    leaves_take _ (λ m. it.typedef (kind_at c.args.parser.now.tokens.now) shallow m) (place c.args.spot) _ _ c.from_residual-in_err-here.ensures c.in_err-here.ensures.shown (λ x h. (ends_then _ _ c.in_ok-word.ensures.shown (ends_stop _ _ h)))

pub returns-then-is_name-clause-shown : goal.returns-then-is_name-clause-shown
unfolding it.typedef
returns-then-is_name-clause-shown c =
    let e = sym (rw c.kind.ensures.value at c.is_name.ensures.value) ∙ c.if-is_name.true in passes (λ m. it.tagged (kind_at c.args.parser.now.tokens.now) shallow m) (place c.in_ok-here.here) (λ m. it.typedef (kind_at c.args.parser.now.tokens.now) shallow m) (place c.args.spot) _ c.tagged.ensures.shown (λ q h. (ends_then _ _ c.in_ok-word.ensures.shown (ends_then _ _ c.in_ok-here.ensures.shown (ends_yes _ _ _ e h))))

pub returns-clause-shown : goal.returns-clause-shown
unfolding it.typedef
returns-clause-shown c =
    let e = sym (rw c.kind.ensures.value at c.is_name.ensures.value) ∙ c.if-is_name.false in passes (λ m. it.struct_type (kind_at c.args.parser.now.tokens.now) shallow m None) (place c.in_ok-here.here) (λ m. it.typedef (kind_at c.args.parser.now.tokens.now) shallow m) (place c.args.spot) _ c.struct_type.ensures.shown (λ q h. (ends_then _ _ c.in_ok-word.ensures.shown (ends_then _ _ c.in_ok-here.ensures.shown (ends_no _ _ _ e h))))
