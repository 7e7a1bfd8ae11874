use Rattle.std.proofs.Common.{◌∙◌, Some, sym}
use Rattle.cc_model.specs.Spots.{kind_at, shallow}
use Rattle.c_parse.specs.DescentItems as it
use Rattle.c_expressions.specs.Shown.{place}
use Rattle.c_statements.proofs.Pieces.{ends_then, ends_stop, ends_here, ends_yes, ends_no}
use Rattle.c_statements.proofs.StmtSteps.{leaves_take, passes}
use Rattle.c_parse.proofs.structs.tagged.Goals as goal

pub returns-in_err-here-clause-shown : goal.returns-in_err-here-clause-shown
unfolding it.tagged
returns-in_err-here-clause-shown c =
    leaves_take _ (λ m. it.tagged (kind_at c.args.parser.now.tokens.now) shallow m) (place c.args.spot) _ _ c.from_residual.ensures c.in_err-here.ensures.shown (λ x h. (ends_here _ (ends_stop _ _ h)))

pub returns-then-is_name-clause-shown : goal.returns-then-is_name-clause-shown
unfolding it.tagged
returns-then-is_name-clause-shown c =
    let e = sym (rw c.kind.ensures.value at c.is_name.ensures.value) ∙ c.if-is_name.true in passes (λ _. it.alias (kind_at c.args.parser.now.tokens.now) shallow c.args.spot.at) (place c.in_ok-here.here) (λ m. it.tagged (kind_at c.args.parser.now.tokens.now) shallow m) (place c.args.spot) _ c.alias.ensures.shown (λ q h. (ends_here _ (ends_then _ _ c.in_ok-here.ensures.shown (ends_yes _ _ _ e h))))

pub returns-clause-shown : goal.returns-clause-shown
unfolding it.tagged
returns-clause-shown c =
    let e = sym (rw c.kind.ensures.value at c.is_name.ensures.value) ∙ c.if-is_name.false in passes (λ m. it.struct_type (kind_at c.args.parser.now.tokens.now) shallow m (Some c.args.spot.at)) (place c.in_ok-here.here) (λ m. it.tagged (kind_at c.args.parser.now.tokens.now) shallow m) (place c.args.spot) _ c.struct_type.ensures.shown (λ q h. (ends_here _ (ends_then _ _ c.in_ok-here.ensures.shown (ends_no _ _ _ e h))))
