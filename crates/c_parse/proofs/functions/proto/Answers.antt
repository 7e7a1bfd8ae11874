use Rattle.std.proofs.Common.{◌∙◌, arith, sym}
use Rattle.std.proofs.lemmas.Grind.{common_steps}
use Rattle.cc_model.specs.Spots.{kind_at, shallow}
use Rattle.c_expressions.specs.Descent.{Got, got, failed, Ends, pure, leave, ◌>>◌, ◌>>=◌, is_sign, is_key, is_name}
use Rattle.c_expressions.specs.Descent as of
use Rattle.c_parse.specs.DescentItems as it
use Rattle.c_expressions.specs.Shown.{place}
use Rattle.c_statements.proofs.Pieces.{ends_bind, ends_fail, ends_then, ends_stop, ends_pure, ends_here, ends_yes, ends_no}
use Rattle.c_statements.proofs.StmtSteps.{leaves, leaves_take}
use Rattle.c_parse.proofs.functions.proto.Goals as goal

pub returns-in_err-ty-clause-shown : goal.returns-in_err-ty-clause-shown
unfolding it.proto
returns-in_err-ty-clause-shown c =
    leaves (λ m. of.type_name (kind_at c.args.parser.now.tokens.now) shallow m) (place c.args.spot) (λ m. it.proto (kind_at c.args.parser.now.tokens.now) shallow m) (place c.args.spot) _ _ c.from_residual.ensures c.in_err-ty.ensures.shown (λ x h. (ends_fail _ _ h))

pub returns-then-not-is_name-clause-shown : goal.returns-then-not-is_name-clause-shown
unfolding it.proto
returns-then-not-is_name-clause-shown c =
    let e = sym (rw c.kind.ensures.value at c.is_name.ensures.value) ∙ grind (arith, common_steps) in (ends_bind _ _ c.in_ok-ty.ensures.shown (ends_no _ _ _ e (ends_pure _ _)))

pub returns-in_err-after-clause-shown : goal.returns-in_err-after-clause-shown
unfolding it.proto
returns-in_err-after-clause-shown c =
    let e = sym (rw c.kind.ensures.value at c.is_name.ensures.value) ∙ grind (arith, common_steps) in leaves_take _ (λ m. it.proto (kind_at c.args.parser.now.tokens.now) shallow m) (place c.args.spot) _ _ c.from_residual-in_err-after.ensures c.in_err-after.ensures.shown (λ x h. (ends_bind _ _ c.in_ok-ty.ensures.shown (ends_yes _ _ _ e (ends_here _ (ends_stop _ _ h)))))

pub returns-clause-shown : goal.returns-clause-shown
unfolding it.proto
returns-clause-shown c =
    let e = sym (rw c.kind.ensures.value at c.is_name.ensures.value) ∙ grind (arith, common_steps) in (ends_bind _ _ c.in_ok-ty.ensures.shown (ends_yes _ _ _ e (ends_here _ (ends_then _ _ c.in_ok-after.ensures.shown (ends_pure _ _)))))
