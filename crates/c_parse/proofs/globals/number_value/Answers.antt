use Rattle.std.proofs.Common.{rules}
use Rattle.std.proofs.lemmas.Int.{to_z-of_z}
use mir.Syntax.{w32}
use mir.Val.{SFits}
use Rattle.cc_model.specs.Spots.{kind_at, shallow}
use Rattle.c_parse.specs.DescentItems as it
use Rattle.c_expressions.specs.Shown.{place}
use Rattle.c_statements.proofs.Pieces.{ends_then, ends_stop, ends_pure, ends_here}
use Rattle.c_statements.proofs.StmtSteps.{leaves_take}
use Rattle.c_parse.proofs.globals.number_value.Goals as goal

pub returns-in_err-after-clause-shown : goal.returns-in_err-after-clause-shown
unfolding it.number_value
returns-in_err-after-clause-shown c =
    leaves_take _ (λ _. it.number_value (kind_at c.args.parser.now.tokens.now) shallow c.args.value) (place c.args.spot) _ _ c.from_residual.ensures c.in_err-after.ensures.shown (λ x h. (ends_here _ (ends_stop _ _ h)))

pub returns-clause-shown : goal.returns-clause-shown
unfolding it.number_value
returns-clause-shown c =
    let h : SFits w32 c.args.value = search rules in rw (to_z-of_z w32 c.args.value h) (ends_here _ (ends_then _ _ c.in_ok-after.ensures.shown (ends_pure _ _)))
