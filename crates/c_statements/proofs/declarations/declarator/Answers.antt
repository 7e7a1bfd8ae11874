use Rattle.cc_model.specs.Spots.{kind_at, shallow}
use Rattle.c_expressions.specs.Descent.{Got, got, failed, Ends, pure, leave, ◌>>◌, ◌>>=◌, is_sign, is_key, is_name}
use Rattle.c_expressions.specs.Descent as of
use Rattle.c_statements.specs.DescentStatements as st
use Rattle.c_expressions.specs.Shown.{place}
use Rattle.c_statements.proofs.Pieces.{ends_bind, ends_fail, ends_then, ends_stop, ends_here}
use Rattle.c_statements.proofs.StmtSteps.{leaves, leaves_take, passes}
use Rattle.c_statements.proofs.declarations.declarator.Goals as goal

pub returns-in_err-stars-clause-shown : goal.returns-in_err-stars-clause-shown
unfolding st.declarator
returns-in_err-stars-clause-shown c =
    leaves (λ m. of.stars (kind_at c.args.parser.now.tokens.now) shallow m) (place c.args.spot) (λ m. st.declarator (kind_at c.args.parser.now.tokens.now) shallow m) (place c.args.spot) _ _ c.from_residual.ensures c.in_err-stars.ensures.shown (λ x h. (ends_here _ (ends_fail _ _ h)))

pub returns-in_err-here-clause-shown : goal.returns-in_err-here-clause-shown
unfolding st.declarator
returns-in_err-here-clause-shown c =
    leaves_take _ (λ m. st.declarator (kind_at c.args.parser.now.tokens.now) shallow m) (place c.args.spot) _ _ c.from_residual-in_err-here.ensures c.in_err-here.ensures.shown (λ x h. (ends_here _ (ends_bind _ _ c.in_ok-stars.ensures.shown (ends_here _ (ends_stop _ _ h)))))

pub returns-clause-shown : goal.returns-clause-shown
unfolding st.declarator
returns-clause-shown c =
    passes (λ m. st.declarator_from (kind_at c.args.parser.now.tokens.now) shallow m c.args.spot.level c.in_ok-stars.stars c.in_ok-stars.named.at) (place c.in_ok-here.here) (λ m. st.declarator (kind_at c.args.parser.now.tokens.now) shallow m) (place c.args.spot) _ c.declarator_from.ensures.shown (λ q h. (ends_here _ (ends_bind _ _ c.in_ok-stars.ensures.shown (ends_here _ (ends_then _ _ c.in_ok-here.ensures.shown h)))))
