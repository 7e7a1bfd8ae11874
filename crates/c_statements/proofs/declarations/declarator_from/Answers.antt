use Rattle.std.proofs.Common.{[]}
use Rattle.cc_model.specs.declared.tokens.Punct.TheVariants as punct
use Rattle.cc_model.specs.Spots.{kind_at, shallow}
use Rattle.c_statements.specs.DescentStatements as st
use Rattle.c_expressions.specs.Shown.{place}
use Rattle.c_statements.proofs.Pieces.{ends_bind, ends_fail, ends_leave}
use Rattle.c_statements.proofs.StmtSteps.{leaves}
use Rattle.c_statements.proofs.declarations.declarator_from.Goals as goal

pub returns-in_err-lengths-clause-shown : goal.returns-in_err-lengths-clause-shown
unfolding st.declarator_from
returns-in_err-lengths-clause-shown c =
    leaves (λ m. st.many (kind_at c.args.parser.now.tokens.now) shallow (st.lacks (kind_at c.args.parser.now.tokens.now) shallow punct.OpenSquare) (st.length (kind_at c.args.parser.now.tokens.now) shallow) m []) (place c.args.here) (λ m. st.declarator_from (kind_at c.args.parser.now.tokens.now) shallow m c.args.level c.args.stars c.args.name) (place c.args.here) _ _ c.from_residual.ensures c.in_err-lengths.ensures.shown (λ x h. (ends_fail _ _ h))

pub returns-clause-shown : goal.returns-clause-shown
unfolding st.declarator_from
returns-clause-shown c =
    (ends_bind _ _ c.in_ok-lengths.ensures.shown (ends_leave _ _ _))
