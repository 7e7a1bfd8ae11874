use Rattle.std.proofs.Common.{◌∙◌, arith, sym, []}
use Rattle.std.proofs.lemmas.Grind.{common_steps}
use Rattle.cc_model.specs.Spots.{kind_at, shallow}
use Rattle.c_expressions.specs.Descent.{Got, got, failed, Ends, pure, leave, ◌>>◌, ◌>>=◌, is_sign, is_key, is_name}
use Rattle.c_expressions.specs.Descent as of
use Rattle.c_statements.specs.DescentStatements as st
use Rattle.c_expressions.specs.Shown.{place}
use Rattle.c_statements.proofs.Pieces.{ends_bind, ends_fail, ends_then, ends_stop, ends_pure, ends_leave, ends_yes, ends_no}
use Rattle.c_statements.proofs.StmtSteps.{leaves, leaves_take, passes}
use Rattle.c_statements.proofs.StmtComplete as sc
use Rattle.c_statements.proofs.statements.+blocks.Goals as goal

pub statement-returns-in-Empty-clause-shown : goal.statement-returns-in-Empty-clause-shown
statement-returns-in-Empty-clause-shown t c =
    let e = rw c.kind.ensures.value at c.in-Empty.ensures.here in passes (λ m. st.statement_of (kind_at c.args.parser.now.tokens.now) shallow m st.an_empty) (place c.args.spot) (λ m. st.statement (kind_at c.args.parser.now.tokens.now) shallow m) (place c.args.spot) _ c.empty_stmt.ensures.shown (λ q h. sc.by_start (kind_at c.args.parser.now.tokens.now) shallow (place c.args.spot) st.an_empty e h)

pub statement-returns-in-If-clause-shown : goal.statement-returns-in-If-clause-shown
statement-returns-in-If-clause-shown t c =
    let e = rw c.kind.ensures.value at c.in-If.ensures.here in passes (λ m. st.statement_of (kind_at c.args.parser.now.tokens.now) shallow m st.an_if) (place c.args.spot) (λ m. st.statement (kind_at c.args.parser.now.tokens.now) shallow m) (place c.args.spot) _ c.if_stmt.ensures.shown (λ q h. sc.by_start (kind_at c.args.parser.now.tokens.now) shallow (place c.args.spot) st.an_if e h)

pub statement-returns-in-While-clause-shown : goal.statement-returns-in-While-clause-shown
statement-returns-in-While-clause-shown t c =
    let e = rw c.kind.ensures.value at c.in-While.ensures.here in passes (λ m. st.statement_of (kind_at c.args.parser.now.tokens.now) shallow m st.a_while) (place c.args.spot) (λ m. st.statement (kind_at c.args.parser.now.tokens.now) shallow m) (place c.args.spot) _ c.while_stmt.ensures.shown (λ q h. sc.by_start (kind_at c.args.parser.now.tokens.now) shallow (place c.args.spot) st.a_while e h)

pub statement-returns-in-Do-clause-shown : goal.statement-returns-in-Do-clause-shown
statement-returns-in-Do-clause-shown t c =
    let e = rw c.kind.ensures.value at c.in-Do.ensures.here in passes (λ m. st.statement_of (kind_at c.args.parser.now.tokens.now) shallow m st.a_do) (place c.args.spot) (λ m. st.statement (kind_at c.args.parser.now.tokens.now) shallow m) (place c.args.spot) _ c.do_stmt.ensures.shown (λ q h. sc.by_start (kind_at c.args.parser.now.tokens.now) shallow (place c.args.spot) st.a_do e h)

pub statement-returns-in-For-clause-shown : goal.statement-returns-in-For-clause-shown
statement-returns-in-For-clause-shown t c =
    let e = rw c.kind.ensures.value at c.in-For.ensures.here in passes (λ m. st.statement_of (kind_at c.args.parser.now.tokens.now) shallow m st.a_for) (place c.args.spot) (λ m. st.statement (kind_at c.args.parser.now.tokens.now) shallow m) (place c.args.spot) _ c.for_stmt.ensures.shown (λ q h. sc.by_start (kind_at c.args.parser.now.tokens.now) shallow (place c.args.spot) st.a_for e h)

pub statement-returns-in-Return-clause-shown : goal.statement-returns-in-Return-clause-shown
statement-returns-in-Return-clause-shown t c =
    let e = rw c.kind.ensures.value at c.in-Return.ensures.here in passes (λ m. st.statement_of (kind_at c.args.parser.now.tokens.now) shallow m st.a_return) (place c.args.spot) (λ m. st.statement (kind_at c.args.parser.now.tokens.now) shallow m) (place c.args.spot) _ c.return_stmt.ensures.shown (λ q h. sc.by_start (kind_at c.args.parser.now.tokens.now) shallow (place c.args.spot) st.a_return e h)

pub statement-returns-in-Break-clause-shown : goal.statement-returns-in-Break-clause-shown
statement-returns-in-Break-clause-shown t c =
    let e = rw c.kind.ensures.value at c.in-Break.ensures.here in passes (λ m. st.statement_of (kind_at c.args.parser.now.tokens.now) shallow m st.a_break) (place c.args.spot) (λ m. st.statement (kind_at c.args.parser.now.tokens.now) shallow m) (place c.args.spot) _ c.break_stmt.ensures.shown (λ q h. sc.by_start (kind_at c.args.parser.now.tokens.now) shallow (place c.args.spot) st.a_break e h)

pub statement-returns-in-Continue-clause-shown : goal.statement-returns-in-Continue-clause-shown
statement-returns-in-Continue-clause-shown t c =
    let e = rw c.kind.ensures.value at c.in-Continue.ensures.here in passes (λ m. st.statement_of (kind_at c.args.parser.now.tokens.now) shallow m st.a_continue) (place c.args.spot) (λ m. st.statement (kind_at c.args.parser.now.tokens.now) shallow m) (place c.args.spot) _ c.continue_stmt.ensures.shown (λ q h. sc.by_start (kind_at c.args.parser.now.tokens.now) shallow (place c.args.spot) st.a_continue e h)

pub statement-returns-in-Simple-clause-shown : goal.statement-returns-in-Simple-clause-shown
statement-returns-in-Simple-clause-shown t c =
    let e = rw c.kind.ensures.value at c.in-Simple.ensures.here in passes (λ m. st.statement_of (kind_at c.args.parser.now.tokens.now) shallow m st.a_plain) (place c.args.spot) (λ m. st.statement (kind_at c.args.parser.now.tokens.now) shallow m) (place c.args.spot) _ c.plain_stmt.ensures.shown (λ q h. sc.by_start (kind_at c.args.parser.now.tokens.now) shallow (place c.args.spot) st.a_plain e h)

pub statement-returns-in_err-parts-in-Block-clause-shown : goal.statement-returns-in_err-parts-in-Block-clause-shown
statement-returns-in_err-parts-in-Block-clause-shown t c =
    let e = rw c.kind.ensures.value at c.in-Block.ensures.here in leaves (λ m. st.block (kind_at c.args.parser.now.tokens.now) shallow m) (place c.args.spot) (λ m. st.statement (kind_at c.args.parser.now.tokens.now) shallow m) (place c.args.spot) _ _ c.from_residual.ensures c.in_err-parts-in-Block.ensures.shown (λ x h. (sc.by_start (kind_at c.args.parser.now.tokens.now) shallow (place c.args.spot) st.a_block e (sc.of_block (kind_at c.args.parser.now.tokens.now) shallow (place c.args.spot) (ends_fail _ _ h))))

pub statement-returns-in_ok-parts-in-Block-clause-shown : goal.statement-returns-in_ok-parts-in-Block-clause-shown
statement-returns-in_ok-parts-in-Block-clause-shown t c =
    let e = rw c.kind.ensures.value at c.in-Block.ensures.here in (sc.by_start (kind_at c.args.parser.now.tokens.now) shallow (place c.args.spot) st.a_block e (sc.of_block (kind_at c.args.parser.now.tokens.now) shallow (place c.args.spot) (ends_bind _ _ c.in_ok-parts-in-Block.ensures.shown (ends_pure _ _))))

pub if_stmt-returns-in_err-inner-clause-shown : goal.if_stmt-returns-in_err-inner-clause-shown
if_stmt-returns-in_err-inner-clause-shown t c =
    leaves_take _ (λ m. st.statement_of (kind_at c.args.parser.now.tokens.now) shallow m st.an_if) (place c.args.spot) _ _ c.from_residual.ensures c.in_err-inner.ensures.shown (λ x h. (sc.of_if (kind_at c.args.parser.now.tokens.now) shallow (place c.args.spot) (ends_stop _ _ h)))

pub if_stmt-returns-in_err-condition-clause-shown : goal.if_stmt-returns-in_err-condition-clause-shown
if_stmt-returns-in_err-condition-clause-shown t c =
    leaves (λ m. of.bracketed (kind_at c.args.parser.now.tokens.now) shallow m) (place c.in_ok-inner.inner) (λ m. st.statement_of (kind_at c.args.parser.now.tokens.now) shallow m st.an_if) (place c.args.spot) _ _ c.from_residual-in_err-condition.ensures c.in_err-condition.ensures.shown (λ x h. (sc.of_if (kind_at c.args.parser.now.tokens.now) shallow (place c.args.spot) (ends_then _ _ c.in_ok-inner.ensures.shown (ends_fail _ _ h))))

pub if_stmt-returns-in_err-first-clause-shown : goal.if_stmt-returns-in_err-first-clause-shown
if_stmt-returns-in_err-first-clause-shown t c =
    leaves (λ m. st.statement (kind_at c.args.parser.now.tokens.now) shallow m) (place c.in_ok-condition.here) (λ m. st.statement_of (kind_at c.args.parser.now.tokens.now) shallow m st.an_if) (place c.args.spot) _ _ c.from_residual-in_err-first.ensures c.in_err-first.ensures.shown (λ x h. (sc.of_if (kind_at c.args.parser.now.tokens.now) shallow (place c.args.spot) (ends_then _ _ c.in_ok-inner.ensures.shown (ends_bind _ _ c.in_ok-condition.ensures.shown (ends_fail _ _ h)))))

pub if_stmt-returns-clause-shown : goal.if_stmt-returns-clause-shown
if_stmt-returns-clause-shown t c =
    passes (λ m. st.else_part (kind_at c.args.parser.now.tokens.now) shallow m (place c.args.spot) c.in_ok-held.held c.in_ok-branch.branch) (place c.in_ok-first.end) (λ m. st.statement_of (kind_at c.args.parser.now.tokens.now) shallow m st.an_if) (place c.args.spot) _ c.else_part.ensures.shown (λ q h. (sc.of_if (kind_at c.args.parser.now.tokens.now) shallow (place c.args.spot) (ends_then _ _ c.in_ok-inner.ensures.shown (ends_bind _ _ c.in_ok-condition.ensures.shown (ends_bind _ _ c.in_ok-first.ensures.shown (rw (c.in_ok-held.ensures, c.in_ok-branch.ensures) at h))))))

pub else_part-returns-then-not-is_key-clause-shown : goal.else_part-returns-then-not-is_key-clause-shown
else_part-returns-then-not-is_key-clause-shown t c =
    let e = sym (rw c.kind.ensures.value at c.is_key.ensures.value) ∙ grind (arith, common_steps) in rw c.into_inner.ensures (sc.else_no (kind_at c.args.parser.now.tokens.now) shallow (place c.args.here) (place c.args.start) c.args.condition c.args.first e)

pub else_part-returns-in_err-inner-clause-shown : goal.else_part-returns-in_err-inner-clause-shown
else_part-returns-in_err-inner-clause-shown t c =
    let e = sym (rw c.kind.ensures.value at c.is_key.ensures.value) ∙ grind (arith, common_steps) in leaves_take _ (λ m. st.else_part (kind_at c.args.parser.now.tokens.now) shallow m (place c.args.start) c.args.condition c.args.first) (place c.args.here) _ _ c.from_residual.ensures c.in_err-inner.ensures.shown (λ x h. (sc.else_go (kind_at c.args.parser.now.tokens.now) shallow (place c.args.here) (place c.args.start) c.args.condition c.args.first e (ends_stop _ _ h)))

pub else_part-returns-in_err-second-clause-shown : goal.else_part-returns-in_err-second-clause-shown
else_part-returns-in_err-second-clause-shown t c =
    let e = sym (rw c.kind.ensures.value at c.is_key.ensures.value) ∙ grind (arith, common_steps) in leaves (λ m. st.statement (kind_at c.args.parser.now.tokens.now) shallow m) (place c.in_ok-inner.inner) (λ m. st.else_part (kind_at c.args.parser.now.tokens.now) shallow m (place c.args.start) c.args.condition c.args.first) (place c.args.here) _ _ c.from_residual-in_err-second.ensures c.in_err-second.ensures.shown (λ x h. (sc.else_go (kind_at c.args.parser.now.tokens.now) shallow (place c.args.here) (place c.args.start) c.args.condition c.args.first e (ends_then _ _ c.in_ok-inner.ensures.shown (ends_fail _ _ h))))

pub else_part-returns-clause-shown : goal.else_part-returns-clause-shown
else_part-returns-clause-shown t c =
    let e = sym (rw c.kind.ensures.value at c.is_key.ensures.value) ∙ grind (arith, common_steps) in rw (c.into_inner-2.ensures, c.in_ok-branch.ensures) (sc.else_go (kind_at c.args.parser.now.tokens.now) shallow (place c.args.here) (place c.args.start) c.args.condition c.args.first e (ends_then _ _ c.in_ok-inner.ensures.shown (ends_bind _ _ c.in_ok-second.ensures.shown (ends_leave _ _ _))))

pub while_stmt-returns-in_err-inner-clause-shown : goal.while_stmt-returns-in_err-inner-clause-shown
while_stmt-returns-in_err-inner-clause-shown t c =
    leaves_take _ (λ m. st.statement_of (kind_at c.args.parser.now.tokens.now) shallow m st.a_while) (place c.args.spot) _ _ c.from_residual.ensures c.in_err-inner.ensures.shown (λ x h. (sc.of_while (kind_at c.args.parser.now.tokens.now) shallow (place c.args.spot) (ends_stop _ _ h)))

pub while_stmt-returns-in_err-condition-clause-shown : goal.while_stmt-returns-in_err-condition-clause-shown
while_stmt-returns-in_err-condition-clause-shown t c =
    leaves (λ m. of.bracketed (kind_at c.args.parser.now.tokens.now) shallow m) (place c.in_ok-inner.inner) (λ m. st.statement_of (kind_at c.args.parser.now.tokens.now) shallow m st.a_while) (place c.args.spot) _ _ c.from_residual-in_err-condition.ensures c.in_err-condition.ensures.shown (λ x h. (sc.of_while (kind_at c.args.parser.now.tokens.now) shallow (place c.args.spot) (ends_then _ _ c.in_ok-inner.ensures.shown (ends_fail _ _ h))))

pub while_stmt-returns-in_err-turn-clause-shown : goal.while_stmt-returns-in_err-turn-clause-shown
while_stmt-returns-in_err-turn-clause-shown t c =
    leaves (λ m. st.statement (kind_at c.args.parser.now.tokens.now) shallow m) (place c.in_ok-condition.here) (λ m. st.statement_of (kind_at c.args.parser.now.tokens.now) shallow m st.a_while) (place c.args.spot) _ _ c.from_residual-in_err-turn.ensures c.in_err-turn.ensures.shown (λ x h. (sc.of_while (kind_at c.args.parser.now.tokens.now) shallow (place c.args.spot) (ends_then _ _ c.in_ok-inner.ensures.shown (ends_bind _ _ c.in_ok-condition.ensures.shown (ends_fail _ _ h)))))

pub while_stmt-returns-clause-shown : goal.while_stmt-returns-clause-shown
while_stmt-returns-clause-shown t c =
    rw (c.into_inner.ensures, c.in_ok-held.ensures, c.in_ok-body.ensures) (sc.of_while (kind_at c.args.parser.now.tokens.now) shallow (place c.args.spot) (ends_then _ _ c.in_ok-inner.ensures.shown (ends_bind _ _ c.in_ok-condition.ensures.shown (ends_bind _ _ c.in_ok-turn.ensures.shown (ends_leave _ _ _)))))

pub do_stmt-returns-in_err-inner-clause-shown : goal.do_stmt-returns-in_err-inner-clause-shown
do_stmt-returns-in_err-inner-clause-shown t c =
    leaves_take _ (λ m. st.statement_of (kind_at c.args.parser.now.tokens.now) shallow m st.a_do) (place c.args.spot) _ _ c.from_residual.ensures c.in_err-inner.ensures.shown (λ x h. (sc.of_do (kind_at c.args.parser.now.tokens.now) shallow (place c.args.spot) (ends_stop _ _ h)))

pub do_stmt-returns-in_err-turn-clause-shown : goal.do_stmt-returns-in_err-turn-clause-shown
do_stmt-returns-in_err-turn-clause-shown t c =
    leaves (λ m. st.statement (kind_at c.args.parser.now.tokens.now) shallow m) (place c.in_ok-inner.inner) (λ m. st.statement_of (kind_at c.args.parser.now.tokens.now) shallow m st.a_do) (place c.args.spot) _ _ c.from_residual-in_err-turn.ensures c.in_err-turn.ensures.shown (λ x h. (sc.of_do (kind_at c.args.parser.now.tokens.now) shallow (place c.args.spot) (ends_then _ _ c.in_ok-inner.ensures.shown (ends_fail _ _ h))))

pub do_stmt-returns-in_err-bracket-clause-shown : goal.do_stmt-returns-in_err-bracket-clause-shown
do_stmt-returns-in_err-bracket-clause-shown t c =
    leaves_take _ (λ m. st.statement_of (kind_at c.args.parser.now.tokens.now) shallow m st.a_do) (place c.args.spot) _ _ c.from_residual-in_err-bracket.ensures c.in_err-bracket.ensures.shown (λ x h. (sc.of_do (kind_at c.args.parser.now.tokens.now) shallow (place c.args.spot) (ends_then _ _ c.in_ok-inner.ensures.shown (ends_bind _ _ c.in_ok-turn.ensures.shown (ends_stop _ _ h)))))

pub do_stmt-returns-in_err-condition-clause-shown : goal.do_stmt-returns-in_err-condition-clause-shown
do_stmt-returns-in_err-condition-clause-shown t c =
    leaves (λ m. of.bracketed (kind_at c.args.parser.now.tokens.now) shallow m) (place c.in_ok-bracket.bracket) (λ m. st.statement_of (kind_at c.args.parser.now.tokens.now) shallow m st.a_do) (place c.args.spot) _ _ c.from_residual-in_err-condition.ensures c.in_err-condition.ensures.shown (λ x h. (sc.of_do (kind_at c.args.parser.now.tokens.now) shallow (place c.args.spot) (ends_then _ _ c.in_ok-inner.ensures.shown (ends_bind _ _ c.in_ok-turn.ensures.shown (ends_then _ _ c.in_ok-bracket.ensures.shown (ends_fail _ _ h))))))

pub do_stmt-returns-in_err-after-clause-shown : goal.do_stmt-returns-in_err-after-clause-shown
do_stmt-returns-in_err-after-clause-shown t c =
    leaves_take _ (λ m. st.statement_of (kind_at c.args.parser.now.tokens.now) shallow m st.a_do) (place c.args.spot) _ _ c.from_residual-in_err-after.ensures c.in_err-after.ensures.shown (λ x h. (sc.of_do (kind_at c.args.parser.now.tokens.now) shallow (place c.args.spot) (ends_then _ _ c.in_ok-inner.ensures.shown (ends_bind _ _ c.in_ok-turn.ensures.shown (ends_then _ _ c.in_ok-bracket.ensures.shown (ends_bind _ _ c.in_ok-condition.ensures.shown (ends_stop _ _ h)))))))

pub do_stmt-returns-clause-shown : goal.do_stmt-returns-clause-shown
do_stmt-returns-clause-shown t c =
    rw (c.in_ok-body.ensures, c.into_inner.ensures, c.in_ok-held.ensures) (sc.of_do (kind_at c.args.parser.now.tokens.now) shallow (place c.args.spot) (ends_then _ _ c.in_ok-inner.ensures.shown (ends_bind _ _ c.in_ok-turn.ensures.shown (ends_then _ _ c.in_ok-bracket.ensures.shown (ends_bind _ _ c.in_ok-condition.ensures.shown (ends_then _ _ c.in_ok-after.ensures.shown (ends_leave _ _ _)))))))

pub for_stmt-returns-in_err-inner-clause-shown : goal.for_stmt-returns-in_err-inner-clause-shown
for_stmt-returns-in_err-inner-clause-shown t c =
    leaves_take _ (λ m. st.statement_of (kind_at c.args.parser.now.tokens.now) shallow m st.a_for) (place c.args.spot) _ _ c.from_residual.ensures c.in_err-inner.ensures.shown (λ x h. (sc.of_for (kind_at c.args.parser.now.tokens.now) shallow (place c.args.spot) (ends_stop _ _ h)))

pub for_stmt-returns-in_err-control-clause-shown : goal.for_stmt-returns-in_err-control-clause-shown
for_stmt-returns-in_err-control-clause-shown t c =
    leaves (λ m. st.for_control (kind_at c.args.parser.now.tokens.now) shallow m) (place c.in_ok-inner.inner) (λ m. st.statement_of (kind_at c.args.parser.now.tokens.now) shallow m st.a_for) (place c.args.spot) _ _ c.from_residual-in_err-control.ensures c.in_err-control.ensures.shown (λ x h. (sc.of_for (kind_at c.args.parser.now.tokens.now) shallow (place c.args.spot) (ends_then _ _ c.in_ok-inner.ensures.shown (ends_fail _ _ h))))

pub for_stmt-returns-in_err-turn-clause-shown : goal.for_stmt-returns-in_err-turn-clause-shown
for_stmt-returns-in_err-turn-clause-shown t c =
    leaves (λ m. st.statement (kind_at c.args.parser.now.tokens.now) shallow m) (place c.in_ok-control.here) (λ m. st.statement_of (kind_at c.args.parser.now.tokens.now) shallow m st.a_for) (place c.args.spot) _ _ c.from_residual-in_err-turn.ensures c.in_err-turn.ensures.shown (λ x h. (sc.of_for (kind_at c.args.parser.now.tokens.now) shallow (place c.args.spot) (ends_then _ _ c.in_ok-inner.ensures.shown (ends_bind _ _ c.in_ok-control.ensures.shown (ends_fail _ _ h)))))

pub for_stmt-returns-clause-shown : goal.for_stmt-returns-clause-shown
for_stmt-returns-clause-shown t c =
    rw (c.into_inner.ensures, c.into_inner-2.ensures, c.into_inner-3.ensures, c.in_ok-body.ensures) (sc.of_for (kind_at c.args.parser.now.tokens.now) shallow (place c.args.spot) (ends_then _ _ c.in_ok-inner.ensures.shown (ends_bind _ _ c.in_ok-control.ensures.shown (ends_bind _ _ c.in_ok-turn.ensures.shown (ends_leave _ _ _)))))

pub block-returns-in_err-inner-clause-shown : goal.block-returns-in_err-inner-clause-shown
block-returns-in_err-inner-clause-shown t c =
    leaves_take _ (λ m. st.block (kind_at c.args.parser.now.tokens.now) shallow m) (place c.args.spot) _ _ c.from_residual.ensures c.in_err-inner.ensures.shown (λ x h. (sc.block_go (kind_at c.args.parser.now.tokens.now) shallow (place c.args.spot) (ends_stop _ _ h)))

pub block-returns-in_err-parts-clause-shown : goal.block-returns-in_err-parts-clause-shown
block-returns-in_err-parts-clause-shown t c =
    leaves (λ m. st.parts (kind_at c.args.parser.now.tokens.now) shallow m []) (place c.in_ok-inner.inner) (λ m. st.block (kind_at c.args.parser.now.tokens.now) shallow m) (place c.args.spot) _ _ c.from_residual-in_err-parts.ensures c.in_err-parts.ensures.shown (λ x h. (sc.block_go (kind_at c.args.parser.now.tokens.now) shallow (place c.args.spot) (ends_then _ _ c.in_ok-inner.ensures.shown (ends_fail _ _ h))))

pub block-returns-in_err-after-clause-shown : goal.block-returns-in_err-after-clause-shown
block-returns-in_err-after-clause-shown t c =
    leaves_take _ (λ m. st.block (kind_at c.args.parser.now.tokens.now) shallow m) (place c.args.spot) _ _ c.from_residual-in_err-after.ensures c.in_err-after.ensures.shown (λ x h. (sc.block_go (kind_at c.args.parser.now.tokens.now) shallow (place c.args.spot) (ends_then _ _ c.in_ok-inner.ensures.shown (ends_bind _ _ c.in_ok-parts.ensures.shown (ends_stop _ _ h)))))

pub block-returns-clause-shown : goal.block-returns-clause-shown
block-returns-clause-shown t c =
    (sc.block_go (kind_at c.args.parser.now.tokens.now) shallow (place c.args.spot) (ends_then _ _ c.in_ok-inner.ensures.shown (ends_bind _ _ c.in_ok-parts.ensures.shown (ends_then _ _ c.in_ok-after.ensures.shown (ends_pure _ _)))))

pub parts-loop-here-init : goal.parts-loop-here-init
parts-loop-here-init t c =
    record { onward = omega arith; goes = λ r k. k }

pub parts-returns-in_err-part-clause-shown : goal.parts-returns-in_err-part-clause-shown
parts-returns-in_err-part-clause-shown t c =
    let e = sym (rw c.kind.ensures.value at c.is_sign.ensures.value) ∙ grind (arith, common_steps) in leaves (λ m. st.part (kind_at c.args.parser.now.tokens.now) shallow m) (place c.loop-here.here) (λ m. st.parts (kind_at c.args.parser.now.tokens.now) shallow m []) (place c.args.spot) _ _ c.from_residual.ensures c.in_err-part.ensures.shown (λ x h. (rw c.new-items.ensures at (c.loop-here.invariant.goes (failed x) (sc.parts_go (kind_at c.args.parser.now.tokens.now) shallow (place c.loop-here.here) c.loop-here.items e (ends_fail _ _ h)))))

pub parts-loop-here-preserved : goal.parts-loop-here-preserved
parts-loop-here-preserved t c =
    let e = sym (rw c.kind.ensures.value at c.is_sign.ensures.value) ∙ grind (arith, common_steps) in record { onward = omega (arith, c.loop-here.invariant.onward, c.in_ok-part.ensures.onward); goes = λ r k. (c.loop-here.invariant.goes r (sc.parts_go (kind_at c.args.parser.now.tokens.now) shallow (place c.loop-here.here) c.loop-here.items e (ends_bind _ _ c.in_ok-part.ensures.shown (rw c.in_ok-push.ensures.ok at k)))) }

pub parts-returns-clause-shown : goal.parts-returns-clause-shown
parts-returns-clause-shown t c =
    let e = sym (rw c.kind.ensures.value at c.is_sign.ensures.value) ∙ grind (arith, common_steps) in (rw c.new-items.ensures at (c.loop-here.invariant.goes (got c.loop-here.items (place c.loop-here.here)) (sc.parts_stop (kind_at c.args.parser.now.tokens.now) shallow c.loop-here.items e)))

pub part-returns-then-starts_decl-clause-shown : goal.part-returns-then-starts_decl-clause-shown
part-returns-then-starts_decl-clause-shown t c =
    let e = sym c.starts_decl.ensures ∙ c.if-starts_decl.true in passes (λ m. st.part_decl (kind_at c.args.parser.now.tokens.now) shallow m) (place c.args.spot) (λ m. st.part (kind_at c.args.parser.now.tokens.now) shallow m) (place c.args.spot) _ c.part_decl.ensures.shown (λ q h. (sc.part_go (kind_at c.args.parser.now.tokens.now) shallow (place c.args.spot) (ends_yes _ _ _ e h)))

pub part-returns-in_err-statement-clause-shown : goal.part-returns-in_err-statement-clause-shown
part-returns-in_err-statement-clause-shown t c =
    let e = sym c.starts_decl.ensures ∙ c.if-starts_decl.false in leaves (λ m. st.statement (kind_at c.args.parser.now.tokens.now) shallow m) (place c.args.spot) (λ m. st.part (kind_at c.args.parser.now.tokens.now) shallow m) (place c.args.spot) _ _ c.from_residual.ensures c.in_err-statement.ensures.shown (λ x h. (sc.part_go (kind_at c.args.parser.now.tokens.now) shallow (place c.args.spot) (ends_no _ _ _ e (ends_fail _ _ h))))

pub part-returns-clause-shown : goal.part-returns-clause-shown
part-returns-clause-shown t c =
    let e = sym c.starts_decl.ensures ∙ c.if-starts_decl.false in (sc.part_go (kind_at c.args.parser.now.tokens.now) shallow (place c.args.spot) (ends_no _ _ _ e (ends_bind _ _ c.in_ok-statement.ensures.shown (ends_pure _ _))))
