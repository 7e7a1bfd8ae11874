-- Where a statement or a block meets a fault, the tokens before it begin one.
use Rattle.std.proofs.Common.{ℕ, zero, suc, false, List, [], ◌∷◌, ◌++◌, Option}
use Rattle.cc_model.specs.declared.tokens.Kind.TheVariants as kind
use Rattle.cc_model.specs.declared.tokens.Punct.TheVariants as punct
use Rattle.cc_model.specs.declared.tokens.Keyword.TheVariants as keyword
use Rattle.cc_model.specs.declared.trees.Expr.{Expr}
use Rattle.cc_model.specs.declared.trees.Simple.{Simple}
use Rattle.cc_model.specs.declared.trees.Head.{Head}
use Rattle.cc_model.specs.declared.trees.Stmt.{Stmt}
use Rattle.cc_model.specs.declared.trees.Stmt.TheVariants as a_stmt
use Rattle.cc_model.specs.declared.trees.Part.{Part}
use Rattle.cc_model.specs.declared.trees.Part.TheVariants as a_part
use Rattle.cc_model.specs.Spots.{Spot, opened, passed, back, closed, Is, IsKey}
use Rattle.cc_model.specs.ReadExpressions as ex
use Rattle.cc_model.specs.ReadStatements as by
use Rattle.c_expressions.specs.Descent.{Fault, bad, Got, got, failed, spent, P, go_on, ◌>>=◌, ◌>>◌, pure, leave, wrong, out, is_key, on_some}
use Rattle.c_expressions.specs.Descent as of
use Rattle.c_statements.specs.DescentStatements.{branch, StmtStart, an_empty, a_block, an_if, a_while, a_do, a_for, a_return, a_break, a_continue, a_plain, stmt_at}
use Rattle.c_statements.specs.DescentStatements as st
use Rattle.c_expressions.proofs.Made.{Made}
use Rattle.c_expressions.proofs.Tests.{is_key_tells}
use Rattle.c_statements.proofs.StmtSound.{Stated, stmt_tells, Ended, not_short, statement_sound}
use Rattle.c_expressions.proofs.Viable.{Tokens, Fits, Piece, Verdict, seq, done, left, rule, verdict_rest, verdict_bind, verdict_map, verdict_if, done_verdict, left_verdict}
use Rattle.c_expressions.proofs.ViableExpressions.{bracketed, bracketed_verdict}
use Rattle.c_parse.proofs.FirmStatements.{Goes, go, Controls, Branches, alone, both, AnyStatement, any, PartAt, decl, stmt, statement_firm, any_firm, branches_firm, block_firm, part_firm, with_parts, with_controls, with_branches}
use Rattle.c_parse.proofs.Afters.{after, opens, passes, shuts, made, goes, take_opens, take_passes, sign_opens, sign_passes, word_passes, close_shuts, verdict_due, verdict_made}
use Rattle.c_parse.proofs.ViableStatements.{declaration, declaration_verdict}
use Rattle.c_parse.proofs.ViableBlocks.{simple, opt_expr, control, simple_verdict, opt_expr_verdict, control_verdict}

-- ---- statements; `;` in a completion

unfoldable pub empty_parts : Piece Stmt
empty_parts = passes (kind.Punct punct.Semicolon) (done a_stmt.Empty)

pub empty_from : (tok : Tokens) (fits : Fits) (s t : Spot) (a : Stmt) → empty_parts.rel tok fits s a t → by.Statement tok fits false s t a
unfolding empty_parts passes after done
empty_from tok fits s t a d = rw (d.1.0, d.1.1) (by.empty d.0)

pub any_empty : (tok : Tokens) (fits : Fits) (s t : Spot) (a : Stmt) → empty_parts.rel tok fits s a t → AnyStatement tok fits s t a
any_empty tok fits s t a d = any (empty_from tok fits s t a d)

unfoldable pub statement : Piece Stmt
statement = made AnyStatement (λ tok fits s t a h. any_firm h) (λ _. empty_parts) any_empty

-- one that does not end in an `if` without `else`
unfoldable pub whole : Piece Stmt
whole = made (λ tok fits s t a. by.Statement tok fits false s t a) (λ tok fits s t a h. statement_firm h) (λ _. empty_parts) empty_from

unfoldable pub alone_parts : Spot → Expr → Piece Stmt
alone_parts p e = seq statement (λ a. left p.level (a_stmt.If p.at e a))

alone_any : (tok : Tokens) (fits : Fits) (p s t : Spot) (e : Expr) (a : Stmt) → AnyStatement tok fits s t a → Branches tok fits p e s (back t p.level) (a_stmt.If p.at e a)
alone_any tok fits p s t e a (any d) = alone d

pub alone_from : (p : Spot) (e : Expr) (tok : Tokens) (fits : Fits) (s t : Spot) (a : Stmt) → (alone_parts p e).rel tok fits s a t → Branches tok fits p e s t a
unfolding alone_parts statement made seq left
alone_from p e tok fits s t a d = rw (d.3.0, d.3.1) (alone_any tok fits p s d.1 e d.0 d.2)

unfoldable pub branches : Spot → Expr → Piece Stmt
branches p e = made (λ tok fits s t a. Branches tok fits p e s t a) (λ tok fits s t a h. branches_firm h) (λ _. alone_parts p e) (alone_from p e)

unfoldable else_rest : Spot → Expr → Stmt → Piece Stmt
else_rest p e a = opens (kind.Key keyword.Else) (seq statement (λ c. left p.level (a_stmt.IfElse p.at e a c)))

unfoldable both_parts : Spot → Expr → Piece Stmt
both_parts p e = seq whole (else_rest p e)

both_any : (tok : Tokens) (fits : Fits) (p s t u : Spot) (e : Expr) (a c : Stmt) → by.Statement tok fits false s t a → IsKey tok fits keyword.Else t → AnyStatement tok fits (opened t) u c →
    Branches tok fits p e s (back u p.level) (a_stmt.IfElse p.at e a c)
both_any tok fits p s t u e a c d i (any h) = both d i h

both_from : (p : Spot) (e : Expr) (tok : Tokens) (fits : Fits) (s t : Spot) (a : Stmt) → (both_parts p e).rel tok fits s a t → (branches p e).rel tok fits s a t
unfolding both_parts else_rest branches whole statement made seq opens after left
both_from p e tok fits s t a d = rw (d.3.1.3.0, d.3.1.3.1) (both_any tok fits p s d.1 d.3.1.1 e d.0 d.3.1.0 d.2 d.3.0 d.3.1.2)

unfoldable if_parts : Spot → Piece Stmt
if_parts s = opens (kind.Key keyword.If) (seq bracketed (λ e. branches s e))

if_from : (tok : Tokens) (fits : Fits) (s t : Spot) (a : Stmt) → (if_parts s).rel tok fits s a t → statement.rel tok fits s a t
unfolding if_parts statement branches bracketed rule made seq opens after
if_from tok fits s t a d = with_branches tok fits d.0 d.1.2 d.1.3

unfoldable while_parts : Spot → Piece Stmt
while_parts s = opens (kind.Key keyword.While) (seq bracketed (λ e. seq statement (λ a. left s.level (a_stmt.While s.at e a))))

while_any : (tok : Tokens) (fits : Fits) (s t u : Spot) (e : Expr) (a : Stmt) → IsKey tok fits keyword.While s → ex.Bracketed tok fits (opened s) t e → AnyStatement tok fits t u a →
    AnyStatement tok fits s (back u s.level) (a_stmt.While s.at e a)
while_any tok fits s t u e a i d (any h) = any (by.while i d h)

while_from : (tok : Tokens) (fits : Fits) (s t : Spot) (a : Stmt) → (while_parts s).rel tok fits s a t → statement.rel tok fits s a t
unfolding while_parts statement bracketed rule made seq opens after left
while_from tok fits s t a d = rw (d.1.3.3.0, d.1.3.3.1) (while_any tok fits s d.1.1 d.1.3.1 d.1.0 d.1.3.0 d.0 d.1.2 d.1.3.2)

unfoldable do_parts : Spot → Piece Stmt
do_parts s = opens (kind.Key keyword.Do) (seq statement (λ a. passes (kind.Key keyword.While) (seq bracketed (λ e. passes (kind.Punct punct.Semicolon) (left s.level (a_stmt.Do s.at a e))))))

do_any : (tok : Tokens) (fits : Fits) (s t u : Spot) (e : Expr) (a : Stmt) → IsKey tok fits keyword.Do s → AnyStatement tok fits (opened s) t a → IsKey tok fits keyword.While t →
    ex.Bracketed tok fits (passed t) u e → Is tok fits punct.Semicolon u → AnyStatement tok fits s (closed u s.level) (a_stmt.Do s.at a e)
do_any tok fits s t u e a i (any h) j d c = any (by.do_while i h j d c)

do_from : (tok : Tokens) (fits : Fits) (s t : Spot) (a : Stmt) → (do_parts s).rel tok fits s a t → statement.rel tok fits s a t
unfolding do_parts statement bracketed rule made seq opens passes after left
do_from tok fits s t a d = rw (d.1.3.1.3.1.0, d.1.3.1.3.1.1) (do_any tok fits s d.1.1 d.1.3.1.1 d.1.3.1.0 d.1.0 d.0 d.1.2 d.1.3.0 d.1.3.1.2 d.1.3.1.3.0)

unfoldable for_parts : Spot → Piece Stmt
for_parts s = opens (kind.Key keyword.For) (seq control (λ x. seq statement (λ a. left s.level (a_stmt.For s.at x.0 x.1 x.2 a))))

for_any : (tok : Tokens) (fits : Fits) (s t u : Spot) (x : Head × Option Expr × Option Simple) (a : Stmt) → IsKey tok fits keyword.For s → Controls tok fits (opened s) t x → AnyStatement tok fits t u a →
    AnyStatement tok fits s (back u s.level) (a_stmt.For s.at x.0 x.1 x.2 a)
for_any tok fits s t u x a i c (any h) = any (with_controls tok fits i c h)

for_from : (tok : Tokens) (fits : Fits) (s t : Spot) (a : Stmt) → (for_parts s).rel tok fits s a t → statement.rel tok fits s a t
unfolding for_parts statement control made seq opens after left
for_from tok fits s t a d = rw (d.1.3.3.0, d.1.3.3.1) (for_any tok fits s d.1.1 d.1.3.1 d.1.0 d.1.3.0 d.0 d.1.2 d.1.3.2)

unfoldable return_parts : Spot → Piece Stmt
return_parts s = passes (kind.Key keyword.Return) (seq opt_expr (λ a. passes (kind.Punct punct.Semicolon) (done (a_stmt.Return s.at a))))

return_from : (tok : Tokens) (fits : Fits) (s t : Spot) (a : Stmt) → (return_parts s).rel tok fits s a t → statement.rel tok fits s a t
unfolding return_parts statement opt_expr made seq passes after done
return_from tok fits s t a d = rw (d.1.3.1.0, d.1.3.1.1) (any (by.return d.0 d.1.2 d.1.3.0))

unfoldable break_parts : Spot → Piece Stmt
break_parts s = passes (kind.Key keyword.Break) (passes (kind.Punct punct.Semicolon) (done (a_stmt.Break s.at)))

break_from : (tok : Tokens) (fits : Fits) (s t : Spot) (a : Stmt) → (break_parts s).rel tok fits s a t → statement.rel tok fits s a t
unfolding break_parts statement made passes after done
break_from tok fits s t a d = rw (d.1.1.0, d.1.1.1) (any (by.break d.0 d.1.0))

unfoldable continue_parts : Spot → Piece Stmt
continue_parts s = passes (kind.Key keyword.Continue) (passes (kind.Punct punct.Semicolon) (done (a_stmt.Continue s.at)))

continue_from : (tok : Tokens) (fits : Fits) (s t : Spot) (a : Stmt) → (continue_parts s).rel tok fits s a t → statement.rel tok fits s a t
unfolding continue_parts statement made passes after done
continue_from tok fits s t a d = rw (d.1.1.0, d.1.1.1) (any (by.continue d.0 d.1.0))

unfoldable plain_parts : Piece Stmt
plain_parts = seq simple (λ a. passes (kind.Punct punct.Semicolon) (done (a_stmt.Simple a)))

plain_from : (tok : Tokens) (fits : Fits) (s t : Spot) (a : Stmt) → plain_parts.rel tok fits s a t → statement.rel tok fits s a t
unfolding plain_parts statement simple made seq passes after done
plain_from tok fits s t a d = rw (d.3.1.0, d.3.1.1) (any (by.simple d.2 d.3.0))

-- ---- blocks

-- declarations and statements behind l
unfoldable pub parts : List Part → Piece (List Part)
parts l = goes PartAt (λ tok fits s t a h. part_firm s t a h) l

unfoldable pub block_parts : Spot → Piece (List Part)
block_parts s = opens (kind.Punct punct.OpenBrace) (seq (parts []) (λ l. shuts punct.CloseBrace s.level (done l)))

pub block_from : (tok : Tokens) (fits : Fits) (s t : Spot) (a : List Part) → (block_parts s).rel tok fits s a t → by.Block tok fits s t a
unfolding block_parts parts goes made seq opens shuts after done
block_from tok fits s t a d = rw (d.1.3.1.0, d.1.3.1.1) (by.braces d.0 (with_parts tok fits by.none d.1.2) d.1.3.0)

unfoldable pub block : Piece (List Part)
block = made by.Block (λ tok fits s t a h. block_firm h) block_parts block_from

unfoldable stmt_block : Piece Stmt
stmt_block = seq block (λ l. done (a_stmt.Block l))

stmt_block_from : (tok : Tokens) (fits : Fits) (s t : Spot) (a : Stmt) → stmt_block.rel tok fits s a t → statement.rel tok fits s a t
unfolding stmt_block statement block made seq done
stmt_block_from tok fits s t a d = rw (d.3.0, d.3.1) (any (by.block d.2))

unfoldable pub part_parts : Piece Part
part_parts = seq statement (λ a. done (a_part.Stmt a))

part_any : (tok : Tokens) (fits : Fits) (s t : Spot) (a : Stmt) → AnyStatement tok fits s t a → PartAt tok fits s t (a_part.Stmt a)
part_any tok fits s t a (any d) = stmt d

pub part_from : (tok : Tokens) (fits : Fits) (s t : Spot) (a : Part) → part_parts.rel tok fits s a t → PartAt tok fits s t a
unfolding part_parts statement made seq done
part_from tok fits s t a d = rw (d.3.0, d.3.1) (part_any tok fits s d.1 d.0 d.2)

unfoldable pub part : Piece Part
part = made PartAt (λ tok fits s t a h. part_firm s t a h) (λ _. part_parts) part_from

unfoldable part_decl : Piece Part
part_decl = seq declaration (λ d. done (a_part.Decl d))

part_decl_from : (tok : Tokens) (fits : Fits) (s t : Spot) (a : Part) → part_decl.rel tok fits s a t → part.rel tok fits s a t
unfolding part_decl part declaration made seq done
part_decl_from tok fits s t a d = rw (d.3.0, d.3.1) (decl d.2)

unfoldable more_parts : List Part → Piece (List Part)
more_parts l = seq part (λ a. parts (l ++ a ∷ []))

more_from : (l : List Part) (tok : Tokens) (fits : Fits) (s t : Spot) (m : List Part) → (more_parts l).rel tok fits s m t → (parts l).rel tok fits s m t
unfolding more_parts part parts goes made seq
more_from l tok fits s t m d = go d.2 d.3

no_parts : (l : List Part) (tok : Tokens) (fits : Fits) (s : Spot) → (parts l).rel tok fits s l s
unfolding parts goes made
no_parts l tok fits s = Goes.stop

statement_rel : (tok : Tokens) (fits : Fits) (s t : Spot) (a : Stmt) → AnyStatement tok fits s t a → statement.rel tok fits s a t
unfolding statement made
statement_rel tok fits s t a d = d

part_rel : (tok : Tokens) (fits : Fits) (s t : Spot) (a : Part) → PartAt tok fits s t a → part.rel tok fits s a t
unfolding part made
part_rel tok fits s t a d = d

module _ (tok : Tokens) (fits : Fits) where
  by_block : (s : Spot) (q : Got (List Part)) → Verdict (block_parts s) tok fits s q → Verdict block tok fits s q
  unfolding block
  by_block s q v = verdict_made tok fits by.Block _ block_parts block_from s q v

  whole_rel : (s t : Spot) (a : Stmt) → by.Statement tok fits false s t a → whole.rel tok fits s a t
  unfolding whole made
  whole_rel s t a d = d

  alone_rel : (p s t : Spot) (e : Expr) (a : Stmt) → Ended tok fits s t a → (branches p e).rel tok fits s (a_stmt.If p.at e a) (back t p.level)
  unfolding branches made
  alone_rel p s t e a d = alone d.1

  -- behind the first branch, which tells whether it ends in an `if` without `else`
  branches_on : (p s : Spot) (e : Expr) (q : Got Stmt) (g : Stmt → P Stmt) → Verdict statement tok fits s q → Made (λ a t. Ended tok fits s t a) q →
      ((a : Stmt) (t : Spot) → Ended tok fits s t a → Verdict (branches p e) tok fits s (g a t)) → Verdict (branches p e) tok fits s (go_on q g)
  unfolding go_on branches alone_parts
  branches_on p s e (got a t) g v m k = k a t m
  branches_on p s e (failed f) g v m k = verdict_made tok fits (λ tok fits s t a. Branches tok fits p e s t a) (λ tok fits s t a h. branches_firm h) (λ _. alone_parts p e) (alone_from p e) s (failed f)
      (verdict_due tok fits statement (λ a. left p.level (a_stmt.If p.at e a)) s f v)
  branches_on p s e spent g v m k = tt

  branches_bind : (p s : Spot) (e : Expr) (m : P Stmt) (g : Stmt → P Stmt) → Verdict statement tok fits s (m s) → Made (λ a t. Ended tok fits s t a) (m s) →
      ((a : Stmt) (t : Spot) → Ended tok fits s t a → Verdict (branches p e) tok fits s (g a t)) → Verdict (branches p e) tok fits s ((m >>= g) s)
  unfolding ◌>>=◌
  branches_bind p s e m g v w k = branches_on p s e (m s) g v w k

  by_else : (p s t : Spot) (e : Expr) (a : Stmt) (q : Got Stmt) → by.Statement tok fits false s t a → Verdict (else_rest p e a) tok fits t q → Verdict (branches p e) tok fits s q
  unfolding both_parts
  by_else p s t e a q d v = verdict_map tok fits (both_parts p e) (branches p e) s q (λ tok' fits' x u r. both_from p e tok' fits' s u x r)
      (verdict_rest tok fits whole (else_rest p e) s t a q (whole_rel s t a d) v)

  mutual
    unfolding st.statement st.statement_of st.else_part st.block st.parts st.part st.part_decl st.here branch out pure leave if_parts while_parts do_parts for_parts return_parts break_parts continue_parts plain_parts empty_parts block_parts stmt_block part_parts part_decl more_parts else_rest

    pub statement_verdict : (n : ℕ) (s : Spot) → Verdict statement tok fits s (st.statement tok fits n s)
    statement_verdict zero s = tt
    statement_verdict (suc n) s = of_verdict n s (stmt_at (tok s.at)) (stmt_tells (tok s.at))

    of_verdict : (n : ℕ) (s : Spot) (q : StmtStart) → Stated q (tok s.at) → Verdict statement tok fits s (st.statement_of tok fits n q s)
    of_verdict zero s q e = tt
    of_verdict (suc n) s an_empty e = verdict_map tok fits empty_parts statement s _ (λ tok' fits' a t d. statement_rel tok' fits' s t a (any_empty tok' fits' s t a d))
        (take_passes tok fits (kind.Punct punct.Semicolon) _ s _ e (done_verdict tok fits _ (passed s)))
    of_verdict (suc n) s a_block e = verdict_map tok fits stmt_block statement s _ (λ tok' fits' a t d. stmt_block_from tok' fits' s t a d)
        (verdict_bind tok fits block _ s (st.block tok fits n) _ (block_verdict n s) (λ l t r. done_verdict tok fits _ t))
    of_verdict (suc n) s an_if e = verdict_map tok fits (if_parts s) statement s _ (λ tok' fits' a t d. if_from tok' fits' s t a d)
        (take_opens tok fits (kind.Key keyword.If) _ s _ e (verdict_bind tok fits bracketed _ (opened s) (of.bracketed tok fits n) _ (bracketed_verdict tok fits n (opened s))
        (λ x t r. branches_bind s t x (st.statement tok fits n) _ (statement_verdict n t) (statement_sound tok fits n t) (λ a u d. else_verdict n s t u x a d))))
    of_verdict (suc n) s a_while e = verdict_map tok fits (while_parts s) statement s _ (λ tok' fits' a t d. while_from tok' fits' s t a d)
        (take_opens tok fits (kind.Key keyword.While) _ s _ e (verdict_bind tok fits bracketed _ (opened s) (of.bracketed tok fits n) _ (bracketed_verdict tok fits n (opened s))
        (λ x t r. verdict_bind tok fits statement _ t (st.statement tok fits n) _ (statement_verdict n t) (λ a u d. left_verdict tok fits s.level _ u))))
    of_verdict (suc n) s a_do e = verdict_map tok fits (do_parts s) statement s _ (λ tok' fits' a t d. do_from tok' fits' s t a d)
        (take_opens tok fits (kind.Key keyword.Do) _ s _ e (verdict_bind tok fits statement _ (opened s) (st.statement tok fits n) _ (statement_verdict n (opened s))
        (λ a t d. word_passes tok fits keyword.While _ t _ (verdict_bind tok fits bracketed _ (passed t) (of.bracketed tok fits n) _ (bracketed_verdict tok fits n (passed t))
        (λ x u r. sign_passes tok fits punct.Semicolon _ u _ (left_verdict tok fits s.level _ (passed u)))))))
    of_verdict (suc n) s a_for e = verdict_map tok fits (for_parts s) statement s _ (λ tok' fits' a t d. for_from tok' fits' s t a d)
        (take_opens tok fits (kind.Key keyword.For) _ s _ e (verdict_bind tok fits control _ (opened s) (st.for_control tok fits n) _ (control_verdict tok fits n (opened s))
        (λ x t r. verdict_bind tok fits statement _ t (st.statement tok fits n) _ (statement_verdict n t) (λ a u d. left_verdict tok fits s.level _ u))))
    of_verdict (suc n) s a_return e = verdict_map tok fits (return_parts s) statement s _ (λ tok' fits' a t d. return_from tok' fits' s t a d)
        (take_passes tok fits (kind.Key keyword.Return) _ s _ e (verdict_bind tok fits opt_expr _ (passed s) (st.opt_expr tok fits n) _ (opt_expr_verdict tok fits n (passed s))
        (λ a t r. sign_passes tok fits punct.Semicolon _ t _ (done_verdict tok fits _ (passed t)))))
    of_verdict (suc n) s a_break e = verdict_map tok fits (break_parts s) statement s _ (λ tok' fits' a t d. break_from tok' fits' s t a d)
        (take_passes tok fits (kind.Key keyword.Break) _ s _ e (sign_passes tok fits punct.Semicolon _ (passed s) _ (done_verdict tok fits _ (passed (passed s)))))
    of_verdict (suc n) s a_continue e = verdict_map tok fits (continue_parts s) statement s _ (λ tok' fits' a t d. continue_from tok' fits' s t a d)
        (take_passes tok fits (kind.Key keyword.Continue) _ s _ e (sign_passes tok fits punct.Semicolon _ (passed s) _ (done_verdict tok fits _ (passed (passed s)))))
    of_verdict (suc n) s a_plain e = verdict_map tok fits plain_parts statement s _ (λ tok' fits' a t d. plain_from tok' fits' s t a d)
        (verdict_bind tok fits simple _ s (st.simple_stmt tok fits n) _ (simple_verdict tok fits n s) (λ a t r. sign_passes tok fits punct.Semicolon _ t _ (done_verdict tok fits _ (passed t))))

    else_verdict : (n : ℕ) (p s t : Spot) (e : Expr) (a : Stmt) → Ended tok fits s t a → Verdict (branches p e) tok fits s (st.else_part tok fits n p e a t)
    else_verdict zero p s t e a d = tt
    else_verdict (suc n) p s t e a d = verdict_if tok fits (branches p e) s (is_key keyword.Else (tok t.at)) _ _
        (λ x. by_else p s t e a _ (not_short tok fits d.0 d.1 d.2 x) (take_opens tok fits (kind.Key keyword.Else) _ t _ (is_key_tells keyword.Else (tok t.at) x)
        (verdict_bind tok fits statement _ (opened t) (st.statement tok fits n) _ (statement_verdict n (opened t)) (λ c u r. left_verdict tok fits p.level _ u))))
        (λ _. alone_rel p s t e a d)

    pub block_verdict : (n : ℕ) (s : Spot) → Verdict block tok fits s (st.block tok fits n s)
    block_verdict zero s = tt
    block_verdict (suc n) s = by_block s _ (sign_opens tok fits punct.OpenBrace _ s _ (verdict_bind tok fits (parts []) _ (opened s) (st.parts tok fits n []) _ (parts_verdict n [] (opened s))
        (λ l t r. close_shuts tok fits punct.CloseBrace s.level _ t _ (done_verdict tok fits l (closed t s.level)))))

    parts_verdict : (n : ℕ) (l : List Part) (s : Spot) → Verdict (parts l) tok fits s (st.parts tok fits n l s)
    parts_verdict zero l s = tt
    parts_verdict (suc n) l s = verdict_if tok fits (parts l) s (st.has tok fits punct.CloseBrace s) _ _ (λ _. no_parts l tok fits s)
        (λ _. verdict_map tok fits (more_parts l) (parts l) s _ (λ tok' fits' m t d. more_from l tok' fits' s t m d)
        (verdict_bind tok fits part _ s (st.part tok fits n) _ (part_verdict n s) (λ a t r. parts_verdict n (l ++ a ∷ []) t)))

    part_verdict : (n : ℕ) (s : Spot) → Verdict part tok fits s (st.part tok fits n s)
    part_verdict zero s = tt
    part_verdict (suc n) s = verdict_if tok fits part s (st.starts_decl tok fits s) _ _
        (λ _. verdict_map tok fits part_decl part s _ (λ tok' fits' a t d. part_decl_from tok' fits' s t a d)
        (verdict_bind tok fits declaration _ s (st.declaration tok fits n) _ (declaration_verdict tok fits n s) (λ a t r. done_verdict tok fits _ t)))
        (λ _. verdict_map tok fits part_parts part s _ (λ tok' fits' a t d. part_rel tok' fits' s t a (part_from tok' fits' s t a d))
        (verdict_bind tok fits statement _ s (st.statement tok fits n) _ (statement_verdict n s) (λ a t r. done_verdict tok fits _ t)))
