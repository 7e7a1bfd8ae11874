-- The same for declarations, statements and blocks, and for what stands behind a part of them.
use Rattle.std.proofs.Common.{ℕ, suc, Bool, false, ℤ, List, [], ◌∷◌, ◌++◌, Option, Some, None}
use Rattle.cc_model.specs.declared.tokens.Kind.TheVariants as kind
use Rattle.cc_model.specs.declared.tokens.Punct.TheVariants as punct
use Rattle.cc_model.specs.declared.tokens.Keyword.TheVariants as keyword
use Rattle.cc_model.specs.declared.trees.Expr.{Expr}
use Rattle.cc_model.specs.declared.trees.Length.{Length}
use Rattle.cc_model.specs.declared.trees.Declarator.{Declarator}
use Rattle.cc_model.specs.declared.trees.Declared.{Declared}
use Rattle.cc_model.specs.declared.trees.Decl.{Decl}
use Rattle.cc_model.specs.declared.trees.Simple.{Simple}
use Rattle.cc_model.specs.declared.trees.Head.{Head}
use Rattle.cc_model.specs.declared.trees.Stmt.{Stmt}
use Rattle.cc_model.specs.declared.trees.Stmt.TheVariants as a_stmt
use Rattle.cc_model.specs.declared.trees.Part.{Part}
use Rattle.cc_model.specs.declared.trees.Part.TheVariants as a_part
use Rattle.cc_model.specs.Spots.{Spot, opened, passed, back, closed, Next, Is, IsKey}
use Rattle.cc_model.specs.ReadExpressions as ex
use Rattle.cc_model.specs.ReadStatements as by
use Rattle.c_expressions.proofs.Viable.{Tokens, Fits}
use Rattle.c_parse.proofs.Firm.{Firm, firm_none, firm_next, firm_map, firm2, firm3, firm4, firm5, firm6, firm8, base_firm, stars_firm, exp_firm, postfix_firm, bracketed_firm, arguments_firm}

-- what stands behind the list l, one by one: at the end there is the list m
pub data Goes (A : Type 0) (R : Spot → Spot → A → Type 0) : List A → Spot → Spot → List A → Type 0 where
  stop : {l : List A} {s : Spot} → Goes A R l s s l
  go : {l m : List A} {a : A} {s t u : Spot} → R s t a → Goes A R (l ++ a ∷ []) t u m → Goes A R l s u m

-- a comma and what stands behind it
abbrev pub Comma : {A : Type 0} → (Tokens → Fits → Spot → Spot → A → Type 0) → Tokens → Fits → Spot → Spot → A → Type 0
Comma R tok fits s t a = Is tok fits punct.Comma s × R tok fits (passed s) t a

module _ (tok : Tokens) (fits : Fits) where
  -- '[' NUMBER ']'
  pub data LengthAt : Spot → Spot → Length → Type 0 where
    length : {s : Spot} (z : ℤ) → Is tok fits punct.OpenSquare s → Next tok fits (kind.Number z) (opened s) → Is tok fits punct.CloseSquare (passed (opened s)) →
        LengthAt s (passed (passed (opened s))) (record { token = suc s.at; value = z })

  -- behind a declarator d: ['=' expr], where n tokens stay open
  pub data Starting (n : ℕ) (d : Declarator) : Spot → Spot → Declared → Type 0 where
    plain : {s : Spot} → Starting n d s s (record { declarator = d; initializer = None })
    starts : {s t : Spot} {a : Expr} → Is tok fits punct.Assign s → ex.Exp tok fits 6 (passed s) t a →
        Starting n d s (back t n) (record { declarator = d; initializer = Some (record { equals = s.at; value = a }) })

  -- the parentheses of a `for`
  pub data Controls : Spot → Spot → Head × Option Expr × Option Simple → Type 0 where
    controls : {s t u v : Spot} {h : Head} {c : Option Expr} {p : Option Simple} → Is tok fits punct.Open s → by.ForHead tok fits (opened s) t h → by.OptExpr tok fits t u c →
        Is tok fits punct.Semicolon u → by.OptSimple tok fits (passed u) v p → Is tok fits punct.Close (back v s.level) → Controls s (closed v s.level) (h, c, p)

  -- behind the parentheses of an `if` on e, whose word stands at p
  pub data Branches (p : Spot) (e : Expr) : Spot → Spot → Stmt → Type 0 where
    alone : {b : Bool} {t u : Spot} {a : Stmt} → by.Statement tok fits b t u a → Branches p e t (back u p.level) (a_stmt.If p.at e a)
    both : {b : Bool} {t u v : Spot} {a c : Stmt} → by.Statement tok fits false t u a → IsKey tok fits keyword.Else u →
        by.Statement tok fits b (opened u) v c → Branches p e t (back v p.level) (a_stmt.IfElse p.at e a c)

  -- a statement, of either kind
  pub data AnyStatement : Spot → Spot → Stmt → Type 0 where
    any : {b : Bool} {s t : Spot} {a : Stmt} → by.Statement tok fits b s t a → AnyStatement s t a

  -- decl | stmt
  pub data PartAt : Spot → Spot → Part → Type 0 where
    decl : {s t : Spot} {d : Decl} → by.Declaration tok fits s t d → PartAt s t (a_part.Decl d)
    stmt : {b : Bool} {s t : Spot} {a : Stmt} → by.Statement tok fits b s t a → PartAt s t (a_part.Stmt a)

  pub with_commas : {A : Type 0} (R : Tokens → Fits → Spot → Spot → A → Type 0) {s t u : Spot} {l m : List A} →
      by.Commas tok fits A (R tok fits) s t l → Goes A (Comma R tok fits) l t u m → by.Commas tok fits A (R tok fits) s u m
  with_commas R d stop = d
  with_commas R d (go x k) = with_commas R (by.next d x.0 x.1) k

  pub with_lengths : {s t u : Spot} {l m : List Length} → by.Lengths tok fits s t l → Goes Length LengthAt l t u m → by.Lengths tok fits s u m
  with_lengths d stop = d
  with_lengths d (go (length z i n c) k) = with_lengths (by.more z d i n c) k

  pub with_parts : {s t u : Spot} {l m : List Part} → by.Parts tok fits s t l → Goes Part PartAt l t u m → by.Parts tok fits s u m
  with_parts d stop = d
  with_parts d (go (decl x) k) = with_parts (by.decl d x) k
  with_parts d (go (stmt x) k) = with_parts (by.stmt d x) k

  pub with_start : {s t u : Spot} {d : Declarator} {x : Declared} → by.Declares tok fits s t d → Starting s.level d t u x → by.Initialised tok fits s u x
  with_start h plain = by.plain h
  with_start h (starts i e) = by.starts h i e

  pub with_controls : {b : Bool} {s t u : Spot} {x : Head × Option Expr × Option Simple} {a : Stmt} → IsKey tok fits keyword.For s → Controls (opened s) t x →
      by.Statement tok fits b t u a → by.Statement tok fits b s (back u s.level) (a_stmt.For s.at x.0 x.1 x.2 a)
  with_controls i (controls o h c j p k) d = by.for i o h c j p k d

  pub with_branches : {s t u : Spot} {e : Expr} {a : Stmt} → IsKey tok fits keyword.If s → ex.Bracketed tok fits (opened s) t e → Branches s e t u a → AnyStatement s u a
  with_branches i d (alone h) = any (by.if_alone i d h)
  with_branches i d (both h j k) = any (by.if_else i d h j k)

module _ {tok : Tokens} {fits : Fits} where
  pub goes_firm : {A : Type 0} (R : Tokens → Fits → Spot → Spot → A → Type 0) →
      ((s t : Spot) (a : A) → R tok fits s t a → Firm tok fits s.at t.at (λ tok' fits'. R tok' fits' s t a)) →
      {s t : Spot} {l m : List A} → Goes A (R tok fits) l s t m → Firm tok fits s.at t.at (λ tok' fits'. Goes A (R tok' fits') l s t m)
  goes_firm R f stop = firm_none (λ tok' fits'. stop)
  goes_firm R f (go {a = a} {s = s} {t = t} x k) = firm2 (f s t a x) (goes_firm R f k) (λ tok' fits' x k. go x k)

  pub comma_firm : {A : Type 0} (R : Tokens → Fits → Spot → Spot → A → Type 0) →
      ((s t : Spot) (a : A) → R tok fits s t a → Firm tok fits s.at t.at (λ tok' fits'. R tok' fits' s t a)) →
      (s t : Spot) (a : A) → Comma R tok fits s t a → Firm tok fits s.at t.at (λ tok' fits'. Comma R tok' fits' s t a)
  comma_firm R f s t a x = firm2 (firm_next x.0) (f (passed s) t a x.1) (λ tok' fits' i d. (i, d))

  pub commas_firm : {A : Type 0} (R : Tokens → Fits → Spot → Spot → A → Type 0) →
      ((s t : Spot) (a : A) → R tok fits s t a → Firm tok fits s.at t.at (λ tok' fits'. R tok' fits' s t a)) →
      {s t : Spot} {l : List A} → by.Commas tok fits A (R tok fits) s t l → Firm tok fits s.at t.at (λ tok' fits'. by.Commas tok' fits' A (R tok' fits') s t l)
  commas_firm R f (by.first {s} {t} {a} d) = firm_map (f s t a d) (λ tok' fits' d. by.first d)
  commas_firm R f (by.next {s} {t} {u} {l} {a} d i e) = firm3 (commas_firm R f d) (firm_next i) (f (passed t) u a e) (λ tok' fits' d i e. by.next d i e)

  -- ---- declarations

  pub length_firm : (s t : Spot) (a : Length) → LengthAt tok fits s t a → Firm tok fits s.at t.at (λ tok' fits'. LengthAt tok' fits' s t a)
  length_firm _ _ _ (length z i n c) = firm3 (firm_next i) (firm_next n) (firm_next c) (λ tok' fits' i n c. length z i n c)

  pub lengths_firm : {s t : Spot} {l : List Length} → by.Lengths tok fits s t l → Firm tok fits s.at t.at (λ tok' fits'. by.Lengths tok' fits' s t l)
  lengths_firm by.none = firm_none (λ tok' fits'. by.none)
  lengths_firm (by.more z d i n c) = firm4 (lengths_firm d) (firm_next i) (firm_next n) (firm_next c) (λ tok' fits' d i n c. by.more z d i n c)

  pub declares_firm : (s t : Spot) (d : Declarator) → by.Declares tok fits s t d → Firm tok fits s.at t.at (λ tok' fits'. by.Declares tok' fits' s t d)
  declares_firm _ _ _ (by.declares d i l) = firm3 (stars_firm d) (firm_next i) (lengths_firm l) (λ tok' fits' d i l. by.declares d i l)

  pub starting_firm : {n : ℕ} {d : Declarator} (s t : Spot) (x : Declared) → Starting tok fits n d s t x → Firm tok fits s.at t.at (λ tok' fits'. Starting tok' fits' n d s t x)
  starting_firm _ _ _ plain = firm_none (λ tok' fits'. plain)
  starting_firm _ _ _ (starts i e) = firm2 (firm_next i) (exp_firm e) (λ tok' fits' i e. starts i e)

  pub initialised_firm : (s t : Spot) (d : Declared) → by.Initialised tok fits s t d → Firm tok fits s.at t.at (λ tok' fits'. by.Initialised tok' fits' s t d)
  initialised_firm s t _ (by.plain {d = d} h) = firm_map (declares_firm s t d h) (λ tok' fits' h. by.plain h)
  initialised_firm _ _ _ (by.starts {s} {t} {u} {d} h i e) = firm3 (declares_firm s t d h) (firm_next i) (exp_firm e) (λ tok' fits' h i e. by.starts h i e)

  pub declaration_firm : {s t : Spot} {d : Decl} → by.Declaration tok fits s t d → Firm tok fits s.at t.at (λ tok' fits'. by.Declaration tok' fits' s t d)
  declaration_firm (by.declaration d l i) = firm3 (base_firm d) (commas_firm by.Initialised initialised_firm l) (firm_next i) (λ tok' fits' d l i. by.declaration d l i)

  -- ---- simple statements

  pub simple_firm : {s t : Spot} {a : Simple} → by.SimpleStmt tok fits s t a → Firm tok fits s.at t.at (λ tok' fits'. by.SimpleStmt tok' fits' s t a)
  simple_firm (by.assign p make d e i x) = firm3 (exp_firm d) (firm_next i) (exp_firm x) (λ tok' fits' d i x. by.assign p make d e i x)
  simple_firm (by.behind p make d e i) = firm2 (postfix_firm d) (firm_next i) (λ tok' fits' d i. by.behind p make d e i)
  simple_firm (by.before p make e i d) = firm2 (firm_next i) (exp_firm d) (λ tok' fits' i d. by.before p make e i d)
  simple_firm (by.call i d) = firm2 (firm_next i) (arguments_firm d) (λ tok' fits' i d. by.call i d)
  simple_firm (by.assert i d) = firm2 (firm_next i) (bracketed_firm d) (λ tok' fits' i d. by.assert i d)
  simple_firm (by.assume i d) = firm2 (firm_next i) (bracketed_firm d) (λ tok' fits' i d. by.assume i d)
  simple_firm (by.abort i o c) = firm3 (firm_next i) (firm_next o) (firm_next c) (λ tok' fits' i o c. by.abort i o c)
  simple_firm (by.crest_int i o d c) = firm4 (firm_next i) (firm_next o) (exp_firm d) (firm_next c) (λ tok' fits' i o d c. by.crest_int i o d c)

  pub opt_expr_firm : {s t : Spot} {a : Option Expr} → by.OptExpr tok fits s t a → Firm tok fits s.at t.at (λ tok' fits'. by.OptExpr tok' fits' s t a)
  opt_expr_firm by.none = firm_none (λ tok' fits'. by.none)
  opt_expr_firm (by.some d) = firm_map (exp_firm d) (λ tok' fits' d. by.some d)

  pub opt_simple_firm : {s t : Spot} {a : Option Simple} → by.OptSimple tok fits s t a → Firm tok fits s.at t.at (λ tok' fits'. by.OptSimple tok' fits' s t a)
  opt_simple_firm by.none = firm_none (λ tok' fits'. by.none)
  opt_simple_firm (by.some d) = firm_map (simple_firm d) (λ tok' fits' d. by.some d)

  pub for_head_firm : {s t : Spot} {h : Head} → by.ForHead tok fits s t h → Firm tok fits s.at t.at (λ tok' fits'. by.ForHead tok' fits' s t h)
  for_head_firm (by.decl d) = firm_map (declaration_firm d) (λ tok' fits' d. by.decl d)
  for_head_firm (by.simple d i) = firm2 (opt_simple_firm d) (firm_next i) (λ tok' fits' d i. by.simple d i)

  pub controls_firm : (s t : Spot) (x : Head × Option Expr × Option Simple) → Controls tok fits s t x → Firm tok fits s.at t.at (λ tok' fits'. Controls tok' fits' s t x)
  controls_firm _ _ _ (controls i h c j p k) = firm6 (firm_next i) (for_head_firm h) (opt_expr_firm c) (firm_next j) (opt_simple_firm p) (firm_next k) (λ tok' fits' i h c j p k. controls i h c j p k)

  -- ---- statements

  mutual
    pub statement_firm : {b : Bool} {s t : Spot} {a : Stmt} → by.Statement tok fits b s t a → Firm tok fits s.at t.at (λ tok' fits'. by.Statement tok' fits' b s t a)
    statement_firm (by.empty i) = firm_map (firm_next i) (λ tok' fits' i. by.empty i)
    statement_firm (by.block d) = firm_map (block_firm d) (λ tok' fits' d. by.block d)
    statement_firm (by.if_alone i d h) = firm3 (firm_next i) (bracketed_firm d) (statement_firm h) (λ tok' fits' i d h. by.if_alone i d h)
    statement_firm (by.if_else i d h j k) = firm5 (firm_next i) (bracketed_firm d) (statement_firm h) (firm_next j) (statement_firm k) (λ tok' fits' i d h j k. by.if_else i d h j k)
    statement_firm (by.while i d h) = firm3 (firm_next i) (bracketed_firm d) (statement_firm h) (λ tok' fits' i d h. by.while i d h)
    statement_firm (by.do_while i h j d c) = firm5 (firm_next i) (statement_firm h) (firm_next j) (bracketed_firm d) (firm_next c) (λ tok' fits' i h j d c. by.do_while i h j d c)
    statement_firm (by.for i o h c j p k d) = firm8 (firm_next i) (firm_next o) (for_head_firm h) (opt_expr_firm c) (firm_next j) (opt_simple_firm p) (firm_next k) (statement_firm d)
        (λ tok' fits' i o h c j p k d. by.for i o h c j p k d)
    statement_firm (by.return i d j) = firm3 (firm_next i) (opt_expr_firm d) (firm_next j) (λ tok' fits' i d j. by.return i d j)
    statement_firm (by.break i j) = firm2 (firm_next i) (firm_next j) (λ tok' fits' i j. by.break i j)
    statement_firm (by.continue i j) = firm2 (firm_next i) (firm_next j) (λ tok' fits' i j. by.continue i j)
    statement_firm (by.simple d j) = firm2 (simple_firm d) (firm_next j) (λ tok' fits' d j. by.simple d j)

    pub block_firm : {s t : Spot} {l : List Part} → by.Block tok fits s t l → Firm tok fits s.at t.at (λ tok' fits'. by.Block tok' fits' s t l)
    block_firm (by.braces i d c) = firm3 (firm_next i) (parts_firm d) (firm_next c) (λ tok' fits' i d c. by.braces i d c)

    pub parts_firm : {s t : Spot} {l : List Part} → by.Parts tok fits s t l → Firm tok fits s.at t.at (λ tok' fits'. by.Parts tok' fits' s t l)
    parts_firm by.none = firm_none (λ tok' fits'. by.none)
    parts_firm (by.decl d e) = firm2 (parts_firm d) (declaration_firm e) (λ tok' fits' d e. by.decl d e)
    parts_firm (by.stmt d e) = firm2 (parts_firm d) (statement_firm e) (λ tok' fits' d e. by.stmt d e)

  pub any_firm : {s t : Spot} {a : Stmt} → AnyStatement tok fits s t a → Firm tok fits s.at t.at (λ tok' fits'. AnyStatement tok' fits' s t a)
  any_firm (any d) = firm_map (statement_firm d) (λ tok' fits' d. any d)

  pub branches_firm : {p : Spot} {e : Expr} {s t : Spot} {a : Stmt} → Branches tok fits p e s t a → Firm tok fits s.at t.at (λ tok' fits'. Branches tok' fits' p e s t a)
  branches_firm (alone d) = firm_map (statement_firm d) (λ tok' fits' d. alone d)
  branches_firm (both d i k) = firm3 (statement_firm d) (firm_next i) (statement_firm k) (λ tok' fits' d i k. both d i k)

  pub part_firm : (s t : Spot) (a : Part) → PartAt tok fits s t a → Firm tok fits s.at t.at (λ tok' fits'. PartAt tok' fits' s t a)
  part_firm s t _ (decl d) = firm_map (declaration_firm d) (λ tok' fits' d. decl d)
  part_firm s t _ (stmt d) = firm_map (statement_firm d) (λ tok' fits' d. stmt d)
