-- Each expression of a program has a token of its own.
use Rattle.std.proofs.Common.{◌≡◌, ℕ, suc, ◌≤◌, Bool, List, [], ◌∷◌, ◌++◌, flat_map, Option, Some, None, refl, sym, ap, subst, ◌∙◌, arith}
use Rattle.std.proofs.lemmas.List.Folds.{flat_map-map}
use Rattle.std.proofs.lemmas.Grind.{flat_map-append}
use Rattle.cc_model.specs.declared.tokens.Kind.{Kind}
use Rattle.cc_model.specs.declared.tokens.Punct.{Punct}
use Rattle.cc_model.specs.declared.tokens.Punct.TheVariants as punct
use Rattle.cc_model.specs.declared.trees.Expr.{Expr}
use Rattle.cc_model.specs.declared.trees.Simple.{Simple}
use Rattle.cc_model.specs.declared.trees.Head.{Head}
use Rattle.cc_model.specs.declared.trees.Length.{Length}
use Rattle.cc_model.specs.declared.trees.Declarator.{Declarator}
use Rattle.cc_model.specs.declared.trees.Declared.{Declared}
use Rattle.cc_model.specs.declared.trees.Decl.{Decl}
use Rattle.cc_model.specs.declared.trees.Stmt.{Stmt}
use Rattle.cc_model.specs.declared.trees.Stmt.TheVariants as stmt
use Rattle.cc_model.specs.declared.trees.Part.{Part}
use Rattle.cc_model.specs.declared.trees.Part.TheVariants as part
use Rattle.cc_model.specs.declared.trees.Part.TheOpen as levels
use Rattle.cc_model.specs.declared.trees.Part.TheFolds.{fold-Stmt, fold-roll-Part, fold-roll-Stmt}
use Rattle.cc_model.specs.declared.trees.Item.{Item}
use Rattle.cc_model.specs.Spots.{Spot}
use Rattle.cc_model.specs.ReadStatements as rs
use Rattle.cc_model.specs.ReadStatements.{Assignment, Stepping, assign_sign, behind_sign, before_sign}
use Rattle.cc_model.specs.CheckedProgram.{tokens_in, expression_if, simple_expressions, simple_expressions_if, start_expression, head_expressions, part_expressions, stmt_expressions, expressions_of_part, item_expressions}
use Rattle.source_laws.proofs.Counting.{Spans, spans_none, spans_wider, spans_both, spans_last, spans_alone}
use Rattle.source_laws.proofs.Spans.{base_on, stars_on, exp_spans, postfix_spans, bracketed_spans, arguments_spans, Between}

-- the tokens of expressions
abbrev pub toks : List Expr → List ℕ
toks l = flat_map tokens_in l

abbrev expressions_of : Stmt → List Expr
expressions_of s = fold-Stmt (List Expr) (List Expr) part_expressions stmt_expressions s

abbrev of_stmt : Stmt → List ℕ
of_stmt s = toks (expressions_of s)

abbrev pub of_part : Part → List ℕ
of_part p = toks (expressions_of_part p)

abbrev of_declared : Declared → List ℕ
of_declared p = toks (start_expression p.initializer)

abbrev pub of_item : Item → List ℕ
of_item i = toks (item_expressions i)

pub toks_both : (l m : List Expr) → toks (l ++ m) ≡ toks l ++ toks m
toks_both l m = flat_map-append tokens_in l m

pub toks_each : {A : Type 0} (g : A → List Expr) (l : List A) → toks (flat_map g l) ≡ flat_map (λ x. toks (g x)) l
toks_each g [] = refl
toks_each g (x ∷ l) = toks_both (g x) (flat_map g l) ∙ ap (λ m. toks (g x) ++ m) (toks_each g l)

-- ---- the expressions of a statement

rolled : (s : Stmt) (l : List Expr) → expressions_of s ≡ l → of_stmt s ≡ toks l
rolled s l e = ap toks e

block_is : (parts : List Part) → of_stmt (stmt.Block parts) ≡ flat_map of_part parts
block_is parts = rolled (stmt.Block parts) (flat_map expressions_of_part parts) (ap expressions_of (sym (stmt.rolls-Block parts)) ∙ fold-roll-Stmt (List Expr) (List Expr) part_expressions stmt_expressions (levels.Block parts)
    ∙ flat_map-map (λ (l : List Expr). l) expressions_of_part parts) ∙ toks_each expressions_of_part parts

empty_is : of_stmt stmt.Empty ≡ []
empty_is = rolled stmt.Empty [] (ap expressions_of (sym stmt.rolls-Empty) ∙ fold-roll-Stmt (List Expr) (List Expr) part_expressions stmt_expressions levels.Empty)

if_is : (w : ℕ) (c : Expr) (a : Stmt) → of_stmt (stmt.If w c a) ≡ tokens_in c ++ of_stmt a
if_is w c a = rolled (stmt.If w c a) (c ∷ expressions_of a) (ap expressions_of (sym (stmt.rolls-If w c a)) ∙ fold-roll-Stmt (List Expr) (List Expr) part_expressions stmt_expressions (levels.If w c a))

while_is : (w : ℕ) (c : Expr) (a : Stmt) → of_stmt (stmt.While w c a) ≡ tokens_in c ++ of_stmt a
while_is w c a = rolled (stmt.While w c a) (c ∷ expressions_of a) (ap expressions_of (sym (stmt.rolls-While w c a)) ∙ fold-roll-Stmt (List Expr) (List Expr) part_expressions stmt_expressions (levels.While w c a))

do_is : (w : ℕ) (a : Stmt) (c : Expr) → of_stmt (stmt.Do w a c) ≡ of_stmt a ++ (tokens_in c ++ [])
do_is w a c = rolled (stmt.Do w a c) (expressions_of a ++ c ∷ []) (ap expressions_of (sym (stmt.rolls-Do w a c)) ∙ fold-roll-Stmt (List Expr) (List Expr) part_expressions stmt_expressions (levels.Do w a c))
    ∙ toks_both (expressions_of a) (c ∷ [])

if_else_is : (w : ℕ) (c : Expr) (a b : Stmt) → of_stmt (stmt.IfElse w c a b) ≡ tokens_in c ++ (of_stmt a ++ of_stmt b)
if_else_is w c a b = rolled (stmt.IfElse w c a b) (c ∷ (expressions_of a ++ expressions_of b)) (ap expressions_of (sym (stmt.rolls-IfElse w c a b)) ∙ fold-roll-Stmt (List Expr) (List Expr) part_expressions stmt_expressions (levels.IfElse w c a b))
    ∙ ap (λ m. tokens_in c ++ m) (toks_both (expressions_of a) (expressions_of b))

for_is : (w : ℕ) (h : Head) (c : Option Expr) (n : Option Simple) (a : Stmt) → of_stmt (stmt.For w h c n a)
    ≡ toks (head_expressions h) ++ (toks (expression_if c) ++ (toks (simple_expressions_if n) ++ of_stmt a))
for_is w h c n a = rolled (stmt.For w h c n a) (head_expressions h ++ (expression_if c ++ (simple_expressions_if n ++ expressions_of a))) (ap expressions_of (sym (stmt.rolls-For w h c n a)) ∙ fold-roll-Stmt (List Expr) (List Expr) part_expressions stmt_expressions (levels.For w h c n a))
    ∙ toks_both (head_expressions h) (expression_if c ++ (simple_expressions_if n ++ expressions_of a))
    ∙ ap (λ m. toks (head_expressions h) ++ m) (toks_both (expression_if c) (simple_expressions_if n ++ expressions_of a)
    ∙ ap (λ m. toks (expression_if c) ++ m) (toks_both (simple_expressions_if n) (expressions_of a)))

return_is : (w : ℕ) (e : Option Expr) → of_stmt (stmt.Return w e) ≡ toks (expression_if e)
return_is w e = rolled (stmt.Return w e) (expression_if e) (ap expressions_of (sym (stmt.rolls-Return w e)) ∙ fold-roll-Stmt (List Expr) (List Expr) part_expressions stmt_expressions (levels.Return w e))

break_is : (w : ℕ) → of_stmt (stmt.Break w) ≡ []
break_is w = rolled (stmt.Break w) [] (ap expressions_of (sym (stmt.rolls-Break w)) ∙ fold-roll-Stmt (List Expr) (List Expr) part_expressions stmt_expressions (levels.Break w))

continue_is : (w : ℕ) → of_stmt (stmt.Continue w) ≡ []
continue_is w = rolled (stmt.Continue w) [] (ap expressions_of (sym (stmt.rolls-Continue w)) ∙ fold-roll-Stmt (List Expr) (List Expr) part_expressions stmt_expressions (levels.Continue w))

simple_is : (s : Simple) → of_stmt (stmt.Simple s) ≡ toks (simple_expressions s)
simple_is s = rolled (stmt.Simple s) (simple_expressions s) (ap expressions_of (sym (stmt.rolls-Simple s)) ∙ fold-roll-Stmt (List Expr) (List Expr) part_expressions stmt_expressions (levels.Simple s))

decl_is : (d : Decl) → of_part (part.Decl d) ≡ flat_map of_declared d.parts
decl_is d = ap toks (ap expressions_of_part (sym (part.rolls-Decl d)) ∙ fold-roll-Part (List Expr) (List Expr) part_expressions stmt_expressions (levels.Decl d)) ∙ toks_each (λ p. start_expression p.initializer) d.parts

stmt_is : (s : Stmt) → of_part (part.Stmt s) ≡ of_stmt s
stmt_is s = ap toks (ap expressions_of_part (sym (part.rolls-Stmt s)) ∙ fold-roll-Part (List Expr) (List Expr) part_expressions stmt_expressions (levels.Stmt s))

abbrev IsAssignment : Option Assignment → Type 0
IsAssignment None = Unit {0}
IsAssignment (Some m) = (t : ℕ) (a b : Expr) → toks (simple_expressions (m t a b)) ≡ tokens_in a ++ (tokens_in b ++ [])

abbrev IsStepping : Option Stepping → Type 0
IsStepping None = Unit {0}
IsStepping (Some m) = (t : ℕ) (a : Expr) → toks (simple_expressions (m t a)) ≡ tokens_in a ++ []

assigns : (p : Punct) → IsAssignment (assign_sign p)
assigns punct.OpenBrace = tt
assigns punct.CloseBrace = tt
assigns punct.Open = tt
assigns punct.Close = tt
assigns punct.OpenSquare = tt
assigns punct.CloseSquare = tt
assigns punct.Semicolon = tt
assigns punct.Comma = tt
assigns punct.Dot = tt
assigns punct.Arrow = tt
assigns punct.Star = tt
assigns punct.Ampersand = tt
assigns punct.Bang = tt
assigns punct.Plus = tt
assigns punct.Dash = tt
assigns punct.Slash = tt
assigns punct.Percent = tt
assigns punct.Less = tt
assigns punct.Greater = tt
assigns punct.AtMost = tt
assigns punct.AtLeast = tt
assigns punct.Equal = tt
assigns punct.Unequal = tt
assigns punct.Both = tt
assigns punct.Either = tt
assigns punct.Assign = λ t a b. refl
assigns punct.AddTo = λ t a b. refl
assigns punct.SubFrom = λ t a b. refl
assigns punct.MulBy = λ t a b. refl
assigns punct.DivBy = λ t a b. refl
assigns punct.RemBy = λ t a b. refl
assigns punct.Increase = tt
assigns punct.Decrease = tt

behinds : (p : Punct) → IsStepping (behind_sign p)
behinds punct.OpenBrace = tt
behinds punct.CloseBrace = tt
behinds punct.Open = tt
behinds punct.Close = tt
behinds punct.OpenSquare = tt
behinds punct.CloseSquare = tt
behinds punct.Semicolon = tt
behinds punct.Comma = tt
behinds punct.Dot = tt
behinds punct.Arrow = tt
behinds punct.Star = tt
behinds punct.Ampersand = tt
behinds punct.Bang = tt
behinds punct.Plus = tt
behinds punct.Dash = tt
behinds punct.Slash = tt
behinds punct.Percent = tt
behinds punct.Less = tt
behinds punct.Greater = tt
behinds punct.AtMost = tt
behinds punct.AtLeast = tt
behinds punct.Equal = tt
behinds punct.Unequal = tt
behinds punct.Both = tt
behinds punct.Either = tt
behinds punct.Assign = tt
behinds punct.AddTo = tt
behinds punct.SubFrom = tt
behinds punct.MulBy = tt
behinds punct.DivBy = tt
behinds punct.RemBy = tt
behinds punct.Increase = λ t a. refl
behinds punct.Decrease = λ t a. refl

befores : (p : Punct) → IsStepping (before_sign p)
befores punct.OpenBrace = tt
befores punct.CloseBrace = tt
befores punct.Open = tt
befores punct.Close = tt
befores punct.OpenSquare = tt
befores punct.CloseSquare = tt
befores punct.Semicolon = tt
befores punct.Comma = tt
befores punct.Dot = tt
befores punct.Arrow = tt
befores punct.Star = tt
befores punct.Ampersand = tt
befores punct.Bang = tt
befores punct.Plus = tt
befores punct.Dash = tt
befores punct.Slash = tt
befores punct.Percent = tt
befores punct.Less = tt
befores punct.Greater = tt
befores punct.AtMost = tt
befores punct.AtLeast = tt
befores punct.Equal = tt
befores punct.Unequal = tt
befores punct.Both = tt
befores punct.Either = tt
befores punct.Assign = tt
befores punct.AddTo = tt
befores punct.SubFrom = tt
befores punct.MulBy = tt
befores punct.DivBy = tt
befores punct.RemBy = tt
befores punct.Increase = λ t a. refl
befores punct.Decrease = λ t a. refl

-- ---- by the grammar

module _ (tok : ℕ → Option Kind) (fits : ℕ → ℕ → Bool) where
  lengths_on : {s t : Spot} {l : List Length} → rs.Lengths tok fits s t l → s.at ≤ t.at
  lengths_on rs.none = omega arith
  lengths_on (rs.more z h i j k) = let e = lengths_on h in omega (arith, e)

  pub declares_on : {s t : Spot} {d : Declarator} → rs.Declares tok fits s t d → s.at ≤ t.at
  declares_on (rs.declares h i k) = let e = stars_on tok fits h in let f = lengths_on k in omega (arith, e, f)

  initialised : {s t : Spot} {p : Declared} → rs.Initialised tok fits s t p → Between tok fits s t (of_declared p)
  initialised (rs.plain {s = s} {t = t} h) = (declares_on h, spans_none s.at t.at)
  initialised (rs.starts {s = s} {t = t} {u = u} {a = a} h i k) = let x = exp_spans tok fits k in let x0 = x.0 in let e = declares_on h in
      (omega (arith, e, x0), spans_alone s.at u.at (tokens_in a) (spans_wider (suc t.at) u.at s.at u.at (tokens_in a) (omega (arith, e)) (omega arith) x.1))

  commas : {s t : Spot} {l : List Declared} → rs.Commas tok fits Declared (rs.Initialised tok fits) s t l → Between tok fits s t (flat_map of_declared l)
  commas (rs.first {s = s} {t = t} {a = a} h) = let x = initialised h in (x.0, spans_alone s.at t.at (of_declared a) x.1)
  commas (rs.next {s = s} {t = t} {u = u} {l = l} {a = a} h i k) = let x = commas h in let y = initialised k in let x0 = x.0 in let y0 = y.0 in
      (omega (arith, x0, y0), spans_last of_declared s.at t.at (suc t.at) u.at l a x0 (omega arith) y0 x.1 y.1)

  declaration : {s t : Spot} {d : Decl} → rs.Declaration tok fits s t d → Between tok fits s t (flat_map of_declared d.parts)
  declaration (rs.declaration {s = s} {t = t} {u = u} {l = l} b h i) = let e = base_on tok fits b in let x = commas h in let x0 = x.0 in
      (omega (arith, e, x0), spans_wider t.at u.at s.at (suc u.at) (flat_map of_declared l) (omega (arith, e)) (omega arith) x.1)

  simples : {s t : Spot} {a : Simple} → rs.SimpleStmt tok fits s t a → Between tok fits s t (toks (simple_expressions a))
  simples (rs.assign {s = s} {t = t} {u = u} {a = a} {b = b} p make h e i k) =
      let x = exp_spans tok fits h in let y = exp_spans tok fits k in let x0 = x.0 in let y0 = y.0 in
      let is : IsAssignment (Some make) = subst IsAssignment e (assigns p) in
      (omega (arith, x0, y0), subst (Spans s.at u.at) (sym (is t.at a b)) (spans_both s.at t.at (suc t.at) u.at (tokens_in a) (tokens_in b ++ []) x0 (omega arith) y0 x.1 (spans_alone (suc t.at) u.at (tokens_in b) y.1)))
  simples (rs.behind {s = s} {t = t} {a = a} p make h e i) =
      let x = postfix_spans tok fits h in let x0 = x.0 in
      let is : IsStepping (Some make) = subst IsStepping e (behinds p) in
      (omega (arith, x0), subst (Spans s.at (suc t.at)) (sym (is t.at a)) (spans_alone s.at (suc t.at) (tokens_in a) (spans_wider s.at t.at s.at (suc t.at) (tokens_in a) (omega arith) (omega arith) x.1)))
  simples (rs.before {s = s} {t = t} {a = a} p make e i h) =
      let x = exp_spans tok fits h in let x0 = x.0 in
      let is : IsStepping (Some make) = subst IsStepping e (befores p) in
      (omega (arith, x0), subst (Spans s.at t.at) (sym (is s.at a)) (spans_alone s.at t.at (tokens_in a) (spans_wider (suc s.at) t.at s.at t.at (tokens_in a) (omega arith) (omega arith) x.1)))
  simples (rs.call {s = s} {t = t} {l = l} i h) = let x = arguments_spans tok fits h in let x0 = x.0 in (omega (arith, x0), spans_wider (suc s.at) t.at s.at t.at (toks l) (omega arith) (omega arith) x.1)
  simples (rs.assert {s = s} {t = t} {a = a} i h) = let x = bracketed_spans tok fits h in let x0 = x.0 in (omega (arith, x0), spans_alone s.at t.at (tokens_in a) (spans_wider (suc s.at) t.at s.at t.at (tokens_in a) (omega arith) (omega arith) x.1))
  simples (rs.assume {s = s} {t = t} {a = a} i h) = let x = bracketed_spans tok fits h in let x0 = x.0 in (omega (arith, x0), spans_alone s.at t.at (tokens_in a) (spans_wider (suc s.at) t.at s.at t.at (tokens_in a) (omega arith) (omega arith) x.1))
  simples (rs.abort {s = s} i j k) = (omega arith, spans_none s.at (suc (suc (suc s.at))))
  simples (rs.crest_int {s = s} {t = t} {a = a} i j h k) = let x = exp_spans tok fits h in let x0 = x.0 in
      (omega (arith, x0), spans_alone s.at (suc t.at) (tokens_in a) (spans_wider (suc (suc s.at)) t.at s.at (suc t.at) (tokens_in a) (omega arith) (omega arith) x.1))

  opt_expr : {s t : Spot} {a : Option Expr} → rs.OptExpr tok fits s t a → Between tok fits s t (toks (expression_if a))
  opt_expr (rs.none {s = s}) = (omega arith, spans_none s.at s.at)
  opt_expr (rs.some {s = s} {t = t} {a = a} h) = let x = exp_spans tok fits h in (x.0, spans_alone s.at t.at (tokens_in a) x.1)

  opt_simple : {s t : Spot} {a : Option Simple} → rs.OptSimple tok fits s t a → Between tok fits s t (toks (simple_expressions_if a))
  opt_simple (rs.none {s = s}) = (omega arith, spans_none s.at s.at)
  opt_simple (rs.some h) = simples h

  for_head : {s t : Spot} {h : Head} → rs.ForHead tok fits s t h → Between tok fits s t (toks (head_expressions h))
  for_head (rs.decl {s = s} {t = t} {d = d} h) = let x = declaration h in (x.0, subst (Spans s.at t.at) (sym (toks_each (λ p. start_expression p.initializer) d.parts)) x.1)
  for_head (rs.simple {s = s} {t = t} {a = a} h i) = let x = opt_simple h in let x0 = x.0 in (omega (arith, x0), spans_wider s.at t.at s.at (suc t.at) (toks (simple_expressions_if a)) (omega arith) (omega arith) x.1)

  mutual
    statement : {e : Bool} {s t : Spot} {a : Stmt} → rs.Statement tok fits e s t a → Between tok fits s t (of_stmt a)
    statement (rs.empty {s = s} i) = (omega arith, subst (Spans s.at (suc s.at)) (sym empty_is) (spans_none s.at (suc s.at)))
    statement (rs.block {s = s} {t = t} {l = l} h) = let x = block h in (x.0, subst (Spans s.at t.at) (sym (block_is l)) x.1)
    statement (rs.if_alone {s = s} {t = t} {u = u} {e = e} {a = a} i h k) = let x = bracketed_spans tok fits h in let y = statement k in let x0 = x.0 in let y0 = y.0 in (
      omega (arith, x0, y0),
      subst (Spans s.at u.at) (sym (if_is s.at e a)) (spans_both s.at t.at t.at u.at (tokens_in e) (of_stmt a) (omega (arith, x0)) (omega arith) y0
          (spans_wider (suc s.at) t.at s.at t.at (tokens_in e) (omega arith) (omega arith) x.1) y.1),
    )
    statement (rs.if_else {s = s} {t = t} {u = u} {v = v} {e = e} {a = a} {c = c} i h k j m) =
        let x = bracketed_spans tok fits h in let y = statement k in let z = statement m in let x0 = x.0 in let y0 = y.0 in let z0 = z.0 in (
          omega (arith, x0, y0, z0),
          subst (Spans s.at v.at) (sym (if_else_is s.at e a c)) (spans_both s.at t.at t.at v.at (tokens_in e) (of_stmt a ++ of_stmt c) (omega (arith, x0)) (omega arith) (omega (arith, y0, z0))
              (spans_wider (suc s.at) t.at s.at t.at (tokens_in e) (omega arith) (omega arith) x.1) (spans_both t.at u.at (suc u.at) v.at (of_stmt a) (of_stmt c) y0 (omega arith) z0 y.1 z.1)),
        )
    statement (rs.while {s = s} {t = t} {u = u} {e = e} {a = a} i h k) = let x = bracketed_spans tok fits h in let y = statement k in let x0 = x.0 in let y0 = y.0 in (
      omega (arith, x0, y0),
      subst (Spans s.at u.at) (sym (while_is s.at e a)) (spans_both s.at t.at t.at u.at (tokens_in e) (of_stmt a) (omega (arith, x0)) (omega arith) y0
          (spans_wider (suc s.at) t.at s.at t.at (tokens_in e) (omega arith) (omega arith) x.1) y.1),
    )
    statement (rs.do_while {s = s} {t = t} {u = u} {e = e} {a = a} i k j h m) = let x = bracketed_spans tok fits h in let y = statement k in let x0 = x.0 in let y0 = y.0 in (
      omega (arith, x0, y0),
      subst (Spans s.at (suc u.at)) (sym (do_is s.at a e)) (spans_both s.at t.at (suc t.at) (suc u.at) (of_stmt a) (tokens_in e ++ []) (omega (arith, y0)) (omega arith) (omega (arith, x0))
          (spans_wider (suc s.at) t.at s.at t.at (of_stmt a) (omega arith) (omega arith) y.1)
          (spans_alone (suc t.at) (suc u.at) (tokens_in e) (spans_wider (suc t.at) u.at (suc t.at) (suc u.at) (tokens_in e) (omega arith) (omega arith) x.1))),
    )
    statement (rs.for {s = s} {t = t} {u = u} {v = v} {w = w} {h = h} {c = c} {p = p} {a = a} i j k l m n o q) =
        let x = for_head k in let y = opt_expr l in let z = opt_simple n in let r = statement q in
        let x0 = x.0 in let y0 = y.0 in let z0 = z.0 in let r0 = r.0 in
        let one = toks (head_expressions h) in let two = toks (expression_if c) in let three = toks (simple_expressions_if p) in (
          omega (arith, x0, y0, z0, r0),
          subst (Spans s.at w.at) (sym (for_is s.at h c p a))
              (spans_both s.at t.at t.at w.at one (two ++ (three ++ of_stmt a)) (omega (arith, x0)) (omega arith) (omega (arith, y0, z0, r0)) (spans_wider (suc (suc s.at)) t.at s.at t.at one (omega arith) (omega arith) x.1)
              (spans_both t.at u.at (suc u.at) w.at two (three ++ of_stmt a) y0 (omega arith) (omega (arith, z0, r0)) y.1
              (spans_both (suc u.at) v.at (suc v.at) w.at three (of_stmt a) z0 (omega arith) r0 z.1 r.1))),
        )
    statement (rs.return {s = s} {t = t} {a = a} i h j) = let x = opt_expr h in let x0 = x.0 in
        (omega (arith, x0), subst (Spans s.at (suc t.at)) (sym (return_is s.at a)) (spans_wider (suc s.at) t.at s.at (suc t.at) (toks (expression_if a)) (omega arith) (omega arith) x.1))
    statement (rs.break {s = s} i j) = (omega arith, subst (Spans s.at (suc (suc s.at))) (sym (break_is s.at)) (spans_none s.at (suc (suc s.at))))
    statement (rs.continue {s = s} i j) = (omega arith, subst (Spans s.at (suc (suc s.at))) (sym (continue_is s.at)) (spans_none s.at (suc (suc s.at))))
    statement (rs.simple {s = s} {t = t} {a = a} h i) = let x = simples h in let x0 = x.0 in
        (omega (arith, x0), subst (Spans s.at (suc t.at)) (sym (simple_is a)) (spans_wider s.at t.at s.at (suc t.at) (toks (simple_expressions a)) (omega arith) (omega arith) x.1))

    pub block : {s t : Spot} {l : List Part} → rs.Block tok fits s t l → Between tok fits s t (flat_map of_part l)
    block (rs.braces {s = s} {t = t} {l = l} i h j) = let x = parts h in let x0 = x.0 in (omega (arith, x0), spans_wider (suc s.at) t.at s.at (suc t.at) (flat_map of_part l) (omega arith) (omega arith) x.1)

    parts : {s t : Spot} {l : List Part} → rs.Parts tok fits s t l → Between tok fits s t (flat_map of_part l)
    parts (rs.none {s = s}) = (omega arith, spans_none s.at s.at)
    parts (rs.decl {s = s} {t = t} {u = u} {l = l} {d = d} h k) = let x = parts h in let y = declaration k in let x0 = x.0 in let y0 = y.0 in
        (omega (arith, x0, y0), spans_last of_part s.at t.at t.at u.at l (part.Decl d) x0 (omega arith) y0 x.1 (subst (Spans t.at u.at) (sym (decl_is d)) y.1))
    parts (rs.stmt {s = s} {t = t} {u = u} {l = l} {a = a} h k) = let x = parts h in let y = statement k in let x0 = x.0 in let y0 = y.0 in
        (omega (arith, x0, y0), spans_last of_part s.at t.at t.at u.at l (part.Stmt a) x0 (omega arith) y0 x.1 (subst (Spans t.at u.at) (sym (stmt_is a)) y.1))
