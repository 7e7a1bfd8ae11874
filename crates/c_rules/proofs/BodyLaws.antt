-- What is said of each statement, by what is said of its parts.
use Rattle.std.proofs.Common.{◌≡◌, ◌∙◌, refl, sym, ap, subst, ℕ, List, [], ◌++◌, map, Option, None, Some, Result, Ok, Err, OnOk}
use Rattle.cc_model.specs.declared.typing.CType.{CType}
use Rattle.cc_model.specs.declared.typing.File.{File}
use Rattle.cc_model.specs.declared.typing.Before.{Before}
use Rattle.cc_model.specs.declared.typing.Note.{Note}
use Rattle.cc_model.specs.declared.trees.Decl.{Decl}
use Rattle.cc_model.specs.declared.trees.Declared.{Declared}
use Rattle.cc_model.specs.declared.trees.Expr.{Expr}
use Rattle.cc_model.specs.declared.trees.Head.{Head}
use Rattle.cc_model.specs.declared.trees.Head.TheVariants as head
use Rattle.cc_model.specs.declared.trees.Initializer.{Initializer}
use Rattle.cc_model.specs.declared.trees.Simple.{Simple}
use Rattle.cc_model.specs.declared.trees.Stmt as source
use Rattle.cc_model.specs.declared.trees.Stmt.TheVariants as stmt
use Rattle.cc_model.specs.declared.trees.Part.{Part}
use Rattle.cc_model.specs.declared.trees.Part.TheVariants as part
use Rattle.cc_model.specs.declared.trees.Part.TheOpen as levels
use Rattle.cc_model.specs.declared.trees.Part.TheOpen.{Stmt-F}
use Rattle.cc_model.specs.declared.trees.Part.TheFolds.{fold-roll-Part, fold-roll-Stmt}
use Rattle.cc_model.specs.declared.tokens.Token.{Token}
use Rattle.cc_model.specs.declared.typing.Variable.{Variable}
use Rattle.cc_model.specs.Source.{text_at}
use Rattle.cc_model.specs.Scopes.{Text}
use Rattle.cc_model.specs.Typing.{judged}
use Rattle.cc_model.specs.Faults.{Inside, Said, said, first_say, closed, looping, opened, tested_if, simple_notes_if, return_notes, start_notes, declareds_of, head_of, part_level, stmt_level, part_of, body_of}
use Rattle.c_scopes.specs.declared.inside.Inside.{Inside as Standing}
use Rattle.c_rules.specs.Views.{here}
use Rattle.c_scopes.specs.Places.{place, outside, Leads, stmt_of, turn}
use Rattle.c_scopes.proofs.PlaceLaws.{restores, keeps_head, keeps_body, through_is}
use Rattle.c_scopes.proofs.Going.{turned, block_done, for_done}

-- what leads on by the one piece does by another that is the same
pub leads_as : {E : Type 0} (o : Result (Unit {0}) E) (x y : Inside → Said) (i j : Standing) (n m : List Note) → x ≡ y → OnOk o (Leads y i j n m) → OnOk o (Leads x i j n m)
leads_as (Ok u) x y i j n m e h = ap (λ (f : Inside → Said). first_say n (f (place i))) e ∙ h
leads_as (Err u) x y i j n m e h = tt

-- a piece that is notes alone
pub notes_as : {E : Type 0} (o : Result (Unit {0}) E) (x : Inside → Said) (l : Inside → List Note) (i : Standing) (n m : List Note) → x ≡ (λ j. said j (l j)) → OnOk o (m ≡ n ++ l (place i)) → OnOk o (Leads x i i n m)
notes_as (Ok u) x l i n m e h = ap (λ (f : Inside → Said). first_say n (f (place i))) e ∙ ap (said (place i)) (sym h)
notes_as (Err u) x l i n m e h = tt

-- what holds of what is seen, by the same sources, tokens, file, declarations before and scopes
pub seen_as : (P : (ℕ → Text) → File → Before → List (List Variable) → Type 0) (source source' : List ℕ) (tokens tokens' : List Token) (file file' : File) (before before' : Before) (scopes scopes' : List (List Variable))
    → source ≡ source' → tokens ≡ tokens' → file ≡ file' → before ≡ before' → scopes ≡ scopes' → P (text_at source tokens) file before scopes → P (text_at source' tokens') file' before' scopes'
seen_as P source source' tokens tokens' file file' before before' scopes scopes' a b c d e h =
    subst (λ x. P (text_at x tokens') file' before' scopes') a (subst (λ x. P (text_at source x) file' before' scopes') b (subst (λ x. P (text_at source tokens) x before' scopes') c
    (subst (λ x. P (text_at source tokens) file x scopes') d (subst (λ x. P (text_at source tokens) file before x) e h))))

module _ (text : ℕ → Text) (file : File) (before : Before) (result : Option CType) where
  abbrev of_stmt : source.Stmt → Inside → Said
  of_stmt s = stmt_of text file before result s

  abbrev of_part : Part → Inside → Said
  of_part p = part_of text file before result p

  abbrev at_level : Stmt-F (Inside → Said) (Inside → Said) → Inside → Said
  at_level s = stmt_level (judged text) text file before result s

  pub at_empty : (s : source.Stmt) → s ≡ stmt.Empty → of_stmt s ≡ (λ i. said i [])
  at_empty s e = ap of_stmt (e ∙ sym stmt.rolls-Empty) ∙ fold-roll-Stmt (Inside → Said) (Inside → Said) (part_level (judged text) text file before result) (stmt_level (judged text) text file before result) levels.Empty

  pub at_block : (s : source.Stmt) (parts seen_parts : List Part) → s ≡ stmt.Block parts → seen_parts ≡ parts → of_stmt s ≡ at_level (levels.Block (map of_part seen_parts))
  at_block s parts seen_parts e g = ap of_stmt (e ∙ sym (stmt.rolls-Block parts)) ∙ fold-roll-Stmt (Inside → Said) (Inside → Said) (part_level (judged text) text file before result) (stmt_level (judged text) text file before result) (levels.Block parts)
      ∙ ap (λ l. at_level (levels.Block (map of_part l))) (sym g)

  pub at_if : (s : source.Stmt) (w : ℕ) (c : Expr) (a seen_a : source.Stmt) → s ≡ stmt.If w c a → seen_a ≡ a → of_stmt s ≡ at_level (levels.If w c (of_stmt seen_a))
  at_if s w c a seen_a e g = ap of_stmt (e ∙ sym (stmt.rolls-If w c a)) ∙ fold-roll-Stmt (Inside → Said) (Inside → Said) (part_level (judged text) text file before result) (stmt_level (judged text) text file before result) (levels.If w c a)
      ∙ ap (λ x. at_level (levels.If w c (of_stmt x))) (sym g)

  pub at_if_else : (s : source.Stmt) (w : ℕ) (c : Expr) (a b seen_a seen_b : source.Stmt) → s ≡ stmt.IfElse w c a b → seen_a ≡ a → seen_b ≡ b → of_stmt s ≡ at_level (levels.IfElse w c (of_stmt seen_a) (of_stmt seen_b))
  at_if_else s w c a b seen_a seen_b e g h = ap of_stmt (e ∙ sym (stmt.rolls-IfElse w c a b)) ∙ fold-roll-Stmt (Inside → Said) (Inside → Said) (part_level (judged text) text file before result) (stmt_level (judged text) text file before result) (levels.IfElse w c a b)
      ∙ ap (λ x. at_level (levels.IfElse w c (of_stmt x) (of_stmt b))) (sym g) ∙ ap (λ x. at_level (levels.IfElse w c (of_stmt seen_a) (of_stmt x))) (sym h)

  pub at_while : (s : source.Stmt) (w : ℕ) (c : Expr) (a seen_a : source.Stmt) → s ≡ stmt.While w c a → seen_a ≡ a → of_stmt s ≡ at_level (levels.While w c (of_stmt seen_a))
  at_while s w c a seen_a e g = ap of_stmt (e ∙ sym (stmt.rolls-While w c a)) ∙ fold-roll-Stmt (Inside → Said) (Inside → Said) (part_level (judged text) text file before result) (stmt_level (judged text) text file before result) (levels.While w c a)
      ∙ ap (λ x. at_level (levels.While w c (of_stmt x))) (sym g)

  pub at_do : (s : source.Stmt) (w : ℕ) (c : Expr) (a seen_a : source.Stmt) → s ≡ stmt.Do w a c → seen_a ≡ a → of_stmt s ≡ at_level (levels.Do w (of_stmt seen_a) c)
  at_do s w c a seen_a e g = ap of_stmt (e ∙ sym (stmt.rolls-Do w a c)) ∙ fold-roll-Stmt (Inside → Said) (Inside → Said) (part_level (judged text) text file before result) (stmt_level (judged text) text file before result) (levels.Do w a c)
      ∙ ap (λ x. at_level (levels.Do w (of_stmt x) c)) (sym g)

  pub at_for : (s : source.Stmt) (w : ℕ) (h : Head) (c : Option Expr) (next : Option Simple) (a seen_a : source.Stmt) → s ≡ stmt.For w h c next a → seen_a ≡ a → of_stmt s ≡ at_level (levels.For w h c next (of_stmt seen_a))
  at_for s w h c next a seen_a e g = ap of_stmt (e ∙ sym (stmt.rolls-For w h c next a)) ∙ fold-roll-Stmt (Inside → Said) (Inside → Said) (part_level (judged text) text file before result) (stmt_level (judged text) text file before result) (levels.For w h c next a)
      ∙ ap (λ x. at_level (levels.For w h c next (of_stmt x))) (sym g)

  pub at_return : (s : source.Stmt) (w : ℕ) (e : Option Expr) → s ≡ stmt.Return w e → of_stmt s ≡ at_level (levels.Return w e)
  at_return s w e h = ap of_stmt (h ∙ sym (stmt.rolls-Return w e)) ∙ fold-roll-Stmt (Inside → Said) (Inside → Said) (part_level (judged text) text file before result) (stmt_level (judged text) text file before result) (levels.Return w e)

  pub at_break : (s : source.Stmt) (w : ℕ) → s ≡ stmt.Break w → of_stmt s ≡ at_level (levels.Break w)
  at_break s w h = ap of_stmt (h ∙ sym (stmt.rolls-Break w)) ∙ fold-roll-Stmt (Inside → Said) (Inside → Said) (part_level (judged text) text file before result) (stmt_level (judged text) text file before result) (levels.Break w)

  pub at_continue : (s : source.Stmt) (w : ℕ) → s ≡ stmt.Continue w → of_stmt s ≡ at_level (levels.Continue w)
  at_continue s w h = ap of_stmt (h ∙ sym (stmt.rolls-Continue w)) ∙ fold-roll-Stmt (Inside → Said) (Inside → Said) (part_level (judged text) text file before result) (stmt_level (judged text) text file before result) (levels.Continue w)

  pub at_simple : (s : source.Stmt) (x : Simple) → s ≡ stmt.Simple x → of_stmt s ≡ at_level (levels.Simple x)
  at_simple s x h = ap of_stmt (h ∙ sym (stmt.rolls-Simple x)) ∙ fold-roll-Stmt (Inside → Said) (Inside → Said) (part_level (judged text) text file before result) (stmt_level (judged text) text file before result) (levels.Simple x)

  pub at_decl : (p : Part) (d : Decl) (l : List Declared) → p ≡ part.Decl d → l ≡ d.parts → of_part p ≡ declareds_of (judged text) text file before result d.base l
  at_decl p d l e g = ap of_part (e ∙ sym (part.rolls-Decl d)) ∙ fold-roll-Part (Inside → Said) (Inside → Said) (part_level (judged text) text file before result) (stmt_level (judged text) text file before result) (levels.Decl d)
      ∙ ap (declareds_of (judged text) text file before result d.base) (sym g)

  pub at_stmt : (p : Part) (s : source.Stmt) → p ≡ part.Stmt s → of_part p ≡ of_stmt s
  at_stmt p s e = ap of_part (e ∙ sym (part.rolls-Stmt s)) ∙ fold-roll-Part (Inside → Said) (Inside → Said) (part_level (judged text) text file before result) (stmt_level (judged text) text file before result) (levels.Stmt s)

  pub at_head_decl : (h : Head) (d : Decl) (l : List Declared) → h ≡ head.Decl d → l ≡ d.parts → head_of (judged text) text file before result h ≡ declareds_of (judged text) text file before result d.base l
  at_head_decl h d l e g = ap (head_of (judged text) text file before result) e ∙ ap (declareds_of (judged text) text file before result d.base) (sym g)

  -- ---- what asks for the scopes of a place alone

  pub returned_here : (w : ℕ) (e : Option Expr) (i : Inside) → return_notes (judged text) text file before result w e (here i.scopes) ≡ return_notes (judged text) text file before result w e i
  returned_here w None i = refl
  returned_here w (Some e) i = refl

  pub started_here : (s : Option Initializer) (type : Option CType) (i : Inside) → start_notes (judged text) text file before None s type (here i.scopes) ≡ start_notes (judged text) text file before result s type i
  started_here None type i = refl
  started_here (Some s) type i = refl

  -- ---- by what the parts lead to

  pub block_leads : (parts : List Part) (i o q z : Inside) (n m : List Note) → o ≡ opened i → first_say n (body_of of_part parts o) ≡ said q m → z ≡ outside q → first_say n (at_level (levels.Block (map of_part parts)) i) ≡ said z m
  block_leads parts i o q z n m e h g =
      ap (λ x. first_say n (closed i x)) (through_is of_part parts (opened i))
      ∙ block_done (body_of of_part parts) i q n m (keeps_body text file before result parts (opened i)) (ap (λ y. first_say n (body_of of_part parts y)) (sym e) ∙ h)
      ∙ ap (λ y. said y m) (sym g)

  pub turn_leads : (s : source.Stmt) (i q : Inside) (n m : List Note) → first_say n (of_stmt s (looping i)) ≡ said q m → first_say n (turn (of_stmt s) i) ≡ said (record { scopes = q.scopes; next = q.next; in_loop = i.in_loop }) m
  turn_leads s i q n m h = turned n m (of_stmt s (looping i)) i q h (restores text file before result s (looping i)).scopes

  pub for_leads : (w : ℕ) (h : Head) (c : Option Expr) (next : Option Simple) (s : source.Stmt) (i o p q z : Inside) (n m m2 m3 m4 : List Note) → o ≡ opened i → first_say n (head_of (judged text) text file before result h o) ≡ said p m
      → m2 ≡ m ++ tested_if (judged text) text file before result w c p → m3 ≡ m2 ++ simple_notes_if (judged text) text file before result next p → first_say m3 (turn (of_stmt s) p) ≡ said q m4 → z ≡ outside q
      → first_say n (at_level (levels.For w h c next (of_stmt s)) i) ≡ said z m4
  for_leads w h c next s i o p q z n m m2 m3 m4 e a b d g k =
      for_done (head_of (judged text) text file before result h) (tested_if (judged text) text file before result w c) (simple_notes_if (judged text) text file before result next) (of_stmt s) i p q n m m2 m3 m4
      (keeps_head (judged text) text file before result h (opened i)) (ap (λ y. first_say n (head_of (judged text) text file before result h y)) (sym e) ∙ a) b d g
      ∙ ap (λ y. said y m4) (sym k)
