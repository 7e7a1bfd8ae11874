-- What the tokens of a checked program's bodies owe to its tables: each has the entry by which its node is resolved.
-- All of it is this project's own.
use Rattle.std.specs.Prelude.{ℕ, ◌≡◌, ◌<◌, List, [], ◌∷◌, ◌++◌, map, flat_map, length, slice_get, Option, Some}
use Rattle.cc_model.specs.declared.checked.Ty.{Ty}
use Rattle.cc_model.specs.declared.checked.Ty.TheVariants as ty
use Rattle.cc_model.specs.declared.checked.Sig.{Sig}
use Rattle.cc_model.specs.declared.checked.Target.{Target}
use Rattle.cc_model.specs.declared.checked.Target.TheVariants as target
use Rattle.cc_model.specs.declared.checked.Checked.{Checked}
use Rattle.cc_model.specs.declared.trees.Expr.{Expr}
use Rattle.cc_model.specs.declared.trees.Expr.TheOpen as expr
use Rattle.cc_model.specs.declared.trees.Expr.TheOpen.{Expr-F}
use Rattle.cc_model.specs.declared.trees.Expr.TheFolds.{fold-Expr}
use Rattle.cc_model.specs.declared.trees.Head.{Head}
use Rattle.cc_model.specs.declared.trees.Head.TheVariants as head
use Rattle.cc_model.specs.declared.trees.Declared.{Declared}
use Rattle.cc_model.specs.declared.trees.Part.{Part}
use Rattle.cc_model.specs.declared.trees.Part.TheOpen as stmt
use Rattle.cc_model.specs.declared.trees.Part.TheOpen.{Part-F, Stmt-F}
use Rattle.cc_model.specs.declared.trees.Part.TheFolds.{fold-Part}
use Rattle.cc_model.specs.declared.trees.Func.{Func}
use Rattle.cc_model.specs.CheckedProgram.{expression_if, simple_expressions, simple_expressions_if, start_expression, expression_tokens, expression_type, name_at, body_in}

-- the token of a `malloc`, of an index, or of a declared variable's or parameter's name
pub data Due : Type 0 where
  makes : (t : ℕ) → Due
  indexes : (t : ℕ) → Due
  declares : (t : ℕ) → Due

-- ---- the tokens of a body

abbrev pub due_level : Expr-F (List Due) → List Due
due_level (expr.Or f t a b) = a ++ b
due_level (expr.And f t a b) = a ++ b
due_level (expr.Equal f t a b) = a ++ b
due_level (expr.Unequal f t a b) = a ++ b
due_level (expr.Less f t a b) = a ++ b
due_level (expr.Greater f t a b) = a ++ b
due_level (expr.AtMost f t a b) = a ++ b
due_level (expr.AtLeast f t a b) = a ++ b
due_level (expr.Sum f t a b) = a ++ b
due_level (expr.Difference f t a b) = a ++ b
due_level (expr.Product f t a b) = a ++ b
due_level (expr.Quotient f t a b) = a ++ b
due_level (expr.Remainder f t a b) = a ++ b
due_level (expr.Minus f t a) = a
due_level (expr.Not f t a) = a
due_level (expr.Deref f t a) = a
due_level (expr.Address f t a) = a
due_level (expr.Dot f t a name) = a
due_level (expr.Arrow f t a name) = a
due_level (expr.Index f t a i) = indexes t ∷ (a ++ i)
due_level (expr.Name f t) = []
due_level (expr.Number f t z) = []
due_level (expr.Null f t) = []
due_level (expr.Call f t args) = flat_map (λ l. l) args
due_level (expr.Malloc f t cast m) = makes t ∷ []

abbrev pub dues_in : Expr → List Due
dues_in e = fold-Expr (List Due) due_level e

abbrev pub dues_of : List Expr → List Due
dues_of l = flat_map dues_in l

abbrev pub declared_dues : Declared → List Due
declared_dues d = declares (d.declarator).name ∷ dues_of (start_expression d.initializer)

abbrev pub head_dues : Head → List Due
head_dues (head.Decl d) = flat_map declared_dues d.parts
head_dues (head.Simple s) = dues_of (simple_expressions_if s)

abbrev pub part_dues : Part-F (List Due) (List Due) → List Due
part_dues (stmt.Decl d) = flat_map declared_dues d.parts
part_dues (stmt.Stmt s) = s

abbrev pub stmt_dues : Stmt-F (List Due) (List Due) → List Due
stmt_dues stmt.Empty = []
stmt_dues (stmt.Block parts) = flat_map (λ l. l) parts
stmt_dues (stmt.If w c a) = dues_in c ++ a
stmt_dues (stmt.IfElse w c a b) = dues_in c ++ (a ++ b)
stmt_dues (stmt.While w c body) = dues_in c ++ body
stmt_dues (stmt.Do w body c) = body ++ dues_in c
stmt_dues (stmt.For w h c next body) = head_dues h ++ (dues_of (expression_if c) ++ (dues_of (simple_expressions_if next) ++ body))
stmt_dues (stmt.Return w e) = dues_of (expression_if e)
stmt_dues (stmt.Break w) = []
stmt_dues (stmt.Continue w) = []
stmt_dues (stmt.Simple s) = dues_of (simple_expressions s)

abbrev pub dues_of_part : Part → List Due
dues_of_part p = fold-Part (List Due) (List Due) part_dues stmt_dues p

abbrev pub func_dues : Func → List Due
func_dues f = map (λ p. declares p.name) f.params ++ flat_map dues_of_part f.body

-- ---- what is due

abbrev pub IsPointer : Option Ty → Type 0
IsPointer (Some (ty.Ptr m)) = Unit {0}
IsPointer _ = ⊥

abbrev pub IsArray : Option Ty → Type 0
IsArray (Some (ty.Array m n)) = Unit {0}
IsArray _ = ⊥

-- the name means a local of the function
abbrev pub HasSlot : Option Sig → Option Target → Type 0
HasSlot (Some s) (Some (target.Local n)) = n < length s.slots
HasSlot _ _ = ⊥

module _ (c : Checked) where
  -- a `malloc` gives a pointer, an index goes into an array, and a declared name of function k is that of one of its
  -- locals
  abbrev pub IsPaid : ℕ → Due → Type 0
  IsPaid k (makes t) = IsPointer (expression_type c (expression_tokens (c.program).items) t 0)
  IsPaid k (indexes t) = IsArray (expression_type c (expression_tokens (c.program).items) t 1)
  IsPaid k (declares t) = HasSlot (slice_get c.funcs k) (name_at c t)

  abbrev pub ArePaid : ℕ → List Due → Type 0
  ArePaid k [] = Unit {0}
  ArePaid k (d ∷ l) = IsPaid k d × ArePaid k l

  -- so it is throughout the bodies
  abbrev pub IsSettled : Type 0
  IsSettled = (k : ℕ) (f : Func) → body_in c k (c.program).items ≡ Some f → ArePaid k (func_dues f)
