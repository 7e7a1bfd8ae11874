-- How an expression is judged: what it is, and the notes so far with its own behind them.
use Rattle.std.specs.Prelude.{ℕ, Bool, ◌&&◌, List, [], ◌∷◌, ◌++◌, Option, Some, None}
use Rattle.cc_model.specs.declared.checked.Target.{Target}
use Rattle.cc_model.specs.declared.typing.Shape.{Shape}
use Rattle.cc_model.specs.declared.typing.Shape.TheVariants.{Unclear, Null, Value, Place}
use Rattle.cc_model.specs.declared.typing.Note.{Note}
use Rattle.cc_model.specs.declared.typing.Note.TheVariants.{Fault, Means, Typed}
use Rattle.cc_model.specs.declared.typing.Wrong.TheVariants.{Unknown}
use Rattle.cc_model.specs.declared.typing.CType.{CType}
use Rattle.cc_model.specs.declared.typing.Operand.{Operand}
use Rattle.cc_model.specs.declared.typing.Variable.{Variable}
use Rattle.cc_model.specs.declared.trees.TypeName.{TypeName}
use Rattle.cc_model.specs.declared.trees.Expr.{Expr}
use Rattle.cc_model.specs.declared.trees.Expr.TheOpen as expr
use Rattle.cc_model.specs.declared.trees.Expr.TheOpen.{Expr-F}
use Rattle.cc_model.specs.declared.trees.Expr.TheFolds.{fold-Expr}
use Rattle.cc_model.specs.Types.{int_type, target_of, pointer_to, element_of, is_array, no_array, struct_behind}
use Rattle.cc_model.specs.Scopes.{Text, View, variable_named, object_type}
use Rattle.cc_model.specs.Typing.{Judged, judge, is_well, type_of, is_int_shape, is_pointer_shape, has_truth, is_place, can_equal, null_beside, number_shape, struct_place, member, callee, call_value, made, cast_notes, unknown_if_none}

pub record Answer : Type 0 where
  pub shape : Shape
  pub notes : List Note

abbrev pub answer : Shape → List Note → Answer
answer s n = record { shape = s; notes = n }

abbrev pub told : Judged → Answer
told j = answer j.shape j.notes

-- what is judged, with its notes behind earlier ones
abbrev pub behind : List Note → Judged → Answer
behind n j = answer j.shape (n ++ j.notes)

-- the rule of an expression, behind the notes of its parts
abbrev pub ending : ℕ → (well holds : Bool) → Shape → List Note → Answer
ending t well holds s n = told (judge 0 t well holds s n)

abbrev pub ints : ℕ → Shape → Shape → List Note → Answer
ints t a b n = ending t (is_well a && is_well b) (is_int_shape a && is_int_shape b) (Value int_type) n

abbrev pub truths : ℕ → Shape → Shape → List Note → Answer
truths t a b n = ending t (is_well a && is_well b) (has_truth a && has_truth b) (Value int_type) n

abbrev pub equals : ℕ → Shape → Shape → List Note → Answer
equals t a b n = ending t (is_well a && is_well b) (can_equal a b) (Value int_type)
    (n ++ (null_beside (is_pointer_shape a) b ++ null_beside (is_pointer_shape b) a))

abbrev pub minus : ℕ → Shape → List Note → Answer
minus t a n = ending t (is_well a) (is_int_shape a) (Value int_type) n

abbrev pub negation : ℕ → Shape → List Note → Answer
negation t a n = ending t (is_well a) (has_truth a) (Value int_type) n

abbrev pub deref : ℕ → Shape → List Note → Answer
deref t a n = ending t (is_well a) (is_pointer_shape a) (Place (target_of (type_of a))) n

abbrev pub address : ℕ → Shape → List Note → Answer
address t a n = ending t (is_well a) (is_place a && no_array (type_of a)) (Value (pointer_to (type_of a))) n

abbrev pub index : ℕ → Shape → Shape → List Note → Answer
index t a i n = ending t (is_well a && is_well i) ((is_place a && is_array (type_of a)) && is_int_shape i) (Place (element_of (type_of a))) n

-- an expression that is well typed by itself
abbrev pub alone : ℕ → Shape → List Note → Answer
alone t s n = answer s (n ++ Typed t (type_of s) ∷ [])

-- a variable of a known type
abbrev pub variable : ℕ → Target → Option CType → List Note → Answer
variable t what None n = answer Unclear (n ++ Means t what ∷ [])
variable t what (Some type) n = answer (Place type) ((n ++ Means t what ∷ []) ++ Typed t type ∷ [])

-- a name that means a variable or nothing
abbrev pub named : ℕ → Option Variable → List Note → Answer
named t None n = answer Unclear (n ++ Fault Unknown t ∷ [])
named t (Some v) n = variable t v.target v.ty n

-- ---- an expression: its first token, and its answer to the notes so far
pub record Teller : Type 0 where
  pub first : ℕ
  pub tell : List Note → Answer

abbrev pub teller : ℕ → (List Note → Answer) → Teller
teller f tell = record { first = f; tell = tell }

-- by an operand, and by a left one and then a right one
abbrev pub one : (Shape → List Note → Answer) → Teller → List Note → Answer
one rule a n = rule (a.tell n).shape (a.tell n).notes

abbrev pub two : (Shape → Shape → List Note → Answer) → Teller → Teller → List Note → Answer
two rule a b n = rule (a.tell n).shape (b.tell (a.tell n).notes).shape (b.tell (a.tell n).notes).notes

-- the arguments so far, and the notes
pub record Args : Type 0 where
  pub args : List Operand
  pub notes : List Note

abbrev pub args_told : List Operand → List Note → Args
args_told l n = record { args = l; notes = n }

abbrev pub told_args : List Teller → Args → Args
told_args [] a = a
told_args (e ∷ l) a = told_args l (record { args = a.args ++ record { first = e.first; shape = (e.tell a.notes).shape } ∷ []; notes = (e.tell a.notes).notes })

abbrev pub no_args : List Note → Args
no_args n = record { args = []; notes = n }

module _ (text : ℕ → Text) (view : View) where
  abbrev pub called_with : ℕ → Args → Answer
  called_with t a = told (call_value text view 0 t a.args (callee text view t) a.notes)

  abbrev pub malloc_told : ℕ → Option TypeName → TypeName → List Note → Answer
  malloc_told t cast m n = told (made text view 0 t cast (object_type text view.file.tags view.before m.base m.stars [])
      ((n ++ cast_notes text view cast) ++ unknown_if_none (object_type text view.file.tags view.before m.base m.stars []) m.base))

  abbrev pub telling_level : Expr-F Teller → Teller
  telling_level (expr.Or f t a b) = teller f (two (truths t) a b)
  telling_level (expr.And f t a b) = teller f (two (truths t) a b)
  telling_level (expr.Equal f t a b) = teller f (two (equals t) a b)
  telling_level (expr.Unequal f t a b) = teller f (two (equals t) a b)
  telling_level (expr.Less f t a b) = teller f (two (ints t) a b)
  telling_level (expr.Greater f t a b) = teller f (two (ints t) a b)
  telling_level (expr.AtMost f t a b) = teller f (two (ints t) a b)
  telling_level (expr.AtLeast f t a b) = teller f (two (ints t) a b)
  telling_level (expr.Sum f t a b) = teller f (two (ints t) a b)
  telling_level (expr.Difference f t a b) = teller f (two (ints t) a b)
  telling_level (expr.Product f t a b) = teller f (two (ints t) a b)
  telling_level (expr.Quotient f t a b) = teller f (two (ints t) a b)
  telling_level (expr.Remainder f t a b) = teller f (two (ints t) a b)
  telling_level (expr.Minus f t a) = teller f (one (minus t) a)
  telling_level (expr.Not f t a) = teller f (one (negation t) a)
  telling_level (expr.Deref f t a) = teller f (one (deref t) a)
  telling_level (expr.Address f t a) = teller f (one (address t) a)
  telling_level (expr.Dot f t a name) = teller f (one (λ s n. told (member text view 0 t name (is_well s) (struct_place s) n)) a)
  telling_level (expr.Arrow f t a name) = teller f (one (λ s n. told (member text view 0 t name (is_well s) (struct_behind (type_of s)) n)) a)
  telling_level (expr.Index f t a i) = teller f (two (index t) a i)
  telling_level (expr.Name f t) = teller f (named t (variable_named view (text t)))
  telling_level (expr.Number f t z) = teller f (alone t (number_shape t z))
  telling_level (expr.Null f t) = teller f (alone t Null)
  telling_level (expr.Call f t args) = teller f (λ n. called_with t (told_args args (no_args n)))
  telling_level (expr.Malloc f t cast m) = teller f (malloc_told t cast m)

  abbrev pub telling : Expr → Teller
  telling e = fold-Expr Teller telling_level e

  abbrev pub tell : Expr → List Note → Answer
  tell e n = (telling e).tell n
