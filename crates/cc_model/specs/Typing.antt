-- The type of each expression, and what is wrong in it (C11 6.5): each form, over what its parts are. A rule is judged only where the parts
-- are well typed, so a fault in a part silences the rules around it. What a type takes from NULL and from the number 0 is this project's own.
use Rattle.std.specs.Prelude.{ℕ, zero, Bool, true, false, ◌&&◌, ◌||◌, ℤ, pos, nat_lt, List, [], ◌∷◌, ◌++◌, map, flat_map, take, slice_get, Option, Some, None, unwrap_or, if◌then◌else◌}
use Rattle.cc_model.specs.declared.checked.Target.{Target}
use Rattle.cc_model.specs.declared.checked.Target.TheVariants as target
use Rattle.cc_model.specs.declared.trees.Base.{Base}
use Rattle.cc_model.specs.declared.trees.Base.TheVariants as base
use Rattle.cc_model.specs.declared.trees.TypeName.{TypeName}
use Rattle.cc_model.specs.declared.trees.Expr.{Expr}
use Rattle.cc_model.specs.declared.trees.Expr.TheOpen as expr
use Rattle.cc_model.specs.declared.trees.Expr.TheOpen.{Expr-F}
use Rattle.cc_model.specs.declared.trees.Expr.TheFolds.{fold-Expr}
use Rattle.cc_model.specs.Types.{CType, int_type, void_type, pointer_to, target_of, element_of, is_array, no_array, is_int, is_void, is_pointer, struct_in, struct_behind, same_type, size_of}
use Rattle.cc_model.specs.Scopes.{Text, Variable, Member, Function, View, field_in, has_name, variable_named, function_named, object_type, type_named, fields_size}
pub use Rattle.cc_model.specs.declared.typing.Wrong.{Wrong}
pub use Rattle.cc_model.specs.declared.typing.Wrong.TheVariants.{Unknown as unknown, Twice as twice, Mismatch as mismatch, TooLarge as too_large}
pub use Rattle.cc_model.specs.declared.typing.Note.{Note}
pub use Rattle.cc_model.specs.declared.typing.Note.TheVariants.{Fault as fault, Means as means, Typed as typed, Null as null, Declares as declares}
pub use Rattle.cc_model.specs.declared.typing.Operand.{Operand}
pub use Rattle.cc_model.specs.declared.typing.Shape.{Shape}
pub use Rattle.cc_model.specs.declared.typing.Shape.TheVariants.{Unclear as unclear, Null as null_itself, Zero as zero_at, Value as value, Place as place}

-- ---- what an expression is

abbrev pub is_well : Shape → Bool
is_well unclear = false
is_well _ = true

abbrev pub type_of : Shape → CType
type_of unclear = void_type
type_of null_itself = void_type
type_of (zero_at t) = int_type
type_of (value t) = t
type_of (place t) = t

abbrev pub is_int_shape : Shape → Bool
is_int_shape s = is_int (type_of s)

abbrev pub is_pointer_shape : Shape → Bool
is_pointer_shape s = is_pointer (type_of s)

-- NULL or the number 0
abbrev pub is_nil : Shape → Bool
is_nil null_itself = true
is_nil (zero_at t) = true
is_nil _ = false

-- an int or a pointer, and not NULL itself
abbrev pub has_truth : Shape → Bool
has_truth s = is_int_shape s || is_pointer_shape s

abbrev pub is_place : Shape → Bool
is_place (place t) = true
is_place _ = false

abbrev pub is_int_place : Shape → Bool
is_int_place s = is_place s && is_int_shape s

-- two pointers of one type
abbrev pub points_alike : CType → Shape → Bool
points_alike s (value t) = is_pointer s && same_type s t
points_alike s (place t) = is_pointer s && same_type s t
points_alike s _ = false

abbrev pub same_pointers : Shape → Shape → Bool
same_pointers (value s) b = points_alike s b
same_pointers (place s) b = points_alike s b
same_pointers _ b = false

-- two ints, two pointers of one type, or a pointer and NULL or the number 0 (6.5.9)
abbrev pub can_equal : Shape → Shape → Bool
can_equal a b = (is_int_shape a && is_int_shape b) || (same_pointers a b || ((is_pointer_shape a && is_nil b) || (is_nil a && is_pointer_shape b)))

-- the values that go into an object of the type: those of the type, and NULL and the number 0 for a pointer (6.5.16.1)
abbrev pub takes : CType → Shape → Bool
takes t unclear = false
takes t null_itself = is_pointer t
takes t (zero_at k) = is_int t || is_pointer t
takes t (value u) = same_type t u
takes t (place u) = same_type t u

-- the number 0 stands for NULL beside a pointer, and where a pointer is due
abbrev pub null_beside : Bool → Shape → List Note
null_beside true (zero_at k) = null k ∷ []
null_beside _ _ = []

-- ---- a rule

-- where the parts are well typed, the rule at the token has to hold
abbrev pub rule : ℕ → (well holds : Bool) → List Note
rule t false holds = []
rule t true false = fault mismatch t ∷ []
rule t true true = []

-- an expression: its first token, what it is, and what is said of its tokens, parts first
pub record Judged : Type 0 where
  pub first : ℕ
  pub shape : Shape
  pub notes : List Note

-- an expression whose rule holds
abbrev pub right : ℕ → ℕ → Shape → List Note → Judged
right f t s notes = record { first = f; shape = s; notes = notes ++ typed t (type_of s) ∷ [] }

-- an expression of which nothing is known
abbrev pub silent : ℕ → List Note → Judged
silent f notes = record { first = f; shape = unclear; notes = notes }

-- an expression by its rule: what it is where the rule holds, else the fault at its token
abbrev pub judge : ℕ → ℕ → (well holds : Bool) → Shape → List Note → Judged
judge f t false holds s notes = silent f notes
judge f t true false s notes = silent f (notes ++ fault mismatch t ∷ [])
judge f t true true s notes = right f t s notes

abbrev pub both_well : Judged → Judged → Bool
both_well a b = is_well a.shape && is_well b.shape

abbrev pub number_shape : ℕ → ℤ → Shape
number_shape t (pos zero) = zero_at t
number_shape t _ = value int_type

-- ---- types as they are written

abbrev pub unknown_base : Base → List Note
unknown_base base.Int = []
unknown_base (base.Struct tag) = fault unknown tag ∷ []
unknown_base (base.Alias name) = fault unknown name ∷ []

-- a type's name that names no type is unknown
abbrev pub unknown_if_none : Option CType → Base → List Note
unknown_if_none None b = unknown_base b
unknown_if_none (Some t) b = []

-- a type has at most 256 cells
abbrev pub size_notes : List ℕ → ℕ → CType → List Note
size_notes sizes t type = if nat_lt 256 (size_of sizes type) then fault too_large t ∷ [] else []

-- ---- calls (6.5.2.2)

abbrev pub operand_of : Judged → Operand
operand_of a = record { first = a.first; shape = a.shape }

abbrev pub notes_of : List Judged → List Note
notes_of args = flat_map (λ a. a.notes) args

abbrev pub all_well : List Operand → Bool
all_well [] = true
all_well (a ∷ l) = is_well a.shape && all_well l

abbrev pub same_count : List (Option CType) → List Operand → Bool
same_count [] [] = true
same_count (p ∷ ps) (a ∷ l) = same_count ps l
same_count _ _ = false

-- a parameter takes an argument; one whose type isn't known takes any
abbrev pub param_takes : Option CType → Operand → Bool
param_takes None a = true
param_takes (Some t) a = takes t a.shape

abbrev pub null_due : Option CType → Operand → List Note
null_due None a = []
null_due (Some t) a = null_beside (is_pointer t) a.shape

abbrev pub all_taken : List (Option CType) → List Operand → Bool
all_taken (p ∷ ps) (a ∷ l) = param_takes p a && all_taken ps l
all_taken _ _ = true

-- each argument is of its parameter's type, at its first token
abbrev pub arg_notes : List (Option CType) → List Operand → List Note
arg_notes (p ∷ ps) (a ∷ l) = (rule a.first true (param_takes p a) ++ null_due p a) ++ arg_notes ps l
arg_notes _ _ = []

-- as many arguments as parameters, at the function's name
abbrev pub count_notes : ℕ → List (Option CType) → List Operand → List Note
count_notes t params args = if same_count params args then arg_notes params args else rule t true false

-- the rule of a call, which is judged where all arguments are well typed
abbrev pub call_notes : ℕ → List (Option CType) → List Operand → List Note
call_notes t params args = if all_well args then count_notes t params args else []

abbrev pub call_holds : List (Option CType) → List Operand → Bool
call_holds params args = all_well args && (same_count params args && all_taken params args)

-- a call's value: that of a `void` function is none, at its name
abbrev pub called : ℕ → ℕ → Option CType → (well holds : Bool) → List Note → Judged
called f t None well holds notes = silent f notes
called f t (Some r) well holds notes = if is_void r then judge f t well false unclear notes else (if holds then right f t (value r) notes else silent f notes)

-- a field of a known type, at its offset in cells
abbrev pub member_typed : ℕ → ℕ → ℕ → ℕ → Option CType → List Note → Judged
member_typed f t name offset None notes = silent f (notes ++ means name (target.Field offset) ∷ [])
member_typed f t name offset (Some type) notes = right f t (place type) (notes ++ means name (target.Field offset) ∷ [])

abbrev pub field_type : Option Member → Option CType
field_type None = None
field_type (Some f) = f.ty

abbrev pub struct_place : Shape → Option ℕ
struct_place (place t) = struct_in t
struct_place _ = None

module _ (text : ℕ → Text) (view : View) where
  -- the function with a body that a name means
  abbrev pub callee : ℕ → Option ℕ
  callee t = if has_name (text t) view.file.bodies then function_named view (text t) else None

  -- what is said of a call behind its arguments
  abbrev pub called_notes : ℕ → List Operand → ℕ → Function → List Note → List Note
  called_notes t args n g notes = (notes ++ means t (target.Func n) ∷ []) ++ call_notes t g.params args

  abbrev pub call_of : ℕ → ℕ → List Operand → ℕ → Option Function → List Note → Judged
  call_of f t args n None notes = silent f notes
  call_of f t args n (Some g) notes = called f t g.result (all_well args) (call_holds g.params args) (called_notes t args n g notes)

  abbrev pub call_value : ℕ → ℕ → List Operand → Option ℕ → List Note → Judged
  call_value f t args None notes = silent f (notes ++ fault unknown t ∷ [])
  call_value f t args (Some n) notes = call_of f t args n (slice_get view.file.functions n) notes

  -- a call as a statement, whose value nobody wants
  abbrev pub call_done_of : ℕ → List Operand → ℕ → Option Function → List Note → List Note
  call_done_of t args n None notes = notes
  call_done_of t args n (Some g) notes = called_notes t args n g notes

  abbrev pub call_done : ℕ → List Operand → Option ℕ → List Note → List Note
  call_done t args None notes = notes ++ fault unknown t ∷ []
  call_done t args (Some n) notes = call_done_of t args n (slice_get view.file.functions n) notes

  -- ---- members (6.5.2.3)

  abbrev pub member_at : ℕ → ℕ → ℕ → List Member → Option ℕ → List Note → Judged
  member_at f t name fields None notes = silent f (notes ++ fault unknown name ∷ [])
  member_at f t name fields (Some k) notes = member_typed f t name (fields_size view.file.sizes (take k fields)) (field_type (slice_get fields k)) notes

  -- the field of that name of a struct; where there is no struct, the rule of the operator fails
  abbrev pub member : ℕ → ℕ → ℕ → Bool → Option ℕ → List Note → Judged
  member f t name well None notes = judge f t well false unclear notes
  member f t name well (Some n) notes =
      member_at f t name (unwrap_or (slice_get view.file.structs n) []) (field_in (text name) (unwrap_or (slice_get view.file.structs n) [])) notes

  -- ---- names, and what `malloc` makes

  -- a variable of a known type
  abbrev pub variable : ℕ → ℕ → Target → Option CType → Judged
  variable f t what None = silent f (means t what ∷ [])
  variable f t what (Some type) = right f t (place type) (means t what ∷ [])

  abbrev pub named : ℕ → ℕ → Option Variable → Judged
  named f t None = silent f (fault unknown t ∷ [])
  named f t (Some v) = variable f t v.target v.ty

  abbrev pub cast_type : Option TypeName → Option CType
  cast_type None = None
  cast_type (Some c) = type_named text view.file.tags view.before c

  abbrev pub cast_notes : Option TypeName → List Note
  cast_notes None = []
  cast_notes (Some c) = unknown_if_none (type_named text view.file.tags view.before c) c.base

  -- the type in front is a pointer to the type in `sizeof`
  abbrev pub cast_judged : ℕ → ℕ → Option TypeName → Option CType → CType → List Note → Judged
  cast_judged f t None c type notes = right f t (value (pointer_to type)) notes
  cast_judged f t (Some n) None type notes = silent f notes
  cast_judged f t (Some n) (Some c) type notes = judge f t true (same_type c (pointer_to type)) (value c) notes

  abbrev pub made : ℕ → ℕ → Option TypeName → Option CType → List Note → Judged
  made f t cast None notes = silent f notes
  made f t cast (Some type) notes = cast_judged f t cast (cast_type cast) type (notes ++ size_notes view.file.sizes t type)

  abbrev pub malloc : ℕ → ℕ → Option TypeName → TypeName → Judged
  malloc f t cast m = made f t cast (object_type text view.file.tags view.before m.base m.stars [])
      (cast_notes cast ++ unknown_if_none (object_type text view.file.tags view.before m.base m.stars []) m.base)

  -- ---- each form; `f` is the first token, `t` the operator's, name's or word's

  abbrev pub of_ints : ℕ → ℕ → Judged → Judged → Judged
  of_ints f t a b = judge f t (both_well a b) (is_int_shape a.shape && is_int_shape b.shape) (value int_type) (a.notes ++ b.notes)

  abbrev pub of_truths : ℕ → ℕ → Judged → Judged → Judged
  of_truths f t a b = judge f t (both_well a b) (has_truth a.shape && has_truth b.shape) (value int_type) (a.notes ++ b.notes)

  abbrev pub of_equals : ℕ → ℕ → Judged → Judged → Judged
  of_equals f t a b = judge f t (both_well a b) (can_equal a.shape b.shape) (value int_type)
      (a.notes ++ (b.notes ++ (null_beside (is_pointer_shape a.shape) b.shape ++ null_beside (is_pointer_shape b.shape) a.shape)))

  abbrev pub typing_level : Expr-F Judged → Judged
  typing_level (expr.Or f t a b) = of_truths f t a b
  typing_level (expr.And f t a b) = of_truths f t a b
  typing_level (expr.Equal f t a b) = of_equals f t a b
  typing_level (expr.Unequal f t a b) = of_equals f t a b
  typing_level (expr.Less f t a b) = of_ints f t a b
  typing_level (expr.Greater f t a b) = of_ints f t a b
  typing_level (expr.AtMost f t a b) = of_ints f t a b
  typing_level (expr.AtLeast f t a b) = of_ints f t a b
  typing_level (expr.Sum f t a b) = of_ints f t a b
  typing_level (expr.Difference f t a b) = of_ints f t a b
  typing_level (expr.Product f t a b) = of_ints f t a b
  typing_level (expr.Quotient f t a b) = of_ints f t a b
  typing_level (expr.Remainder f t a b) = of_ints f t a b
  typing_level (expr.Minus f t a) = judge f t (is_well a.shape) (is_int_shape a.shape) (value int_type) a.notes
  typing_level (expr.Not f t a) = judge f t (is_well a.shape) (has_truth a.shape) (value int_type) a.notes
  typing_level (expr.Deref f t a) = judge f t (is_well a.shape) (is_pointer_shape a.shape) (place (target_of (type_of a.shape))) a.notes
  typing_level (expr.Address f t a) = judge f t (is_well a.shape) (is_place a.shape && no_array (type_of a.shape)) (value (pointer_to (type_of a.shape))) a.notes
  typing_level (expr.Dot f t a name) = member f t name (is_well a.shape) (struct_place a.shape) a.notes
  typing_level (expr.Arrow f t a name) = member f t name (is_well a.shape) (struct_behind (type_of a.shape)) a.notes
  typing_level (expr.Index f t a i) = judge f t (both_well a i) ((is_place a.shape && is_array (type_of a.shape)) && is_int_shape i.shape) (place (element_of (type_of a.shape))) (a.notes ++ i.notes)
  typing_level (expr.Name f t) = named f t (variable_named view (text t))
  typing_level (expr.Number f t z) = right f t (number_shape t z) []
  typing_level (expr.Null f t) = right f t null_itself []
  typing_level (expr.Call f t args) = call_value f t (map operand_of args) (callee t) (notes_of args)
  typing_level (expr.Malloc f t cast m) = malloc f t cast m

  -- what an expression is
  abbrev pub judged : Expr → Judged
  judged e = fold-Expr Judged typing_level e
