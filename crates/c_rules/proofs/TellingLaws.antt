-- What is told of an expression is what it is judged to be, with its notes behind the earlier ones.
use Rattle.std.proofs.Common.{◌≡◌, ◌∙◌, refl, sym, ap, ℕ, Bool, true, false, ◌&&◌, if◌then◌else◌, List, [], ◌∷◌, ◌++◌, map, slice_get, take, unwrap_or, Option, Some, None, append_assoc, append-nil, IfOk, Result, Ok, Err}
use Rattle.cc_model.specs.declared.checked.Target.TheVariants as target
use Rattle.cc_model.specs.declared.trees.Expr.{Expr}
use Rattle.cc_model.specs.declared.trees.TypeName.{TypeName}
use Rattle.cc_model.specs.declared.typing.CType.{CType}
use Rattle.cc_model.specs.declared.typing.Variable.{Variable}
use Rattle.cc_model.specs.declared.typing.Member.{Member}
use Rattle.cc_model.specs.declared.typing.Function.{Function}
use Rattle.cc_model.specs.declared.typing.Operand.{Operand}
use Rattle.cc_model.specs.declared.typing.Shape.{Shape}
use Rattle.cc_model.specs.declared.typing.Shape.TheVariants.{Unclear as unclear, Value as value, Place as place}
use Rattle.cc_model.specs.declared.typing.Note.{Note}
use Rattle.cc_model.specs.declared.typing.Note.TheVariants.{Fault as fault, Means as means, Typed as typed}
use Rattle.cc_model.specs.declared.typing.Wrong.TheVariants.{Unknown as unknown, Mismatch as mismatch}
use Rattle.cc_model.specs.Types.{int_type, pointer_to, target_of, element_of, is_array, no_array, is_void, struct_behind, same_type}
use Rattle.cc_model.specs.Scopes.{Text, View, variable_named, object_type, field_in, fields_size}
use Rattle.cc_model.specs.Typing.{is_well, type_of, is_int_shape, is_pointer_shape, has_truth, is_place, can_equal, null_beside, Judged, right, silent, judge, both_well, unknown_if_none, size_notes, operand_of, notes_of, all_well, call_notes, call_holds, called, member_typed, field_type, struct_place, callee, called_notes, call_of, call_value, member_at, member, variable, named, cast_type, cast_notes, cast_judged, made, malloc, typing_level, judged}
use Rattle.c_rules.specs.Telling as telling
use Rattle.c_rules.specs.Telling.{Answer, answer, told, behind, Teller, teller, one, two, Args, args_told, told_args, no_args, called_with, malloc_told, telling_level, tell}
use Rattle.cc_model.proofs.Related.{AllRelated, Levels, related}

-- ---- a rule behind earlier notes

right_behind : (f t : ℕ) (s : Shape) (k n m : List Note) → k ≡ n ++ m → told (right 0 t s k) ≡ behind n (right f t s m)
right_behind f t s k n m e = ap (λ x. answer s (x ++ typed t (type_of s) ∷ [])) e ∙ ap (answer s) (append_assoc n m (typed t (type_of s) ∷ []))

silent_behind : (f : ℕ) (x : Note) (k n m : List Note) → k ≡ n ++ m → told (silent 0 (k ++ x ∷ [])) ≡ behind n (silent f (m ++ x ∷ []))
silent_behind f x k n m e = ap (λ y. answer unclear (y ++ x ∷ [])) e ∙ ap (answer unclear) (append_assoc n m (x ∷ []))

judge_behind : (f t : ℕ) (well holds : Bool) (s : Shape) (k n m : List Note) → k ≡ n ++ m → told (judge 0 t well holds s k) ≡ behind n (judge f t well holds s m)
judge_behind f t false holds s k n m e = ap (answer unclear) e
judge_behind f t true false s k n m e = silent_behind f (fault mismatch t) k n m e
judge_behind f t true true s k n m e = right_behind f t s k n m e

judge_first : (f t : ℕ) (well holds : Bool) (s : Shape) (n : List Note) → f ≡ (judge f t well holds s n).first
judge_first f t false holds s n = refl
judge_first f t true false s n = refl
judge_first f t true true s n = refl

-- ---- operands

-- the same first token, and the same answer
abbrev pub Tells : Judged → Teller → Type 0
Tells j a = (a.first ≡ j.first) × ((n : List Note) → a.tell n ≡ behind n j)

one_told : (rule : Shape → List Note → Answer) (j : Judged) (a : Teller) (n : List Note) → a.tell n ≡ behind n j → one rule a n ≡ rule j.shape (n ++ j.notes)
one_told rule j a n h = ap (λ (x : Answer). rule x.shape x.notes) h

two_told : (rule : Shape → Shape → List Note → Answer) (i j : Judged) (a b : Teller) (n : List Note) → a.tell n ≡ behind n i → ((m : List Note) → b.tell m ≡ behind m j)
    → two rule a b n ≡ rule i.shape j.shape ((n ++ i.notes) ++ j.notes)
two_told rule i j a b n h g = ap (λ (x : Answer). rule x.shape (b.tell x.notes).shape (b.tell x.notes).notes) h ∙ ap (λ (y : Answer). rule i.shape y.shape y.notes) (g (n ++ i.notes))

-- ---- each kind of rule

ints_told : (f t : ℕ) (i j : Judged) (a b : Teller) → Tells i a → Tells j b
    → Tells (judge f t (both_well i j) (is_int_shape i.shape && is_int_shape j.shape) (value int_type) (i.notes ++ j.notes)) (teller f (two (telling.ints t) a b))
ints_told f t i j a b h g = (
  judge_first f t (both_well i j) (is_int_shape i.shape && is_int_shape j.shape) (value int_type) (i.notes ++ j.notes),
  λ n. two_told (telling.ints t) i j a b n (h.1 n) g.1
      ∙ judge_behind f t (both_well i j) (is_int_shape i.shape && is_int_shape j.shape) (value int_type) ((n ++ i.notes) ++ j.notes) n (i.notes ++ j.notes) (append_assoc n i.notes j.notes),
)

truths_told : (f t : ℕ) (i j : Judged) (a b : Teller) → Tells i a → Tells j b
    → Tells (judge f t (both_well i j) (has_truth i.shape && has_truth j.shape) (value int_type) (i.notes ++ j.notes)) (teller f (two (telling.truths t) a b))
truths_told f t i j a b h g = (
  judge_first f t (both_well i j) (has_truth i.shape && has_truth j.shape) (value int_type) (i.notes ++ j.notes),
  λ n. two_told (telling.truths t) i j a b n (h.1 n) g.1
      ∙ judge_behind f t (both_well i j) (has_truth i.shape && has_truth j.shape) (value int_type) ((n ++ i.notes) ++ j.notes) n (i.notes ++ j.notes) (append_assoc n i.notes j.notes),
)

equals_told : (f t : ℕ) (i j : Judged) (a b : Teller) → Tells i a → Tells j b
    → Tells (judge f t (both_well i j) (can_equal i.shape j.shape) (value int_type)
    (i.notes ++ (j.notes ++ (null_beside (is_pointer_shape i.shape) j.shape ++ null_beside (is_pointer_shape j.shape) i.shape)))) (teller f (two (telling.equals t) a b))
equals_told f t i j a b h g = (
  judge_first f t (both_well i j) (can_equal i.shape j.shape) (value int_type) (i.notes ++ (j.notes ++ nulls)),
  λ n. two_told (telling.equals t) i j a b n (h.1 n) g.1
      ∙ judge_behind f t (both_well i j) (can_equal i.shape j.shape) (value int_type) (((n ++ i.notes) ++ j.notes) ++ nulls) n (i.notes ++ (j.notes ++ nulls))
      (append_assoc (n ++ i.notes) j.notes nulls ∙ append_assoc n i.notes (j.notes ++ nulls)),
)
  where
    nulls : List Note
    nulls = null_beside (is_pointer_shape i.shape) j.shape ++ null_beside (is_pointer_shape j.shape) i.shape

index_told : (f t : ℕ) (i j : Judged) (a b : Teller) → Tells i a → Tells j b
    → Tells (judge f t (both_well i j) ((is_place i.shape && is_array (type_of i.shape)) && is_int_shape j.shape) (place (element_of (type_of i.shape))) (i.notes ++ j.notes)) (teller f (two (telling.index t) a b))
index_told f t i j a b h g = (
  judge_first f t (both_well i j) ((is_place i.shape && is_array (type_of i.shape)) && is_int_shape j.shape) (place (element_of (type_of i.shape))) (i.notes ++ j.notes),
  λ n. two_told (telling.index t) i j a b n (h.1 n) g.1
      ∙ judge_behind f t (both_well i j) ((is_place i.shape && is_array (type_of i.shape)) && is_int_shape j.shape) (place (element_of (type_of i.shape))) ((n ++ i.notes) ++ j.notes) n (i.notes ++ j.notes) (append_assoc n i.notes j.notes),
)

-- an operator in front, whose rule asks the operand for what holds, and gives a shape
front_told : (f t : ℕ) (holds : Shape → Bool) (shape : Shape → Shape) (i : Judged) (a : Teller) → Tells i a
    → Tells (judge f t (is_well i.shape) (holds i.shape) (shape i.shape) i.notes) (teller f (one (λ s n. telling.ending t (is_well s) (holds s) (shape s) n) a))
front_told f t holds shape i a h = (
  judge_first f t (is_well i.shape) (holds i.shape) (shape i.shape) i.notes,
  λ n. one_told (λ s n. telling.ending t (is_well s) (holds s) (shape s) n) i a n (h.1 n) ∙ judge_behind f t (is_well i.shape) (holds i.shape) (shape i.shape) (n ++ i.notes) n i.notes refl,
)

-- ---- members

typed_behind : (f t name offset : ℕ) (type : Option CType) (n m : List Note) → told (member_typed 0 t name offset type (n ++ m)) ≡ behind n (member_typed f t name offset type m)
typed_behind f t name offset None n m = silent_behind f (means name (target.Field offset)) (n ++ m) n m refl
typed_behind f t name offset (Some type) n m = right_behind f t (place type) ((n ++ m) ++ means name (target.Field offset) ∷ []) n (m ++ means name (target.Field offset) ∷ []) (append_assoc n m (means name (target.Field offset) ∷ []))

typed_first : (f t name offset : ℕ) (type : Option CType) (n : List Note) → f ≡ (member_typed f t name offset type n).first
typed_first f t name offset None n = refl
typed_first f t name offset (Some type) n = refl

member_at_behind : (text : ℕ → Text) (view : View) (f t name : ℕ) (fields : List Member) (k : Option ℕ) (n m : List Note) → told (member_at text view 0 t name fields k (n ++ m)) ≡ behind n (member_at text view f t name fields k m)
member_at_behind text view f t name fields None n m = silent_behind f (fault unknown name) (n ++ m) n m refl
member_at_behind text view f t name fields (Some k) n m = typed_behind f t name (fields_size view.file.sizes (take k fields)) (field_type (slice_get fields k)) n m

member_at_first : (text : ℕ → Text) (view : View) (f t name : ℕ) (fields : List Member) (k : Option ℕ) (n : List Note) → f ≡ (member_at text view f t name fields k n).first
member_at_first text view f t name fields None n = refl
member_at_first text view f t name fields (Some k) n = typed_first f t name (fields_size view.file.sizes (take k fields)) (field_type (slice_get fields k)) n

member_behind : (text : ℕ → Text) (view : View) (f t name : ℕ) (well : Bool) (k : Option ℕ) (n m : List Note) → told (member text view 0 t name well k (n ++ m)) ≡ behind n (member text view f t name well k m)
member_behind text view f t name well None n m = judge_behind f t well false unclear (n ++ m) n m refl
member_behind text view f t name well (Some k) n m = member_at_behind text view f t name (unwrap_or (slice_get view.file.structs k) []) (field_in (text name) (unwrap_or (slice_get view.file.structs k) [])) n m

member_first : (text : ℕ → Text) (view : View) (f t name : ℕ) (well : Bool) (k : Option ℕ) (n : List Note) → f ≡ (member text view f t name well k n).first
member_first text view f t name well None n = judge_first f t well false unclear n
member_first text view f t name well (Some k) n = member_at_first text view f t name (unwrap_or (slice_get view.file.structs k) []) (field_in (text name) (unwrap_or (slice_get view.file.structs k) [])) n

member_told : (text : ℕ → Text) (view : View) (f t name : ℕ) (number : Shape → Option ℕ) (i : Judged) (a : Teller) → Tells i a
    → Tells (member text view f t name (is_well i.shape) (number i.shape) i.notes) (teller f (one (λ s n. told (member text view 0 t name (is_well s) (number s) n)) a))
member_told text view f t name number i a h = (
  member_first text view f t name (is_well i.shape) (number i.shape) i.notes,
  λ n. one_told (λ s n. told (member text view 0 t name (is_well s) (number s) n)) i a n (h.1 n) ∙ member_behind text view f t name (is_well i.shape) (number i.shape) n i.notes,
)

-- ---- names

named_told : (f t : ℕ) (v : Option Variable) (text : ℕ → Text) (view : View) → Tells (named text view f t v) (teller f (telling.named t v))
named_told f t None text view = (refl, λ n. refl)
named_told f t (Some v) text view = of_type v.ty
  where
    of_type : (type : Option CType) → Tells (variable text view f t v.target type) (teller f (telling.variable t v.target type))
    of_type None = (refl, λ n. refl)
    of_type (Some type) = (refl, λ n. ap (answer (place type)) (append_assoc n (means t v.target ∷ []) (typed t type ∷ [])))

-- ---- calls

args_told_so : (js : List Judged) (bs : List Teller) (l : List Operand) (n : List Note) → AllRelated Tells js bs → told_args bs (args_told l n) ≡ args_told (l ++ map operand_of js) (n ++ notes_of js)
args_told_so [] [] l n h = λ i. args_told (sym (append-nil l) i) (sym (append-nil n) i)
args_told_so [] (a ∷ bs) l n h = elim h [ ]
args_told_so (j ∷ js) [] l n h = elim h [ ]
args_told_so (j ∷ js) (a ∷ bs) l n h =
    ap (told_args bs) (λ i. args_told (l ++ record { first = (h.0).0 i; shape = ((h.0).1 n i).shape } ∷ []) (((h.0).1 n i).notes))
    ∙ args_told_so js bs (l ++ operand_of j ∷ []) (n ++ j.notes) h.1
    ∙ (λ i. args_told (append_assoc l (operand_of j ∷ []) (map operand_of js) i) (append_assoc n j.notes (notes_of js) i))

notes_behind : (text : ℕ → Text) (view : View) (t : ℕ) (args : List Operand) (k : ℕ) (g : Function) (n m : List Note) → called_notes text view t args k g (n ++ m) ≡ n ++ called_notes text view t args k g m
notes_behind text view t args k g n m =
    ap (λ x. x ++ call_notes t g.params args) (append_assoc n m (means t (target.Func k) ∷ [])) ∙ append_assoc n (m ++ means t (target.Func k) ∷ []) (call_notes t g.params args)

held_behind : (f t : ℕ) (r : CType) (holds : Bool) (k n m : List Note) → k ≡ n ++ m → told (if holds then right 0 t (value r) k else silent 0 k) ≡ behind n (if holds then right f t (value r) m else silent f m)
held_behind f t r true k n m e = right_behind f t (value r) k n m e
held_behind f t r false k n m e = ap (answer unclear) e

given_behind : (f t : ℕ) (r : CType) (none well holds : Bool) (k n m : List Note) → k ≡ n ++ m
    → told (if none then judge 0 t well false unclear k else (if holds then right 0 t (value r) k else silent 0 k)) ≡ behind n (if none then judge f t well false unclear m else (if holds then right f t (value r) m else silent f m))
given_behind f t r true well holds k n m e = judge_behind f t well false unclear k n m e
given_behind f t r false well holds k n m e = held_behind f t r holds k n m e

called_behind : (f t : ℕ) (r : Option CType) (well holds : Bool) (k n m : List Note) → k ≡ n ++ m → told (called 0 t r well holds k) ≡ behind n (called f t r well holds m)
called_behind f t None well holds k n m e = ap (answer unclear) e
called_behind f t (Some r) well holds k n m e = given_behind f t r (is_void r) well holds k n m e

held_first : (f t : ℕ) (r : CType) (holds : Bool) (n : List Note) → f ≡ (if holds then right f t (value r) n else silent f n).first
held_first f t r true n = refl
held_first f t r false n = refl

given_first : (f t : ℕ) (r : CType) (none well holds : Bool) (n : List Note) → f ≡ (if none then judge f t well false unclear n else (if holds then right f t (value r) n else silent f n)).first
given_first f t r true well holds n = judge_first f t well false unclear n
given_first f t r false well holds n = held_first f t r holds n

called_first : (f t : ℕ) (r : Option CType) (well holds : Bool) (n : List Note) → f ≡ (called f t r well holds n).first
called_first f t None well holds n = refl
called_first f t (Some r) well holds n = given_first f t r (is_void r) well holds n

call_of_behind : (text : ℕ → Text) (view : View) (f t : ℕ) (args : List Operand) (k : ℕ) (g : Option Function) (n m : List Note) → told (call_of text view 0 t args k g (n ++ m)) ≡ behind n (call_of text view f t args k g m)
call_of_behind text view f t args k None n m = refl
call_of_behind text view f t args k (Some g) n m =
    called_behind f t g.result (all_well args) (call_holds g.params args) (called_notes text view t args k g (n ++ m)) n (called_notes text view t args k g m) (notes_behind text view t args k g n m)

call_of_first : (text : ℕ → Text) (view : View) (f t : ℕ) (args : List Operand) (k : ℕ) (g : Option Function) (n : List Note) → f ≡ (call_of text view f t args k g n).first
call_of_first text view f t args k None n = refl
call_of_first text view f t args k (Some g) n = called_first f t g.result (all_well args) (call_holds g.params args) (called_notes text view t args k g n)

call_behind : (text : ℕ → Text) (view : View) (f t : ℕ) (args : List Operand) (k : Option ℕ) (n m : List Note) → told (call_value text view 0 t args k (n ++ m)) ≡ behind n (call_value text view f t args k m)
call_behind text view f t args None n m = silent_behind f (fault unknown t) (n ++ m) n m refl
call_behind text view f t args (Some k) n m = call_of_behind text view f t args k (slice_get view.file.functions k) n m

call_first : (text : ℕ → Text) (view : View) (f t : ℕ) (args : List Operand) (k : Option ℕ) (n : List Note) → f ≡ (call_value text view f t args k n).first
call_first text view f t args None n = refl
call_first text view f t args (Some k) n = call_of_first text view f t args k (slice_get view.file.functions k) n

call_told : (text : ℕ → Text) (view : View) (f t : ℕ) (js : List Judged) (bs : List Teller) → AllRelated Tells js bs
    → Tells (call_value text view f t (map operand_of js) (callee text view t) (notes_of js)) (teller f (λ n. called_with text view t (told_args bs (no_args n))))
call_told text view f t js bs h = (
  call_first text view f t (map operand_of js) (callee text view t) (notes_of js),
  λ n. ap (called_with text view t) (args_told_so js bs [] n h) ∙ call_behind text view f t (map operand_of js) (callee text view t) n (notes_of js),
)

-- ---- `malloc`

cast_behind : (text : ℕ → Text) (view : View) (f t : ℕ) (cast : Option TypeName) (c : Option CType) (type : CType) (k n m : List Note) → k ≡ n ++ m
    → told (cast_judged text view 0 t cast c type k) ≡ behind n (cast_judged text view f t cast c type m)
cast_behind text view f t None c type k n m e = right_behind f t (value (pointer_to type)) k n m e
cast_behind text view f t (Some x) None type k n m e = ap (answer unclear) e
cast_behind text view f t (Some x) (Some c) type k n m e = judge_behind f t true (same_type c (pointer_to type)) (value c) k n m e

cast_first : (text : ℕ → Text) (view : View) (f t : ℕ) (cast : Option TypeName) (c : Option CType) (type : CType) (n : List Note) → f ≡ (cast_judged text view f t cast c type n).first
cast_first text view f t None c type n = refl
cast_first text view f t (Some x) None type n = refl
cast_first text view f t (Some x) (Some c) type n = judge_first f t true (same_type c (pointer_to type)) (value c) n

made_behind : (text : ℕ → Text) (view : View) (f t : ℕ) (cast : Option TypeName) (o : Option CType) (k n m : List Note) → k ≡ n ++ m → told (made text view 0 t cast o k) ≡ behind n (made text view f t cast o m)
made_behind text view f t cast None k n m e = ap (answer unclear) e
made_behind text view f t cast (Some type) k n m e =
    cast_behind text view f t cast (cast_type text view cast) type (k ++ size_notes view.file.sizes t type) n (m ++ size_notes view.file.sizes t type)
    (ap (λ x. x ++ size_notes view.file.sizes t type) e ∙ append_assoc n m (size_notes view.file.sizes t type))

made_first : (text : ℕ → Text) (view : View) (f t : ℕ) (cast : Option TypeName) (o : Option CType) (n : List Note) → f ≡ (made text view f t cast o n).first
made_first text view f t cast None n = refl
made_first text view f t cast (Some type) n = cast_first text view f t cast (cast_type text view cast) type (n ++ size_notes view.file.sizes t type)

malloc_tells : (text : ℕ → Text) (view : View) (f t : ℕ) (cast : Option TypeName) (m : TypeName) → Tells (malloc text view f t cast m) (teller f (malloc_told text view t cast m))
malloc_tells text view f t cast m = (
  made_first text view f t cast (object_type text view.file.tags view.before m.base m.stars []) (cast_notes text view cast ++ unknown_if_none (object_type text view.file.tags view.before m.base m.stars []) m.base),
  λ n. made_behind text view f t cast (object_type text view.file.tags view.before m.base m.stars [])
      ((n ++ cast_notes text view cast) ++ unknown_if_none (object_type text view.file.tags view.before m.base m.stars []) m.base) n
      (cast_notes text view cast ++ unknown_if_none (object_type text view.file.tags view.before m.base m.stars []) m.base)
      (append_assoc n (cast_notes text view cast) (unknown_if_none (object_type text view.file.tags view.before m.base m.stars []) m.base)),
)

-- ---- all forms

levels : (text : ℕ → Text) (view : View) → Levels Judged Teller Tells (typing_level text view) (telling_level text view)
levels text view = record {
  of_or = truths_told;
  of_and = truths_told;
  of_equal = equals_told;
  of_unequal = equals_told;
  of_less = ints_told;
  of_greater = ints_told;
  of_at_most = ints_told;
  of_at_least = ints_told;
  of_sum = ints_told;
  of_difference = ints_told;
  of_product = ints_told;
  of_quotient = ints_told;
  of_remainder = ints_told;
  of_index = index_told;
  of_minus = λ f t i a h. front_told f t is_int_shape (λ s. value int_type) i a h;
  of_not = λ f t i a h. front_told f t has_truth (λ s. value int_type) i a h;
  of_deref = λ f t i a h. front_told f t is_pointer_shape (λ s. place (target_of (type_of s))) i a h;
  of_address = λ f t i a h. front_told f t (λ s. is_place s && no_array (type_of s)) (λ s. value (pointer_to (type_of s))) i a h;
  of_dot = λ f t i a name h. member_told text view f t name struct_place i a h;
  of_arrow = λ f t i a name h. member_told text view f t name (λ s. struct_behind (type_of s)) i a h;
  of_name = λ f t. named_told f t (variable_named view (text t)) text view;
  of_number = λ f t z. (refl, λ n. refl);
  of_null = λ f t. (refl, λ n. refl);
  of_call = λ f t js bs h. call_told text view f t js bs h;
  of_malloc = λ f t cast m. malloc_tells text view f t cast m;
}

-- what is told of an expression is what it is judged to be
pub tells_judged : (text : ℕ → Text) (view : View) (e : Expr) (n : List Note) → tell text view e n ≡ behind n (judged text view e)
tells_judged text view e n = (related (levels text view) e).1 n

-- so what is answered for the one is answered for the other
pub judged_if : {E : Type 0} (r : Result Shape E) (text : ℕ → Text) (view : View) (e : Expr) (n m : List Note) → IfOk r (λ s. tell text view e n ≡ answer s m) → IfOk r (λ s. behind n (judged text view e) ≡ answer s m)
judged_if (Err x) text view e n m h = tt
judged_if (Ok s) text view e n m h = sym (tells_judged text view e n) ∙ h

all_related : (text : ℕ → Text) (view : View) (l : List Expr) → AllRelated Tells (map (judged text view) l) (map (telling.telling text view) l)
all_related text view [] = tt
all_related text view (e ∷ l) = (related (levels text view) e, all_related text view l)

pub args_if : {E : Type 0} (r : Result (List Operand) E) (text : ℕ → Text) (view : View) (l : List Expr) (n m : List Note) → IfOk r (λ o. told_args (map (telling.telling text view) l) (no_args n) ≡ args_told o m)
    → IfOk r (λ o. args_told (map operand_of (map (judged text view) l)) (n ++ notes_of (map (judged text view) l)) ≡ args_told o m)
args_if (Err x) text view l n m h = tt
args_if (Ok o) text view l n m h = sym (args_told_so (map (judged text view) l) (map (telling.telling text view) l) [] n (all_related text view l)) ∙ h
