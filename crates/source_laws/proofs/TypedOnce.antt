-- What is said of an expression tells the type of each of its tokens at most once, and of no other token.
use Rattle.std.proofs.Common.{◌≡◌, ℕ, ◌≤◌, Bool, true, false, List, [], ◌∷◌, ◌++◌, map, flat_map, Option, Some, None, slice_get, unwrap_or, refl, ap, ap₂, ◌∙◌, arith, if◌then◌else◌}
use Rattle.cc_model.specs.declared.checked.Target.{Target}
use Rattle.cc_model.specs.declared.checked.Target.TheVariants as target
use Rattle.cc_model.specs.declared.typing.CType.{CType}
use Rattle.cc_model.specs.declared.typing.Variable.{Variable}
use Rattle.cc_model.specs.declared.typing.Member.{Member}
use Rattle.cc_model.specs.declared.typing.Function.{Function}
use Rattle.cc_model.specs.declared.typing.Note.{Note}
use Rattle.cc_model.specs.declared.typing.Note.TheVariants.{Fault as fault, Means as means, Typed as typed, Null as null, Declares as declares}
use Rattle.cc_model.specs.declared.typing.Operand.{Operand}
use Rattle.cc_model.specs.declared.typing.Wrong.TheVariants.{Unknown as unknown}
use Rattle.cc_model.specs.declared.typing.Shape.{Shape}
use Rattle.cc_model.specs.declared.typing.Shape.TheVariants.{Unclear as unclear, Null as null_itself, Zero as zero_at, Value as value, Place as place}
use Rattle.cc_model.specs.declared.trees.Base.{Base}
use Rattle.cc_model.specs.declared.trees.Base.TheVariants as base
use Rattle.cc_model.specs.declared.trees.TypeName.{TypeName}
use Rattle.cc_model.specs.declared.trees.Expr.{Expr}
use Rattle.cc_model.specs.Types.{is_void, is_pointer}
use Rattle.cc_model.specs.Scopes.{Text, View, variable_named, field_in, object_type, type_named}
use Rattle.cc_model.specs.Typing.{null_beside, rule, Judged, right, silent, judge, unknown_base, unknown_if_none, size_notes, operand_of, notes_of, all_well, same_count, param_takes, null_due, arg_notes, count_notes, call_notes, call_holds, called, member_typed, field_type, callee, called_notes, call_of, call_value, member_at, member, variable, named, cast_type, cast_notes, cast_judged, made, is_pointer_shape, typing_level, judged}
use Rattle.cc_model.specs.CheckedProgram.{token_level, tokens_in}
use Rattle.cc_model.proofs.Related.{AllRelated, Levels, related}
use Rattle.source_laws.specs.Tokens.{times, typed_in}
use Rattle.source_laws.proofs.Counting.{times_append}

typed_both : (l m : List Note) → typed_in (l ++ m) ≡ typed_in l ++ typed_in m
typed_both [] m = refl
typed_both (typed t a ∷ l) m = ap (λ x. t ∷ x) (typed_both l m)
typed_both (fault w t ∷ l) m = typed_both l m
typed_both (means t a ∷ l) m = typed_both l m
typed_both (null t ∷ l) m = typed_both l m
typed_both (declares t a ∷ l) m = typed_both l m

-- no type is said of an expression
pub record Silent (l : List Note) : Type 0 where
  pub none : typed_in l ≡ []

pub silent_both : (l m : List Note) → Silent l → Silent m → Silent (l ++ m)
silent_both l m h k = record { none = typed_both l m ∙ ap₂ (λ x y. x ++ y) h.none k.none }

pub silent_if : (b : Bool) (l m : List Note) → Silent l → Silent m → Silent (if b then l else m)
silent_if true l m h k = h
silent_if false l m h k = k

-- each token is told in the notes no more often than in the list
pub record Few (notes : List Note) (l : List ℕ) : Type 0 where
  pub few : (k : ℕ) → times k (typed_in notes) ≤ times k l

pub few_silent : (n : List Note) (l : List ℕ) → Silent n → Few n l
few_silent n l h = record { few = λ k. (let e = ap (times k) h.none in omega (arith, e)) }

pub few_both : (n m : List Note) (l j : List ℕ) → Few n l → Few m j → Few (n ++ m) (l ++ j)
few_both n m l j h i = record { few = λ k. (let a = ap (times k) (typed_both n m) in let b = times_append k (typed_in n) (typed_in m) in let c = times_append k l j in let d = h.few k in let e = i.few k in omega (arith, a, b, c, d, e)) }

pub few_then : (n m : List Note) (l : List ℕ) → Few n l → Silent m → Few (n ++ m) l
few_then n m l h i = record { few = λ k. (let a = ap (times k) (typed_both n m) in let b = times_append k (typed_in n) (typed_in m) in let c = ap (times k) i.none in let d = h.few k in omega (arith, a, b, c, d)) }

pub few_behind : (m n : List Note) (l : List ℕ) → Silent m → Few n l → Few (m ++ n) l
few_behind m n l i h = record { few = λ k. (let a = ap (times k) (typed_both m n) in let b = times_append k (typed_in m) (typed_in n) in let c = ap (times k) i.none in let d = h.few k in omega (arith, a, b, c, d)) }

few_more : (n : List Note) (t : ℕ) (l : List ℕ) → Few n l → Few n (t ∷ l)
few_more n t l h = record { few = λ k. (let d = h.few k in omega (arith, d)) }

few_typed : (n : List Note) (t : ℕ) (a : CType) (l : List ℕ) → Few n l → Few (n ++ typed t a ∷ []) (t ∷ l)
few_typed n t a l h = record { few = λ k. (let x = ap (times k) (typed_both n (typed t a ∷ [])) in let y = times_append k (typed_in n) (t ∷ []) in let d = h.few k in omega (arith, x, y, d)) }

pub few_none : (l : List ℕ) → Few [] l
few_none l = few_silent [] l (record { none = refl })

-- ---- notes that say no type of an expression

pub rule_silent : (t : ℕ) (well holds : Bool) → Silent (rule t well holds)
rule_silent t false holds = (record { none = refl })
rule_silent t true false = (record { none = refl })
rule_silent t true true = (record { none = refl })

pub beside_silent : (b : Bool) (s : Shape) → Silent (null_beside b s)
beside_silent true unclear = (record { none = refl })
beside_silent true null_itself = (record { none = refl })
beside_silent true (zero_at k) = (record { none = refl })
beside_silent true (value t) = (record { none = refl })
beside_silent true (place t) = (record { none = refl })
beside_silent false s = (record { none = refl })

base_silent : (b : Base) → Silent (unknown_base b)
base_silent base.Int = (record { none = refl })
base_silent (base.Struct t) = (record { none = refl })
base_silent (base.Alias t) = (record { none = refl })

pub unknown_silent : (o : Option CType) (b : Base) → Silent (unknown_if_none o b)
unknown_silent None b = base_silent b
unknown_silent (Some t) b = (record { none = refl })

pub size_silent : (sizes : List ℕ) (t : ℕ) (type : CType) → Silent (size_notes sizes t type)
size_silent sizes t type = silent_if _ (fault _ t ∷ []) [] (record { none = refl }) (record { none = refl })

due_silent : (o : Option CType) (a : Operand) → Silent (null_due o a)
due_silent None a = (record { none = refl })
due_silent (Some t) a = beside_silent (is_pointer t) a.shape

args_silent : (ps : List (Option CType)) (l : List Operand) → Silent (arg_notes ps l)
args_silent [] l = (record { none = refl })
args_silent (p ∷ ps) [] = (record { none = refl })
args_silent (p ∷ ps) (a ∷ l) = silent_both (rule a.first true (param_takes p a) ++ null_due p a) (arg_notes ps l)
    (silent_both (rule a.first true (param_takes p a)) (null_due p a) (rule_silent a.first true (param_takes p a)) (due_silent p a)) (args_silent ps l)

pub call_silent : (t : ℕ) (ps : List (Option CType)) (l : List Operand) → Silent (call_notes t ps l)
call_silent t ps l = silent_if (all_well l) (count_notes t ps l) [] (silent_if (same_count ps l) (arg_notes ps l) (rule t true false) (args_silent ps l) (record { none = refl })) (record { none = refl })

-- ---- an expression by its rule

judge_few : (f t : ℕ) (well holds : Bool) (s : Shape) (n : List Note) (l : List ℕ) → Few n l → Few (judge f t well holds s n).notes (t ∷ l)
judge_few f t false holds s n l h = few_more n t l h
judge_few f t true false s n l h = few_more (n ++ fault _ t ∷ []) t l (few_then n (fault _ t ∷ []) l h (record { none = refl }))
judge_few f t true true s n l h = few_typed n t _ l h

said_few : (n : List Note) (x : Note) (t : ℕ) (l : List ℕ) → Silent (x ∷ []) → Few n l → Few (n ++ x ∷ []) (t ∷ l)
said_few n x t l i h = few_more (n ++ x ∷ []) t l (few_then n (x ∷ []) l h i)

module _ (text : ℕ → Text) (view : View) where
  abbrev pub IsFew : Judged → List ℕ → Type 0
  IsFew j l = Few j.notes l

  typed_few : (f t name offset : ℕ) (o : Option CType) (n : List Note) (l : List ℕ) → Few n l → Few (member_typed f t name offset o n).notes (t ∷ l)
  typed_few f t name offset None n l h = said_few n (means name (target.Field offset)) t l (record { none = refl }) h
  typed_few f t name offset (Some a) n l h = few_typed (n ++ means name (target.Field offset) ∷ []) t _ l (few_then n (means name (target.Field offset) ∷ []) l h (record { none = refl }))

  member_few_at : (f t name : ℕ) (fields : List Member) (o : Option ℕ) (n : List Note) (l : List ℕ) → Few n l → Few (member_at text view f t name fields o n).notes (t ∷ l)
  member_few_at f t name fields None n l h = said_few n (fault _ name) t l (record { none = refl }) h
  member_few_at f t name fields (Some k) n l h = typed_few f t name _ (field_type (slice_get fields k)) n l h

  member_few : (f t name : ℕ) (well : Bool) (o : Option ℕ) (n : List Note) (l : List ℕ) → Few n l → Few (member text view f t name well o n).notes (t ∷ l)
  member_few f t name well None n l h = judge_few f t well false unclear n l h
  member_few f t name well (Some k) n l h = member_few_at f t name (unwrap_or (slice_get view.file.structs k) []) (field_in (text name) (unwrap_or (slice_get view.file.structs k) [])) n l h

  variable_few : (f t : ℕ) (w : Target) (o : Option CType) → Few (variable text view f t w o).notes (t ∷ [])
  variable_few f t w None = few_silent (means t w ∷ []) (t ∷ []) (record { none = refl })
  variable_few f t w (Some a) = few_typed (means t w ∷ []) t a [] (few_silent (means t w ∷ []) [] (record { none = refl }))

  named_few : (f t : ℕ) (o : Option Variable) → Few (named text view f t o).notes (t ∷ [])
  named_few f t None = few_silent (fault unknown t ∷ []) (t ∷ []) (record { none = refl })
  named_few f t (Some v) = variable_few f t v.target v.ty

  all_few : (xs : List Judged) (ys : List (List ℕ)) → AllRelated IsFew xs ys → Few (notes_of xs) (flat_map (λ y. y) ys)
  all_few [] [] h = few_none []
  all_few (x ∷ xs) (y ∷ ys) h = few_both x.notes (notes_of xs) y (flat_map (λ y. y) ys) h.0 (all_few xs ys h.1)
  all_few [] (y ∷ ys) h = absurd h
  all_few (x ∷ xs) [] h = absurd h

  called_if : (f t : ℕ) (b well holds : Bool) (r : CType) (n : List Note) (l : List ℕ) → Few n l
      → Few (if b then judge f t well false unclear n else (if holds then right f t (value r) n else silent f n)).notes (t ∷ l)
  called_if f t true well holds r n l h = judge_few f t well false unclear n l h
  called_if f t false well true r n l h = few_typed n t _ l h
  called_if f t false well false r n l h = few_more n t l h

  called_few : (f t : ℕ) (o : Option CType) (well holds : Bool) (n : List Note) (l : List ℕ) → Few n l → Few (called f t o well holds n).notes (t ∷ l)
  called_few f t None well holds n l h = few_more n t l h
  called_few f t (Some r) well holds n l h = called_if f t (is_void r) well holds r n l h

  pub said_call : (t : ℕ) (args : List Operand) (m : ℕ) (g : Function) (n : List Note) (l : List ℕ) → Few n l → Few (called_notes text view t args m g n) l
  said_call t args m g n l h = few_then (n ++ means t (target.Func m) ∷ []) (call_notes t g.params args) l (few_then n (means t (target.Func m) ∷ []) l h (record { none = refl })) (call_silent t g.params args)

  call_few_of : (f t : ℕ) (args : List Operand) (m : ℕ) (o : Option Function) (n : List Note) (l : List ℕ) → Few n l → Few (call_of text view f t args m o n).notes (t ∷ l)
  call_few_of f t args m None n l h = few_more n t l h
  call_few_of f t args m (Some g) n l h = called_few f t g.result (all_well args) (call_holds g.params args) (called_notes text view t args m g n) l (said_call t args m g n l h)

  call_few : (f t : ℕ) (args : List Operand) (o : Option ℕ) (n : List Note) (l : List ℕ) → Few n l → Few (call_value text view f t args o n).notes (t ∷ l)
  call_few f t args None n l h = said_few n (fault _ t) t l (record { none = refl }) h
  call_few f t args (Some m) n l h = call_few_of f t args m (slice_get view.file.functions m) n l h

  cast_silent : (o : Option TypeName) → Silent (cast_notes text view o)
  cast_silent None = (record { none = refl })
  cast_silent (Some c) = unknown_silent (type_named text view.file.tags view.before c) c.base

  cast_few : (f t : ℕ) (c : Option TypeName) (o : Option CType) (type : CType) (n : List Note) → Silent n → Few (cast_judged text view f t c o type n).notes (t ∷ [])
  cast_few f t None o type n h = few_typed n t _ [] (few_silent n [] h)
  cast_few f t (Some c) None type n h = few_silent n (t ∷ []) h
  cast_few f t (Some c) (Some a) type n h = judge_few f t true _ (value a) n [] (few_silent n [] h)

  made_few : (f t : ℕ) (c : Option TypeName) (o : Option CType) (n : List Note) → Silent n → Few (made text view f t c o n).notes (t ∷ [])
  made_few f t c None n h = few_silent n (t ∷ []) h
  made_few f t c (Some type) n h = cast_few f t c (cast_type text view c) type _ (silent_both n (size_notes view.file.sizes t type) h (size_silent view.file.sizes t type))

  equal_few : (f t : ℕ) (a b : Judged) (l m : List ℕ) → IsFew a l → IsFew b m → Few (a.notes ++ (b.notes ++ (null_beside (is_pointer_shape a.shape) b.shape ++ null_beside (is_pointer_shape b.shape) a.shape))) (l ++ m)
  equal_few f t a b l m h k = few_both a.notes _ l m h (few_then b.notes _ m k (silent_both (null_beside (is_pointer_shape a.shape) b.shape) (null_beside (is_pointer_shape b.shape) a.shape) (beside_silent _ b.shape) (beside_silent _ a.shape)))

  levels : Levels Judged (List ℕ) IsFew (typing_level text view) token_level
  levels = record {
    of_or = λ f t a b l m h k. judge_few f t _ _ _ (a.notes ++ b.notes) (l ++ m) (few_both a.notes b.notes l m h k);
    of_and = λ f t a b l m h k. judge_few f t _ _ _ (a.notes ++ b.notes) (l ++ m) (few_both a.notes b.notes l m h k);
    of_equal = λ f t a b l m h k. judge_few f t _ _ _ _ (l ++ m) (equal_few f t a b l m h k);
    of_unequal = λ f t a b l m h k. judge_few f t _ _ _ _ (l ++ m) (equal_few f t a b l m h k);
    of_less = λ f t a b l m h k. judge_few f t _ _ _ (a.notes ++ b.notes) (l ++ m) (few_both a.notes b.notes l m h k);
    of_greater = λ f t a b l m h k. judge_few f t _ _ _ (a.notes ++ b.notes) (l ++ m) (few_both a.notes b.notes l m h k);
    of_at_most = λ f t a b l m h k. judge_few f t _ _ _ (a.notes ++ b.notes) (l ++ m) (few_both a.notes b.notes l m h k);
    of_at_least = λ f t a b l m h k. judge_few f t _ _ _ (a.notes ++ b.notes) (l ++ m) (few_both a.notes b.notes l m h k);
    of_sum = λ f t a b l m h k. judge_few f t _ _ _ (a.notes ++ b.notes) (l ++ m) (few_both a.notes b.notes l m h k);
    of_difference = λ f t a b l m h k. judge_few f t _ _ _ (a.notes ++ b.notes) (l ++ m) (few_both a.notes b.notes l m h k);
    of_product = λ f t a b l m h k. judge_few f t _ _ _ (a.notes ++ b.notes) (l ++ m) (few_both a.notes b.notes l m h k);
    of_quotient = λ f t a b l m h k. judge_few f t _ _ _ (a.notes ++ b.notes) (l ++ m) (few_both a.notes b.notes l m h k);
    of_remainder = λ f t a b l m h k. judge_few f t _ _ _ (a.notes ++ b.notes) (l ++ m) (few_both a.notes b.notes l m h k);
    of_index = λ f t a b l m h k. judge_few f t _ _ _ (a.notes ++ b.notes) (l ++ m) (few_both a.notes b.notes l m h k);
    of_minus = λ f t a l h. judge_few f t _ _ _ a.notes l h;
    of_not = λ f t a l h. judge_few f t _ _ _ a.notes l h;
    of_deref = λ f t a l h. judge_few f t _ _ _ a.notes l h;
    of_address = λ f t a l h. judge_few f t _ _ _ a.notes l h;
    of_dot = λ f t a l name h. member_few f t name _ _ a.notes l h;
    of_arrow = λ f t a l name h. member_few f t name _ _ a.notes l h;
    of_name = λ f t. named_few f t (variable_named view (text t));
    of_number = λ f t z. few_typed [] t _ [] (few_none []);
    of_null = λ f t. few_typed [] t _ [] (few_none []);
    of_call = λ f t xs ys h. call_few f t (map operand_of xs) (callee text view t) (notes_of xs) (flat_map (λ y. y) ys) (all_few xs ys h);
    of_malloc = λ f t c m. made_few f t c (object_type text view.file.tags view.before m.base m.stars []) _
        (silent_both (cast_notes text view c) _ (cast_silent c) (unknown_silent (object_type text view.file.tags view.before m.base m.stars []) m.base));
  }

  -- so it is for a whole expression
  pub judged_few : (e : Expr) → Few (judged text view e).notes (tokens_in e)
  judged_few e = related levels e
