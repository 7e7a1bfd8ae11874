-- The types that are said of a program's tokens are made of int or of one of its structs, or `void` itself.
use Rattle.std.proofs.Common.{◌≡◌, ℕ, zero, suc, inl, inr, Bool, true, false, true≢false, ◌&&◌, ℤ, pos, negsuc, List, [], ◌∷◌, ◌++◌, map, slice_get, Option, Some, None, refl, sym, ap, ◌∙◌, if◌then◌else◌}
use Rattle.cc_model.specs.declared.checked.Target.{Target}
use Rattle.cc_model.specs.declared.checked.Target.TheVariants as target
use Rattle.cc_model.specs.declared.typing.CType.{CType}
use Rattle.cc_model.specs.declared.typing.Variable.{Variable}
use Rattle.cc_model.specs.declared.typing.Member.{Member}
use Rattle.cc_model.specs.declared.typing.Function.{Function}
use Rattle.cc_model.specs.declared.typing.Note.{Note}
use Rattle.cc_model.specs.declared.typing.Note.TheVariants.{Fault as fault, Means as means, Typed as typed, Declares as declares}
use Rattle.cc_model.specs.declared.typing.Operand.{Operand}
use Rattle.cc_model.specs.declared.typing.Shape.{Shape}
use Rattle.cc_model.specs.declared.typing.Shape.TheVariants.{Unclear as unclear, Null as null_itself, Zero as zero_at, Value as value, Place as place}
use Rattle.cc_model.specs.declared.trees.Base.{Base}
use Rattle.cc_model.specs.declared.trees.Base.TheVariants as base
use Rattle.cc_model.specs.declared.trees.TypeName.{TypeName}
use Rattle.cc_model.specs.declared.trees.Expr.{Expr}
use Rattle.cc_model.specs.declared.trees.Expr.TheOpen as level
use Rattle.cc_model.specs.Types.{int_type, pointer_to, target_of, element_of, is_void, is_pointer, is_array, no_array, struct_behind, same_type}
use Rattle.cc_model.specs.Scopes.{Text, View, variable_in_scopes, variable_named, or_else, type_named, object_type}
use Rattle.cc_model.specs.Typing.{is_well, type_of, is_int_shape, is_pointer_shape, is_place, null_beside, rule, Judged, right, silent, judge, both_well, number_shape, unknown_base, unknown_if_none, size_notes, operand_of, notes_of, all_well, same_count, param_takes, null_due, arg_notes, count_notes, call_notes, call_holds, called, member_typed, field_type, struct_place, callee, called_notes, call_of, call_value, call_done_of, call_done, member_at, member, variable, named, cast_type, cast_notes, cast_judged, made, malloc, of_ints, of_truths, of_equals, typing_level, judged}
use Rattle.cc_model.proofs.Related.{AllRelated, Levels, related}
use Rattle.cc_laws.proofs.StructCells.{Every, every_append, every_at, IsBase, IsTyped, IsMember}
use Rattle.cc_laws.proofs.NamedTypes.{Found, found_in, IsKnown, IsVariable, IsFunction, IsBefore, IsFile, named_is, object_is}

found_at : {X : Type 0} (P : X → Type 0) (l : List X) (i : ℕ) → Every P l → Found P (slice_get l i)
found_at P [] i h = tt
found_at P (x ∷ l) zero h = h.0
found_at P (x ∷ l) (suc i) h = found_at P l i h.1

found_else : {X : Type 0} (P : X → Type 0) (a b : Option X) → Found P a → Found P b → Found P (or_else a b)
found_else P None b h k = k
found_else P (Some x) b h k = h

module _ (n : ℕ) where
  abbrev pub IsNote : Note → Type 0
  IsNote (typed at t) = IsKnown n t
  IsNote (declares at t) = IsKnown n t
  IsNote _ = Unit {0}

  abbrev pub AllNotes : List Note → Type 0
  AllNotes l = Every IsNote l

  pub both_notes : (l m : List Note) → AllNotes l → AllNotes m → AllNotes (l ++ m)
  both_notes l m h k = every_append IsNote l m h k

  pub notes_if : (b : Bool) (l m : List Note) → AllNotes l → AllNotes m → AllNotes (if b then l else m)
  notes_if true l m h k = h
  notes_if false l m h k = k

  -- ---- notes that say no type

  pub rule_notes : (t : ℕ) (well holds : Bool) → AllNotes (rule t well holds)
  rule_notes t false holds = tt
  rule_notes t true false = (tt, tt)
  rule_notes t true true = tt

  pub beside_notes : (b : Bool) (s : Shape) → AllNotes (null_beside b s)
  beside_notes true unclear = tt
  beside_notes true null_itself = tt
  beside_notes true (zero_at k) = (tt, tt)
  beside_notes true (value t) = tt
  beside_notes true (place t) = tt
  beside_notes false s = tt

  base_notes : (b : Base) → AllNotes (unknown_base b)
  base_notes base.Int = tt
  base_notes (base.Struct t) = (tt, tt)
  base_notes (base.Alias t) = (tt, tt)

  pub none_notes : (o : Option CType) (b : Base) → AllNotes (unknown_if_none o b)
  none_notes None b = base_notes b
  none_notes (Some t) b = tt

  pub sized_notes : (sizes : List ℕ) (t : ℕ) (type : CType) → AllNotes (size_notes sizes t type)
  sized_notes sizes t type = notes_if _ (fault _ t ∷ []) [] (tt, tt) tt

  due_notes : (o : Option CType) (a : Operand) → AllNotes (null_due o a)
  due_notes None a = tt
  due_notes (Some t) a = beside_notes (is_pointer t) a.shape

  argument_notes : (ps : List (Option CType)) (args : List Operand) → AllNotes (arg_notes ps args)
  argument_notes [] args = tt
  argument_notes (p ∷ ps) [] = tt
  argument_notes (p ∷ ps) (a ∷ l) = both_notes _ (arg_notes ps l) (both_notes (rule a.first true (param_takes p a)) _ (rule_notes a.first true (param_takes p a)) (due_notes p a)) (argument_notes ps l)

  counted_notes : (t : ℕ) (ps : List (Option CType)) (args : List Operand) → AllNotes (call_notes t ps args)
  counted_notes t ps args = notes_if (all_well args) (count_notes t ps args) []
      (notes_if (same_count ps args) (arg_notes ps args) (rule t true false) (argument_notes ps args) (rule_notes t true false)) tt

  -- ---- shapes

  abbrev pub IsShape : Shape → Type 0
  IsShape (value t) = IsBase n t.base
  IsShape (place t) = IsBase n t.base
  IsShape _ = Unit {0}

  known_shape : (s : Shape) → IsShape s → IsKnown n (type_of s)
  known_shape unclear h = inr refl
  known_shape null_itself h = inr refl
  known_shape (zero_at t) h = inl tt
  known_shape (value t) h = inl h
  known_shape (place t) h = inl h

  pointer_base : (s : Shape) → IsShape s → is_pointer_shape s ≡ true → IsBase n (type_of s).base
  pointer_base unclear h e = absurd (true≢false (sym e))
  pointer_base null_itself h e = absurd (true≢false (sym e))
  pointer_base (zero_at t) h e = tt
  pointer_base (value t) h e = h
  pointer_base (place t) h e = h

  place_base : (s : Shape) (b : Bool) → IsShape s → (is_place s && b) ≡ true → IsBase n (type_of s).base
  place_base unclear b h e = absurd (true≢false (sym e))
  place_base null_itself b h e = absurd (true≢false (sym e))
  place_base (zero_at t) b h e = tt
  place_base (value t) b h e = h
  place_base (place t) b h e = h

  index_base : (s : Shape) (b c : Bool) → IsShape s → ((is_place s && b) && c) ≡ true → IsBase n (type_of s).base
  index_base unclear b c h e = absurd (true≢false (sym e))
  index_base null_itself b c h e = absurd (true≢false (sym e))
  index_base (zero_at t) b c h e = tt
  index_base (value t) b c h e = h
  index_base (place t) b c h e = h

  pub record IsJudged (j : Judged) : Type 0 where
    pub shape : IsShape j.shape
    pub notes : AllNotes j.notes

  right_is : (f t : ℕ) (s : Shape) (notes : List Note) → IsShape s → AllNotes notes → IsJudged (right f t s notes)
  right_is f t s notes h k = record { shape = h; notes = both_notes notes _ k (known_shape s h, tt) }

  silent_is : (f : ℕ) (notes : List Note) → AllNotes notes → IsJudged (silent f notes)
  silent_is f notes k = record { shape = tt; notes = k }

  judge_is : (f t : ℕ) (well holds : Bool) (s : Shape) (notes : List Note) → (holds ≡ true → IsShape s) → AllNotes notes → IsJudged (judge f t well holds s notes)
  judge_is f t false holds s notes h k = silent_is f notes k
  judge_is f t true false s notes h k = silent_is f _ (both_notes notes _ k (tt, tt))
  judge_is f t true true s notes h k = right_is f t s notes (h refl) k

  number_is : (t : ℕ) (z : ℤ) → IsShape (number_shape t z)
  number_is t (pos zero) = tt
  number_is t (pos (suc m)) = tt
  number_is t (negsuc m) = tt

  -- ---- calls

  not_void : (r : CType) → IsKnown n r → is_void r ≡ false → IsBase n r.base
  not_void r (inl h) e = h
  not_void r (inr i) e = absurd (true≢false (sym (ap is_void i) ∙ e))

  called_if : (b holds well : Bool) (f t : ℕ) (r : CType) (notes : List Note) → (b ≡ false → IsBase n r.base) → AllNotes notes
      → IsJudged (if b then judge f t well false unclear notes else (if holds then right f t (value r) notes else silent f notes))
  called_if true holds well f t r notes h k = judge_is f t well false unclear notes (λ e. tt) k
  called_if false true well f t r notes h k = right_is f t (value r) notes (h refl) k
  called_if false false well f t r notes h k = silent_is f notes k

  called_is : (f t : ℕ) (o : Option CType) (well holds : Bool) (notes : List Note) → Found (IsKnown n) o → AllNotes notes → IsJudged (called f t o well holds notes)
  called_is f t None well holds notes h k = silent_is f notes k
  called_is f t (Some r) well holds notes h k = called_if (is_void r) holds well f t r notes (not_void r h) k

  pub judged_notes : (l : List Judged) → Every IsJudged l → AllNotes (notes_of l)
  judged_notes [] h = tt
  judged_notes (a ∷ l) h = both_notes a.notes (notes_of l) (h.0).notes (judged_notes l h.1)

  all_judged : (xs ys : List Judged) → AllRelated (λ a b. IsJudged a) xs ys → Every IsJudged xs
  all_judged [] [] h = tt
  all_judged [] (b ∷ m) h = absurd h
  all_judged (a ∷ l) [] h = absurd h
  all_judged (a ∷ l) (b ∷ m) h = (h.0, all_judged l m h.1)

  -- ---- members

  field_known : (o : Option Member) → Found (IsMember n) o → IsTyped n (field_type o)
  field_known None h = tt
  field_known (Some f) h = h

  member_known : (f t name offset : ℕ) (o : Option CType) (notes : List Note) → IsTyped n o → AllNotes notes → IsJudged (member_typed f t name offset o notes)
  member_known f t name offset None notes h k = silent_is f _ (both_notes notes _ k (tt, tt))
  member_known f t name offset (Some type) notes h k = right_is f t (place type) _ h (both_notes notes _ k (tt, tt))

  pub record IsView (view : View) : Type 0 where
    pub file : IsFile n view.file
    pub before : IsBefore n view.before
    pub scopes : Every (λ s. Every (IsVariable n) s) view.scopes

  module _ (text : ℕ → Text) (view : View) (ok : IsView view) where
    called_notes_are : (t : ℕ) (args : List Operand) (k : ℕ) (g : Function) (notes : List Note) → AllNotes notes → AllNotes (called_notes text view t args k g notes)
    called_notes_are t args k g notes h = both_notes (notes ++ means t (target.Func k) ∷ []) (call_notes t g.params args) (both_notes notes _ h (tt, tt)) (counted_notes t g.params args)

    call_of_is : (f t : ℕ) (args : List Operand) (k : ℕ) (o : Option Function) (notes : List Note) → Found (IsFunction n) o → AllNotes notes → IsJudged (call_of text view f t args k o notes)
    call_of_is f t args k None notes h i = silent_is f notes i
    call_of_is f t args k (Some g) notes h i = called_is f t g.result (all_well args) (call_holds g.params args) (called_notes text view t args k g notes) h.result (called_notes_are t args k g notes i)

    call_is : (f t : ℕ) (args : List Operand) (o : Option ℕ) (notes : List Note) → AllNotes notes → IsJudged (call_value text view f t args o notes)
    call_is f t args None notes i = silent_is f _ (both_notes notes _ i (tt, tt))
    call_is f t args (Some k) notes i = call_of_is f t args k (slice_get (view.file).functions k) notes (found_at (IsFunction n) (view.file).functions k (ok.file).functions) i

    call_done_of_notes : (t : ℕ) (args : List Operand) (k : ℕ) (o : Option Function) (notes : List Note) → AllNotes notes → AllNotes (call_done_of text view t args k o notes)
    call_done_of_notes t args k None notes i = i
    call_done_of_notes t args k (Some g) notes i = called_notes_are t args k g notes i

    pub call_done_notes : (t : ℕ) (args : List Operand) (o : Option ℕ) (notes : List Note) → AllNotes notes → AllNotes (call_done text view t args o notes)
    call_done_notes t args None notes i = both_notes notes _ i (tt, tt)
    call_done_notes t args (Some k) notes i = call_done_of_notes t args k (slice_get (view.file).functions k) notes i

    member_at_is : (f t name : ℕ) (fields : List Member) (o : Option ℕ) (notes : List Note) → Every (IsMember n) fields → AllNotes notes → IsJudged (member_at text view f t name fields o notes)
    member_at_is f t name fields None notes h i = silent_is f _ (both_notes notes _ i (tt, tt))
    member_at_is f t name fields (Some k) notes h i = member_known f t name _ (field_type (slice_get fields k)) notes (field_known (slice_get fields k) (found_at (IsMember n) fields k h)) i

    member_is : (f t name : ℕ) (well : Bool) (o : Option ℕ) (notes : List Note) → AllNotes notes → IsJudged (member text view f t name well o notes)
    member_is f t name well None notes i = judge_is f t well false unclear notes (λ e. tt) i
    member_is f t name well (Some k) notes i = member_at_is f t name _ _ notes (every_at (λ s. Every (IsMember n) s) (view.file).structs k [] tt (ok.file).structs) i

    variable_is : (f t : ℕ) (what : Target) (o : Option CType) → IsTyped n o → IsJudged (variable text view f t what o)
    variable_is f t what None h = silent_is f (means t what ∷ []) (tt, tt)
    variable_is f t what (Some type) h = right_is f t (place type) (means t what ∷ []) h (tt, tt)

    named_judged : (f t : ℕ) (o : Option Variable) → Found (IsVariable n) o → IsJudged (named text view f t o)
    named_judged f t None h = silent_is f _ (tt, tt)
    named_judged f t (Some v) h = variable_is f t v.target v.ty h

    in_scopes : (name : Text) (l : List (List Variable)) → Every (λ s. Every (IsVariable n) s) l → Found (IsVariable n) (variable_in_scopes name l)
    in_scopes name [] h = tt
    in_scopes name (s ∷ l) h = found_else (IsVariable n) (variable_in_scopes name l) _ (in_scopes name l h.1) (found_in (IsVariable n) _ s h.0)

    variable_found : (name : Text) → Found (IsVariable n) (variable_named view name)
    variable_found name = found_else (IsVariable n) (variable_in_scopes name view.scopes) _ (in_scopes name view.scopes ok.scopes) (found_in (IsVariable n) _ (view.before).globals (ok.before).globals)

    cast_known : (o : Option TypeName) → IsTyped n (cast_type text view o)
    cast_known None = tt
    cast_known (Some c) = named_is n text (view.file).tags (ok.file).tags view.before c ok.before

    cast_said : (o : Option TypeName) → AllNotes (cast_notes text view o)
    cast_said None = tt
    cast_said (Some c) = none_notes (type_named text (view.file).tags view.before c) c.base

    cast_is : (f t : ℕ) (o : Option TypeName) (c : Option CType) (type : CType) (notes : List Note) → IsTyped n c → IsBase n type.base → AllNotes notes → IsJudged (cast_judged text view f t o c type notes)
    cast_is f t None c type notes h k i = right_is f t (value (pointer_to type)) notes k i
    cast_is f t (Some m) None type notes h k i = silent_is f notes i
    cast_is f t (Some m) (Some c) type notes h k i = judge_is f t true (same_type c (pointer_to type)) (value c) notes (λ e. h) i

    made_is : (f t : ℕ) (cast : Option TypeName) (o : Option CType) (notes : List Note) → IsTyped n o → AllNotes notes → IsJudged (made text view f t cast o notes)
    made_is f t cast None notes h i = silent_is f notes i
    made_is f t cast (Some type) notes h i = cast_is f t cast (cast_type text view cast) type _ (cast_known cast) h (both_notes notes _ i (sized_notes (view.file).sizes t type))

    malloc_is : (f t : ℕ) (cast : Option TypeName) (m : TypeName) → IsJudged (malloc text view f t cast m)
    malloc_is f t cast m = let o = object_type text (view.file).tags view.before m.base m.stars [] in
        made_is f t cast o _ (object_is n text (view.file).tags (ok.file).tags view.before m.base m.stars [] ok.before) (both_notes (cast_notes text view cast) _ (cast_said cast) (none_notes o m.base))

    -- ---- each form

    ints_is : (f t : ℕ) (a b : Judged) → IsJudged a → IsJudged b → IsJudged (of_ints text view f t a b)
    ints_is f t a b h k = judge_is f t (both_well a b) _ (value int_type) (a.notes ++ b.notes) (λ e. tt) (both_notes a.notes b.notes h.notes k.notes)

    truths_is : (f t : ℕ) (a b : Judged) → IsJudged a → IsJudged b → IsJudged (of_truths text view f t a b)
    truths_is f t a b h k = judge_is f t (both_well a b) _ (value int_type) (a.notes ++ b.notes) (λ e. tt) (both_notes a.notes b.notes h.notes k.notes)

    equals_is : (f t : ℕ) (a b : Judged) → IsJudged a → IsJudged b → IsJudged (of_equals text view f t a b)
    equals_is f t a b h k = judge_is f t (both_well a b) _ (value int_type) _ (λ e. tt)
        (both_notes a.notes _ h.notes (both_notes b.notes _ k.notes (both_notes (null_beside (is_pointer_shape a.shape) b.shape) _ (beside_notes (is_pointer_shape a.shape) b.shape) (beside_notes (is_pointer_shape b.shape) a.shape))))

    index_is : (f t : ℕ) (a b : Judged) → IsJudged a → IsJudged b → IsJudged (typing_level text view (level.Index f t a b))
    index_is f t a i h k = judge_is f t (both_well a i) _ (place (element_of (type_of a.shape))) (a.notes ++ i.notes) (λ e. index_base a.shape (is_array (type_of a.shape)) (is_int_shape i.shape) h.shape e) (both_notes a.notes i.notes h.notes k.notes)

    levels : Levels Judged Judged (λ a b. IsJudged a) (typing_level text view) (typing_level text view)
    levels = record {
      of_or = λ f t a b c d h k. truths_is f t a b h k;
      of_and = λ f t a b c d h k. truths_is f t a b h k;
      of_equal = λ f t a b c d h k. equals_is f t a b h k;
      of_unequal = λ f t a b c d h k. equals_is f t a b h k;
      of_less = λ f t a b c d h k. ints_is f t a b h k;
      of_greater = λ f t a b c d h k. ints_is f t a b h k;
      of_at_most = λ f t a b c d h k. ints_is f t a b h k;
      of_at_least = λ f t a b c d h k. ints_is f t a b h k;
      of_sum = λ f t a b c d h k. ints_is f t a b h k;
      of_difference = λ f t a b c d h k. ints_is f t a b h k;
      of_product = λ f t a b c d h k. ints_is f t a b h k;
      of_quotient = λ f t a b c d h k. ints_is f t a b h k;
      of_remainder = λ f t a b c d h k. ints_is f t a b h k;
      of_index = λ f t a b c d h k. index_is f t a b h k;
      of_minus = λ f t a c h. judge_is f t (is_well a.shape) _ (value int_type) a.notes (λ e. tt) h.notes;
      of_not = λ f t a c h. judge_is f t (is_well a.shape) _ (value int_type) a.notes (λ e. tt) h.notes;
      of_deref = λ f t a c h. judge_is f t (is_well a.shape) _ (place (target_of (type_of a.shape))) a.notes (pointer_base a.shape h.shape) h.notes;
      of_address = λ f t a c h. judge_is f t (is_well a.shape) _ (value (pointer_to (type_of a.shape))) a.notes (place_base a.shape (no_array (type_of a.shape)) h.shape) h.notes;
      of_dot = λ f t a c name h. member_is f t name (is_well a.shape) (struct_place a.shape) a.notes h.notes;
      of_arrow = λ f t a c name h. member_is f t name (is_well a.shape) (struct_behind (type_of a.shape)) a.notes h.notes;
      of_name = λ f t. named_judged f t (variable_named view (text t)) (variable_found (text t));
      of_number = λ f t z. right_is f t (number_shape t z) [] (number_is t z) tt;
      of_null = λ f t. right_is f t null_itself [] tt tt;
      of_call = λ f t xs ys h. call_is f t (map operand_of xs) (callee text view t) (notes_of xs) (judged_notes xs (all_judged xs ys h));
      of_malloc = λ f t cast m. malloc_is f t cast m;
    }

    pub judged_is : (e : Expr) → IsJudged (judged text view e)
    judged_is e = related levels e
