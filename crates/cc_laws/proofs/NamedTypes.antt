-- The types that are written in a file are made of int or of one of its structs; only a function's result may be `void`.
use Rattle.std.proofs.Common.{◌≡◌, ℕ, suc, ◌+◌, ◌<◌, ◌⊎◌, inl, inr, Bool, true, false, cond, nat_lt, List, [], ◌∷◌, map, length, find, position, option_map, option_and_then, Option, Some, None, refl, ap, ◌∙◌, subst, arith, if◌then◌else◌}
use Rattle.std.proofs.lemmas.Bool.{ltb-true}
use Rattle.cc_model.specs.declared.typing.BaseType.{BaseType}
use Rattle.cc_model.specs.declared.typing.BaseType.TheVariants.{Struct as struct_base}
use Rattle.cc_model.specs.declared.typing.CType.{CType}
use Rattle.cc_model.specs.declared.typing.Variable.{Variable}
use Rattle.cc_model.specs.declared.typing.Alias.{Alias}
use Rattle.cc_model.specs.declared.typing.Function.{Function}
use Rattle.cc_model.specs.declared.typing.Before.{Before}
use Rattle.cc_model.specs.declared.typing.File.{File}
use Rattle.cc_model.specs.declared.trees.Base.{Base}
use Rattle.cc_model.specs.declared.trees.Base.TheVariants as base
use Rattle.cc_model.specs.declared.trees.TypeName.{TypeName}
use Rattle.cc_model.specs.declared.trees.ResultType.{ResultType}
use Rattle.cc_model.specs.declared.trees.ResultType.TheVariants as returned
use Rattle.cc_model.specs.declared.trees.Declarator.{Declarator}
use Rattle.cc_model.specs.declared.trees.Param.{Param}
use Rattle.cc_model.specs.declared.trees.ProtoParam.{ProtoParam}
use Rattle.cc_model.specs.declared.trees.Field as source_field
use Rattle.cc_model.specs.declared.trees.StructDef.TheVariants as struct
use Rattle.cc_model.specs.declared.trees.GlobalPart.{GlobalPart}
use Rattle.cc_model.specs.declared.trees.Item.{Item}
use Rattle.cc_model.specs.declared.trees.Item.TheVariants as item
use Rattle.cc_model.specs.Types.{void_type}
use Rattle.cc_model.specs.Scopes.{Text, has_name, alias_in, tag_in, tags_of, base_named, with_parts, type_named, is_complete, if_complete, object_type, declared_type, result_type, param_type, field_of, fields_of, with_alias, global_of, after_global, after_globals, after_item, structs_in, func_params, proto_params, functions_in, nothing_before, file_of, has_tag}
use Rattle.cc_laws.proofs.StructCells.{Every, every_append, IsBase, IsTyped, IsMember}

abbrev pub IsBelow : ℕ → Option ℕ → Type 0
IsBelow n None = Unit {0}
IsBelow n (Some k) = k < n

below_if : (b : Bool) (m n : ℕ) → (b ≡ true → m < n) → IsBelow n (cond b (Some m) None)
below_if true m n h = h refl
below_if false m n h = tt

pub is_below : (m n : ℕ) → nat_lt m n ≡ true → m < n
is_below m n e = ltb-true m n e

position_below : {X : Type 0} (p : X → Bool) (l : List X) → IsBelow (length l) (position p l)
position_below p l = below_if _ _ (length l) (is_below _ (length l))

abbrev pub Found : {X : Type 0} → (X → Type 0) → Option X → Type 0
Found P None = Unit {0}
Found P (Some x) = P x

found_if : {X : Type 0} (P : X → Type 0) (b : Bool) (x : X) (o : Option X) → P x → Found P o → Found P (cond b (Some x) o)
found_if P true x o h k = h
found_if P false x o h k = k

pub found_in : {X : Type 0} (P : X → Type 0) (p : X → Bool) (l : List X) → Every P l → Found P (find p l)
found_in P p [] h = tt
found_in P p (x ∷ l) h = found_if P (p x) x (find p l) h.0 (found_in P p l h.1)

module _ (n : ℕ) where
  -- made of int or a struct, or `void`
  abbrev pub IsKnown : CType → Type 0
  IsKnown t = IsBase n t.base ⊎ (t ≡ void_type)

  abbrev pub IsResult : Option CType → Type 0
  IsResult o = Found IsKnown o

  abbrev pub IsVariable : Variable → Type 0
  IsVariable v = IsTyped n v.ty

  abbrev pub IsAlias : Alias → Type 0
  IsAlias a = IsBelow n a.number

  pub record IsFunction (f : Function) : Type 0 where
    pub result : IsResult f.result
    pub params : Every (IsTyped n) f.params

  pub record IsBefore (b : Before) : Type 0 where
    pub aliases : Every IsAlias b.aliases
    pub globals : Every IsVariable b.globals

  pub record IsFile (file : File) : Type 0 where
    pub tags : length file.tags ≡ n
    pub structs : Every (λ s. Every (IsMember n) s) file.structs
    pub functions : Every IsFunction file.functions

  pub nothing_is : IsBefore nothing_before
  nothing_is = record { aliases = tt; globals = tt }

  numbered : (o : Option ℕ) → IsBelow n o → Found (IsBase n) (option_map struct_base o)
  numbered None h = tt
  numbered (Some k) h = h

  of_alias : (o : Option Alias) → Found IsAlias o → Found (IsBase n) (option_and_then (λ a. option_map struct_base a.number) o)
  of_alias None h = tt
  of_alias (Some a) h = numbered a.number h

  base_if : (b : Bool) (t : BaseType) → IsBase n t → Found (IsBase n) (if b then Some t else None)
  base_if true t h = h
  base_if false t h = tt

  typed_parts : (stars : ℕ) (lengths : List ℕ) (o : Option BaseType) → Found (IsBase n) o → IsTyped n (option_map (with_parts (λ t. []) [] stars lengths) o)
  typed_parts stars lengths None h = tt
  typed_parts stars lengths (Some b) h = h

  known_if : (o : Option CType) → IsTyped n o → IsResult o
  known_if None h = tt
  known_if (Some t) h = inl h

  module _ (text : ℕ → Text) (tags : List (Option Text)) (number : length tags ≡ n) where
    pub tag_below : (name : Text) → IsBelow n (tag_in name tags)
    tag_below name = subst (λ m. IsBelow m (tag_in name tags)) number (position_below (has_tag name) tags)

    pub base_is : (before : Before) (b : Base) → IsBefore before → Found (IsBase n) (base_named text tags before b)
    base_is before base.Int h = tt
    base_is before (base.Struct tag) h = numbered (tag_in (text tag) tags) (tag_below (text tag))
    base_is before (base.Alias name) h = of_alias (alias_in (text name) before.aliases) (found_in IsAlias _ before.aliases h.aliases)

    complete_is : (before : Before) (stars : ℕ) (o : Option BaseType) → Found (IsBase n) o → Found (IsBase n) (option_and_then (if_complete text tags before stars) o)
    complete_is before stars None h = tt
    complete_is before stars (Some b) h = base_if (is_complete text tags before stars b) b h

    pub named_is : (before : Before) (t : TypeName) → IsBefore before → IsTyped n (type_named text tags before t)
    named_is before t h = typed_parts t.stars [] (base_named text tags before t.base) (base_is before t.base h)

    pub object_is : (before : Before) (b : Base) (stars : ℕ) (lengths : List ℕ) → IsBefore before → IsTyped n (object_type text tags before b stars lengths)
    object_is before b stars lengths h = typed_parts stars lengths _ (complete_is before stars (base_named text tags before b) (base_is before b h))

    pub declared_is : (before : Before) (b : Base) (d : Declarator) → IsBefore before → IsTyped n (declared_type text tags before b d)
    declared_is before b d h = object_is before b d.stars _ h

    pub param_is : (before : Before) (t : TypeName) → IsBefore before → IsTyped n (param_type text tags before t)
    param_is before t h = object_is before t.base t.stars [] h

    pub result_is : (before : Before) (r : ResultType) → IsBefore before → IsResult (result_type text tags before r)
    result_is before returned.Void h = inr refl
    result_is before (returned.Value t) h = known_if (type_named text tags before t) (named_is before t h)

    members_are : (before : Before) (b : Base) (l : List Declarator) → IsBefore before → Every (IsMember n) (map (field_of text tags before b) l)
    members_are before b [] h = tt
    members_are before b (d ∷ l) h = (declared_is before b d h, members_are before b l h)

    pub fields_are : (before : Before) (l : List source_field.Field) → IsBefore before → Every (IsMember n) (fields_of text tags before l)
    fields_are before [] h = tt
    fields_are before (f ∷ l) h = every_append (IsMember n) _ _ (members_are before f.base f.parts h) (fields_are before l h)

    -- ---- what stands before

    aliased : (before : Before) (name : Text) (number : Option ℕ) → IsBefore before → IsBelow n number → IsBefore (with_alias text tags before name number)
    aliased before name number h k = record { aliases = every_append IsAlias before.aliases _ h.aliases (k, tt); globals = h.globals }

    pub global_is : (before : Before) (b : Base) (p : GlobalPart) → IsBefore before → IsVariable (global_of text tags before b p)
    global_is before b p h = declared_is before b p.declarator h

    pub behind_global : (before : Before) (b : Base) (p : GlobalPart) → IsBefore before → IsBefore (after_global text tags before b p)
    behind_global before b p h = record { aliases = h.aliases; globals = every_append IsVariable before.globals _ h.globals (global_is before b p h, tt) }

    behind_globals : (before : Before) (b : Base) (l : List GlobalPart) → IsBefore before → IsBefore (after_globals text tags before b l)
    behind_globals before b [] h = h
    behind_globals before b (p ∷ l) h = behind_globals (after_global text tags before b p) b l (behind_global before b p h)

    -- the structs of the rest of a file have the numbers up to n
    abbrev pub StructsLeft : Before → List Item → Type 0
    StructsLeft before l = before.structs + length (tags_of text l) ≡ n

    pub behind : (before : Before) (i : Item) (l : List Item) → StructsLeft before (i ∷ l) → IsBefore before → IsBefore (after_item text tags before i)
    behind before (item.Alias tag name) l e h = aliased before (text name) (tag_in (text tag) tags) h (tag_below (text tag))
    behind before (item.Struct (struct.Tagged tag fields)) l e h = record { aliases = h.aliases; globals = h.globals }
    behind before (item.Struct (struct.Named tag fields name)) l e h = record { aliases = every_append IsAlias before.aliases _ h.aliases (omega arith, tt); globals = h.globals }
    behind before (item.Globals b parts) l e h = behind_globals before b parts h
    behind before (item.Func f) l e h = record { aliases = h.aliases; globals = h.globals }
    behind before (item.Prototype r name params) l e h = record { aliases = h.aliases; globals = h.globals }

    pub same_structs : (before : Before) (b : Base) (l : List GlobalPart) → (after_globals text tags before b l).structs ≡ before.structs
    same_structs before b [] = refl
    same_structs before b (p ∷ l) = same_structs (after_global text tags before b p) b l

    pub left : (before : Before) (i : Item) (l : List Item) → StructsLeft before (i ∷ l) → StructsLeft (after_item text tags before i) l
    left before (item.Alias tag name) l e = e
    left before (item.Struct (struct.Tagged tag fields)) l e = omega arith
    left before (item.Struct (struct.Named tag fields name)) l e = omega arith
    left before (item.Globals b parts) l e = ap (λ s. s + length (tags_of text l)) (same_structs before b parts) ∙ e
    left before (item.Func f) l e = e
    left before (item.Prototype r name params) l e = e

    -- ---- what a file has

    pub structs_are : (before : Before) (l : List Item) → StructsLeft before l → IsBefore before → Every (λ s. Every (IsMember n) s) (structs_in text tags before l)
    structs_are before [] e h = tt
    structs_are before (item.Alias tag name ∷ l) e h = structs_are (after_item text tags before (item.Alias tag name)) l (left before (item.Alias tag name) l e) (behind before (item.Alias tag name) l e h)
    structs_are before (item.Struct (struct.Tagged tag fields) ∷ l) e h =
        (fields_are before fields h, structs_are (after_item text tags before (item.Struct (struct.Tagged tag fields))) l (left before (item.Struct (struct.Tagged tag fields)) l e) (behind before (item.Struct (struct.Tagged tag fields)) l e h))
    structs_are before (item.Struct (struct.Named tag fields name) ∷ l) e h =
        (fields_are before fields h, structs_are (after_item text tags before (item.Struct (struct.Named tag fields name))) l (left before (item.Struct (struct.Named tag fields name)) l e) (behind before (item.Struct (struct.Named tag fields name)) l e h))
    structs_are before (item.Globals b parts ∷ l) e h = structs_are (after_item text tags before (item.Globals b parts)) l (left before (item.Globals b parts) l e) (behind before (item.Globals b parts) l e h)
    structs_are before (item.Func f ∷ l) e h = structs_are (after_item text tags before (item.Func f)) l (left before (item.Func f) l e) (behind before (item.Func f) l e h)
    structs_are before (item.Prototype r name params ∷ l) e h = structs_are (after_item text tags before (item.Prototype r name params)) l (left before (item.Prototype r name params) l e) (behind before (item.Prototype r name params) l e h)

    params_are : (before : Before) (l : List Param) → IsBefore before → Every (IsTyped n) (func_params text tags before l)
    params_are before [] h = tt
    params_are before (p ∷ l) h = (param_is before p.ty h, params_are before l h)

    protos_are : (before : Before) (l : List ProtoParam) → IsBefore before → Every (IsTyped n) (proto_params text tags before l)
    protos_are before [] h = tt
    protos_are before (p ∷ l) h = (param_is before p.ty h, protos_are before l h)

    first_is : (b : Bool) (f : Function) (l : List Function) → IsFunction f → Every IsFunction l → Every IsFunction (if b then l else f ∷ l)
    first_is true f l h k = k
    first_is false f l h k = (h, k)

    pub functions_are : (before : Before) (l : List Item) → StructsLeft before l → IsBefore before → Every IsFunction (functions_in text tags before l)
    functions_are before [] e h = tt
    functions_are before (item.Alias tag name ∷ l) e h = functions_are (after_item text tags before (item.Alias tag name)) l (left before (item.Alias tag name) l e) (behind before (item.Alias tag name) l e h)
    functions_are before (item.Struct (struct.Tagged tag fields) ∷ l) e h = functions_are (after_item text tags before (item.Struct (struct.Tagged tag fields))) l (left before (item.Struct (struct.Tagged tag fields)) l e) (behind before (item.Struct (struct.Tagged tag fields)) l e h)
    functions_are before (item.Struct (struct.Named tag fields name) ∷ l) e h = functions_are (after_item text tags before (item.Struct (struct.Named tag fields name))) l (left before (item.Struct (struct.Named tag fields name)) l e) (behind before (item.Struct (struct.Named tag fields name)) l e h)
    functions_are before (item.Globals b parts ∷ l) e h = functions_are (after_item text tags before (item.Globals b parts)) l (left before (item.Globals b parts) l e) (behind before (item.Globals b parts) l e h)
    functions_are before (item.Func f ∷ l) e h = first_is (has_name (text f.name) before.functions) _ _ (record { result = result_is before f.result h; params = params_are before f.params h })
        (functions_are (after_item text tags before (item.Func f)) l (left before (item.Func f) l e) (behind before (item.Func f) l e h))
    functions_are before (item.Prototype r name params ∷ l) e h = first_is (has_name (text name) before.functions) _ _ (record { result = result_is before r h; params = protos_are before params h })
        (functions_are (after_item text tags before (item.Prototype r name params)) l (left before (item.Prototype r name params) l e) (behind before (item.Prototype r name params) l e h))

pub structs_number : (text : ℕ → Text) (tags : List (Option Text)) (before : Before) (l : List Item) → length (structs_in text tags before l) ≡ length (tags_of text l)
structs_number text tags before [] = refl
structs_number text tags before (item.Alias tag name ∷ l) = structs_number text tags (after_item text tags before (item.Alias tag name)) l
structs_number text tags before (item.Struct (struct.Tagged tag fields) ∷ l) = ap suc (structs_number text tags (after_item text tags before (item.Struct (struct.Tagged tag fields))) l)
structs_number text tags before (item.Struct (struct.Named tag fields name) ∷ l) = ap suc (structs_number text tags (after_item text tags before (item.Struct (struct.Named tag fields name))) l)
structs_number text tags before (item.Globals b parts ∷ l) = structs_number text tags (after_item text tags before (item.Globals b parts)) l
structs_number text tags before (item.Func f ∷ l) = structs_number text tags (after_item text tags before (item.Func f)) l
structs_number text tags before (item.Prototype r name params ∷ l) = structs_number text tags (after_item text tags before (item.Prototype r name params)) l

-- a file's types are made of its structs
pub file_is : (text : ℕ → Text) (items : List Item) → IsFile (length (tags_of text items)) (file_of text items)
file_is text items = let n = length (tags_of text items) in record {
  tags = refl;
  structs = structs_are n text (tags_of text items) refl nothing_before items (omega arith) (nothing_is n);
  functions = functions_are n text (tags_of text items) refl nothing_before items (omega arith) (nothing_is n);
}
