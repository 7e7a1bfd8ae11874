-- Each struct of a well typed program begins with a field of a known size.
use Rattle.std.proofs.Common.{◌≡◌, ℕ, zero, suc, ◌≤◌, Bool, true, false, true≢false, ◌&&◌, nat_le, nat_abs, ℤ, pos, negsuc, List, [], ◌∷◌, ◌++◌, map, length, option_map, option_and_then, Option, Some, None, refl, sym, ap, subst, if◌then◌else◌}
use Rattle.std.proofs.lemmas.Bool.{leb-true}
use Rattle.cc_model.specs.declared.tokens.Kind.{Kind}
use Rattle.cc_model.specs.declared.typing.BaseType.{BaseType}
use Rattle.cc_model.specs.declared.typing.BaseType.TheVariants.{Int as int_base, Void as void_base, Struct as struct_base}
use Rattle.cc_model.specs.declared.typing.CType.{CType}
use Rattle.cc_model.specs.declared.typing.Member.{Member}
use Rattle.cc_model.specs.declared.typing.Before.{Before}
use Rattle.cc_model.specs.declared.typing.File.{File}
use Rattle.cc_model.specs.declared.typing.Note.{Note}
use Rattle.cc_model.specs.declared.typing.Note.TheVariants.{Fault as fault, Means as means, Typed as typed, Null as null, Declares as declares}
use Rattle.cc_model.specs.declared.typing.Wrong.{Wrong}
use Rattle.cc_model.specs.declared.typing.Wrong.TheVariants.{TooLarge as too_large}
use Rattle.cc_model.specs.declared.trees.Base.{Base}
use Rattle.cc_model.specs.declared.trees.Base.TheVariants as base
use Rattle.cc_model.specs.declared.trees.Length.{Length}
use Rattle.cc_model.specs.declared.trees.Declarator.{Declarator}
use Rattle.cc_model.specs.declared.trees.Field.{Field}
use Rattle.cc_model.specs.declared.trees.StructDef.TheVariants as struct
use Rattle.cc_model.specs.declared.trees.Part.{Part}
use Rattle.cc_model.specs.declared.trees.Item.{Item}
use Rattle.cc_model.specs.declared.trees.Item.TheVariants as item
use Rattle.cc_model.specs.Spots.{Spot}
use Rattle.cc_model.specs.ReadStatements as rs
use Rattle.cc_model.specs.ReadItems as by
use Rattle.cc_model.specs.Scopes.{Text, is_complete, if_complete, with_parts, base_named, object_type, declared_type, length_of, after_item, fields_of, structs_in}
use Rattle.cc_model.specs.Typing.{unknown_if_none}
use Rattle.cc_model.specs.Faults.{is_length, length_notes, Inside, Said, field_notes, line_notes, lines_notes, struct_size, fields_notes, tag_notes, name_of_struct, item_notes, items_notes, faults_among}
use Rattle.cc_laws.proofs.StructCells.{Every, every_append, IsBase, IsElement, SizedIf, BeginsSized, AllBegin}
use Rattle.cc_laws.proofs.NamedTypes as named
use Rattle.cc_laws.proofs.NamedTypes.{is_below, IsBefore, StructsLeft, base_is, behind, left, same_structs}

-- ---- by the grammar a struct has a line of fields, and that a declarator

abbrev pub HasOne : {A : Type 0} → List A → Type 0
HasOne [] = ⊥
HasOne (a ∷ l) = Unit {0}

one_last : {A : Type 0} (l : List A) (a : A) → HasOne (l ++ a ∷ [])
one_last [] a = tt
one_last (b ∷ l) a = tt

abbrev pub HasField : List Field → Type 0
HasField [] = ⊥
HasField (f ∷ l) = HasOne f.parts

field_first : (l : List Field) (f : Field) → HasField l → HasField (l ++ f ∷ [])
field_first [] f h = absurd h
field_first (g ∷ l) f h = h

abbrev pub HasFields : Item → Type 0
HasFields (item.Struct (struct.Tagged tag fields)) = HasField fields
HasFields (item.Struct (struct.Named tag fields name)) = HasField fields
HasFields _ = Unit {0}

module _ (tok : ℕ → Option Kind) (fits : ℕ → ℕ → Bool) where
  commas_have : {A : Type 0} {R : Spot → Spot → A → Type 0} {s t : Spot} {l : List A} → rs.Commas tok fits A R s t l → HasOne l
  commas_have (rs.first h) = tt
  commas_have (rs.next {l = l} {a = a} h i k) = one_last l a

  line_has : {s t : Spot} {f : Field} → by.FieldLine tok fits s t f → HasOne f.parts
  line_has (by.line b c i) = commas_have c

  lines_have : {s t : Spot} {l : List Field} → by.FieldLines tok fits s t l → HasField l
  lines_have (by.first h) = line_has h
  lines_have (by.next {l = l} {f = f} h k) = field_first l f (lines_have h)

  fields_have : {s t : Spot} {l : List Field} → by.Fields tok fits s t l → HasField l
  fields_have (by.braces i h j) = lines_have h

  item_has : {s t : Spot} {i : Item} → by.ItemAt tok fits s t i → HasFields i
  item_has (by.alias a b c d e) = tt
  item_has (by.untagged a b h c d) = fields_have h
  item_has (by.tagged a b c h d e) = fields_have h
  item_has (by.struct a b h c) = fields_have h
  item_has (by.globals a b c) = tt
  item_has (by.function a b c) = tt
  item_has (by.prototype a b c) = tt

  pub items_have : {s t : Spot} {l : List Item} → by.Items tok fits s t l → Every HasFields l
  items_have by.none = tt
  items_have (by.more {l = l} h i) = every_append HasFields l _ (items_have h) (item_has i, tt)

-- ---- notes without a fault

is_empty : {A : Type 0} → List A → Bool
is_empty [] = true
is_empty (a ∷ l) = false

not_empty : {A : Type 0} (a : A) (l : List A) → a ∷ l ≡ [] → ⊥
unfolding is_empty
not_empty a l e = true≢false (ap is_empty (sym e))

pub both_empty : {A : Type 0} (l m : List A) → l ++ m ≡ [] → l ≡ []
both_empty [] m e = refl
both_empty (a ∷ l) m e = absurd (not_empty a (l ++ m) e)

abbrev pub NoFault : List Note → Type 0
NoFault l = faults_among l ≡ []

no_fault_left : (l m : List Note) → NoFault (l ++ m) → NoFault l
no_fault_left [] m e = refl
no_fault_left (fault w t ∷ l) m e = absurd (not_empty _ (faults_among (l ++ m)) e)
no_fault_left (means t a ∷ l) m e = no_fault_left l m e
no_fault_left (typed t a ∷ l) m e = no_fault_left l m e
no_fault_left (null t ∷ l) m e = no_fault_left l m e
no_fault_left (declares t a ∷ l) m e = no_fault_left l m e

no_fault_right : (l m : List Note) → NoFault (l ++ m) → NoFault m
no_fault_right [] m e = e
no_fault_right (fault w t ∷ l) m e = absurd (not_empty _ (faults_among (l ++ m)) e)
no_fault_right (means t a ∷ l) m e = no_fault_right l m e
no_fault_right (typed t a ∷ l) m e = no_fault_right l m e
no_fault_right (null t ∷ l) m e = no_fault_right l m e
no_fault_right (declares t a ∷ l) m e = no_fault_right l m e

-- ---- lengths

and_left : (a b : Bool) → (a && b) ≡ true → a ≡ true
and_left true b e = refl
and_left false b e = e

one_length : (z : ℤ) → is_length z ≡ true → 1 ≤ nat_abs z
one_length (pos m) e = leb-true 1 m (and_left (nat_le 1 m) (nat_le m 256) e)
one_length (negsuc m) e = absurd (true≢false (sym e))

unless_fault : (b : Bool) (w : Wrong) (t : ℕ) (m : List Note) → NoFault ((if b then [] else fault w t ∷ []) ++ m) → (b ≡ true) × NoFault m
unless_fault true w t m e = (refl, e)
unless_fault false w t m e = absurd (not_empty _ (faults_among m) e)

lengths_sized : (l : List Length) → NoFault (length_notes l) → Every (λ m. 1 ≤ m) (map (λ a. nat_abs a.value) l)
lengths_sized [] e = tt
lengths_sized (a ∷ l) e = let r = unless_fault (is_length a.value) too_large a.token (length_notes l) e in (one_length a.value r.0, lengths_sized l r.1)

-- ---- a field's type

abbrev Known : Option CType → Type 0
Known None = ⊥
Known (Some t) = Unit {0}

known_struct : (o : Option CType) (t : ℕ) → NoFault (unknown_if_none o (base.Struct t)) → Known o
known_struct None t e = absurd (not_empty _ [] e)
known_struct (Some a) t e = tt

known_alias : (o : Option CType) (t : ℕ) → NoFault (unknown_if_none o (base.Alias t)) → Known o
known_alias None t e = absurd (not_empty _ [] e)
known_alias (Some a) t e = tt

module _ (text : ℕ → Text) (file : File) (n : ℕ) (number : length file.tags ≡ n) where
  module _ (before : Before) (is_before : IsBefore n before) where
    complete_sized : (stars : ℕ) (b : BaseType) → IsBase n b → is_complete text file.tags before stars b ≡ true → IsElement before.structs b stars
    complete_sized (suc m) b h e = tt
    complete_sized zero int_base h e = tt
    complete_sized zero void_base h e = absurd h
    complete_sized zero (struct_base k) h e = is_below k before.structs e

    if_sized : (c : Bool) (stars : ℕ) (lengths : List ℕ) (b : BaseType) → (c ≡ true → IsElement before.structs b stars) → Every (λ m. 1 ≤ m) lengths
        → Known (option_map (with_parts text file.tags stars lengths) (if c then Some b else None)) → SizedIf before.structs (option_map (with_parts text file.tags stars lengths) (if c then Some b else None))
    if_sized true stars lengths b h k i = (h refl, k)
    if_sized false stars lengths b h k i = absurd i

    base_sized : (stars : ℕ) (lengths : List ℕ) (o : Option BaseType) → named.Found (IsBase n) o → Every (λ m. 1 ≤ m) lengths
        → Known (option_map (with_parts text file.tags stars lengths) (option_and_then (if_complete text file.tags before stars) o)) → SizedIf before.structs (option_map (with_parts text file.tags stars lengths) (option_and_then (if_complete text file.tags before stars) o))
    base_sized stars lengths None h k i = absurd i
    base_sized stars lengths (Some b) h k i = if_sized (is_complete text file.tags before stars b) stars lengths b (complete_sized stars b h) k i

    known_int : (stars : ℕ) (lengths : List ℕ) → Known (object_type text file.tags before base.Int stars lengths)
    known_int zero lengths = tt
    known_int (suc m) lengths = tt

    known_object : (b : Base) (stars : ℕ) (lengths : List ℕ) → NoFault (unknown_if_none (object_type text file.tags before b stars lengths) b) → Known (object_type text file.tags before b stars lengths)
    known_object base.Int stars lengths e = known_int stars lengths
    known_object (base.Struct t) stars lengths e = known_struct _ t e
    known_object (base.Alias t) stars lengths e = known_alias _ t e

    field_sized : (earlier : List Member) (b : Base) (d : Declarator) → NoFault (field_notes text file before earlier b d (declared_type text file.tags before b d)) → SizedIf before.structs (declared_type text file.tags before b d)
    field_sized earlier b d e = let o = declared_type text file.tags before b d in
        base_sized d.stars (map (length_of text file.tags) d.lengths) (base_named text file.tags before b) (base_is n text file.tags number before b is_before)
        (lengths_sized d.lengths (no_fault_left (length_notes d.lengths) _ (no_fault_right (unknown_if_none o b) _ e)))
        (known_object b d.stars (map (length_of text file.tags) d.lengths) (no_fault_left (unknown_if_none o b) _ e))

    line_begins : (b : Base) (l : List Declarator) (rest : List Member → List Note) (more : List Member) → HasOne l → NoFault (line_notes text file before [] b l rest)
        → BeginsSized before.structs (map (λ d. record { name = text d.name; ty = declared_type text file.tags before b d }) l ++ more)
    line_begins b [] rest more h e = absurd h
    line_begins b (d ∷ l) rest more h e = field_sized [] b d (no_fault_left (field_notes text file before [] b d (declared_type text file.tags before b d)) _ e)

    lines_begin : (l : List Field) → HasField l → NoFault (lines_notes text file before l []) → BeginsSized before.structs (fields_of text file.tags before l)
    lines_begin [] h e = absurd h
    lines_begin (f ∷ l) h e = line_begins f.base f.parts (lines_notes text file before l) (fields_of text file.tags before l) h e

    pub struct_begins : (t : ℕ) (l : List Field) → HasField l → NoFault (fields_notes text file t before l) → BeginsSized before.structs (fields_of text file.tags before l)
    struct_begins t l h e = lines_begin l h (no_fault_right (struct_size text file t before l) _ e)

  module _ (part : Before → Option CType → Part → Inside → Said) where
    pub all_begin : (before : Before) (l : List Item) → StructsLeft n text file.tags number before l → IsBefore n before → Every HasFields l → NoFault (items_notes text file part before l)
        → AllBegin before.structs (structs_in text file.tags before l)
    all_begin before [] e h k i = tt
    all_begin before (item.Alias tag name ∷ l) e h k i = let a = item.Alias tag name in
        all_begin (after_item text file.tags before a) l (left n text file.tags number before a l e) (behind n text file.tags number before a l e h) k.1 (no_fault_right (item_notes text file part before a) _ i)
    all_begin before (item.Struct (struct.Tagged tag fields) ∷ l) e h k i = let a = item.Struct (struct.Tagged tag fields) in let own = no_fault_left (item_notes text file part before a) _ i in (
      struct_begins before h tag fields k.0 (no_fault_right (tag_notes text file before (Some tag)) _ own),
      all_begin (after_item text file.tags before a) l (left n text file.tags number before a l e) (behind n text file.tags number before a l e h) k.1 (no_fault_right (item_notes text file part before a) _ i),
    )
    all_begin before (item.Struct (struct.Named tag fields name) ∷ l) e h k i = let a = item.Struct (struct.Named tag fields name) in let own = no_fault_left (item_notes text file part before a) _ i in (
      struct_begins before h (name_of_struct text file tag name) fields k.0 (no_fault_left (fields_notes text file (name_of_struct text file tag name) before fields) _ (no_fault_right (tag_notes text file before tag) _ own)),
      all_begin (after_item text file.tags before a) l (left n text file.tags number before a l e) (behind n text file.tags number before a l e h) k.1 (no_fault_right (item_notes text file part before a) _ i),
    )
    all_begin before (item.Globals b parts ∷ l) e h k i = let a = item.Globals b parts in
        subst (λ j. AllBegin j (structs_in text file.tags (after_item text file.tags before a) l)) (same_structs n text file.tags number before b parts)
        (all_begin (after_item text file.tags before a) l (left n text file.tags number before a l e) (behind n text file.tags number before a l e h) k.1 (no_fault_right (item_notes text file part before a) _ i))
    all_begin before (item.Func f ∷ l) e h k i = let a = item.Func f in
        all_begin (after_item text file.tags before a) l (left n text file.tags number before a l e) (behind n text file.tags number before a l e h) k.1 (no_fault_right (item_notes text file part before a) _ i)
    all_begin before (item.Prototype r name params ∷ l) e h k i = let a = item.Prototype r name params in
        all_begin (after_item text file.tags before a) l (left n text file.tags number before a l e) (behind n text file.tags number before a l e h) k.1 (no_fault_right (item_notes text file part before a) _ i)
