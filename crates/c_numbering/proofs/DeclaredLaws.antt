-- What is declared in a file: the types of fields, globals and locals are those of its notes, and where nothing is wrong, each function's result is known.
use Rattle.std.proofs.Common.{◌≡◌, ◌∙◌, sym, ap, refl, subst, ℕ, ◌⊎◌, inl, inr, Bool, true, false, List, [], ◌∷◌, ◌++◌, map, is_some, option_map, bytes_eq, Option, Some, None, if◌then◌else◌}
use Rattle.cc_base.specs.Paths.{In}
use Rattle.cc_model.specs.declared.trees.Base.{Base}
use Rattle.cc_model.specs.declared.trees.Base.TheVariants as base
use Rattle.cc_model.specs.declared.trees.ResultType.{ResultType}
use Rattle.cc_model.specs.declared.trees.ResultType.TheVariants as returned
use Rattle.cc_model.specs.declared.trees.Declarator.{Declarator}
use Rattle.cc_model.specs.declared.trees.Field as source_field
use Rattle.cc_model.specs.declared.trees.StructDef.TheVariants as struct
use Rattle.cc_model.specs.declared.trees.GlobalPart.{GlobalPart}
use Rattle.cc_model.specs.declared.trees.Part.{Part}
use Rattle.cc_model.specs.declared.trees.Item.{Item}
use Rattle.cc_model.specs.declared.trees.Item.TheVariants as item
use Rattle.cc_model.specs.declared.typing.BaseType.{BaseType}
use Rattle.cc_model.specs.declared.typing.CType.{CType}
use Rattle.cc_model.specs.declared.typing.Member.{Member}
use Rattle.cc_model.specs.declared.typing.Variable.{Variable}
use Rattle.cc_model.specs.declared.typing.Function.{Function}
use Rattle.cc_model.specs.declared.typing.Before.{Before}
use Rattle.cc_model.specs.declared.typing.File.{File}
use Rattle.cc_model.specs.declared.typing.Note.{Note}
use Rattle.cc_model.specs.declared.typing.Note.TheVariants as note
use Rattle.cc_model.specs.Scopes.{Text, nothing_before, has_name, base_named, with_parts, declared_type, result_type, field_of, fields_of, global_of, after_global, after_globals, after_item, after_items, structs_in, functions_in, if_first, file_of}
use Rattle.cc_model.specs.Typing.{unknown_if_none}
use Rattle.cc_model.specs.Faults.{Inside, Said, length_notes, declares_if, base_of_result, function_notes, function_of, prototype_of, field_notes, line_notes, lines_notes, struct_size, fields_notes, tag_notes, name_of_struct, global_notes, globals_notes, item_notes, items_notes, part_of, notes_in, faults_among, sites_fault, WellTyped}
use Rattle.cc_model.specs.CheckedProgram.{declared_types, known, slots_in, globals_in}
use Rattle.c_numbering.specs.Table.{Asked}
use Rattle.c_numbering.specs.Layouts.{FieldsAsked}
use Rattle.c_numbering.specs.Sigs.{SlotsAsked}
use Rattle.c_numbering.proofs.DenotesLemmas.{in_left, in_right}
use Rattle.c_numbering.proofs.SigLemmas.{declared_more}
use Rattle.c_numbering.proofs.CheckedLaws.{either_of, known_in, wanted, asked_declaration, locals_of}

-- ---- notes that declare a type

declared_left : (t : CType) (k l : List Note) → In t (declared_types k) → In t (declared_types (k ++ l))
declared_left t k l h = subst (In t) (sym (declared_more k l)) (in_left t (declared_types k) (declared_types l) h)

declared_right : (t : CType) (k l : List Note) → In t (declared_types l) → In t (declared_types (k ++ l))
declared_right t k l h = subst (In t) (sym (declared_more k l)) (in_right t (declared_types k) (declared_types l) h)

declared_here : (sizes : List ℕ) (at : ℕ) (o : Option CType) (t : CType) → o ≡ Some t → In t (declared_types (declares_if sizes at o))
declared_here sizes at o t e = subst (λ z. In t (declared_types (declares_if sizes at z))) (sym e) (inl refl)

module _ (text : ℕ → Text) (file : File) where
  -- ---- fields

  module _ (before : Before) where
    field_has : (earlier : List Member) (b : Base) (d : Declarator) (t : CType) → declared_type text file.tags before b d ≡ Some t → In t (declared_types (field_notes text file before earlier b d (declared_type text file.tags before b d)))
    field_has earlier b d t e =
        declared_right t (unknown_if_none (declared_type text file.tags before b d) b) _ (declared_right t (length_notes d.lengths) _ (declared_left t (declares_if file.sizes d.name (declared_type text file.tags before b d)) _ (declared_here file.sizes d.name (declared_type text file.tags before b d) t e)))

    line_has : (earlier : List Member) (b : Base) (parts : List Declarator) (rest : List Member → List Note) (m : Member) (t : CType) → In m (map (field_of text file.tags before b) parts) → m.ty ≡ Some t → In t (declared_types (line_notes text file before earlier b parts rest))
    line_has earlier b [] rest m t i e = absurd i
    line_has earlier b (d ∷ l) rest m t (inl p) e = declared_left t (field_notes text file before earlier b d (declared_type text file.tags before b d)) _ (field_has earlier b d t (sym (ap (λ (z : Member). z.ty) p) ∙ e))
    line_has earlier b (d ∷ l) rest m t (inr i) e = declared_right t (field_notes text file before earlier b d (declared_type text file.tags before b d)) _ (line_has (earlier ++ field_of text file.tags before b d ∷ []) b l rest m t i e)

    line_rest : (earlier : List Member) (b : Base) (parts : List Declarator) (rest : List Member → List Note) (t : CType) → ((r : List Member) → In t (declared_types (rest r))) → In t (declared_types (line_notes text file before earlier b parts rest))
    line_rest earlier b [] rest t h = h earlier
    line_rest earlier b (d ∷ l) rest t h = declared_right t (field_notes text file before earlier b d (declared_type text file.tags before b d)) _ (line_rest (earlier ++ field_of text file.tags before b d ∷ []) b l rest t h)

    line_or : (earlier : List Member) (f : source_field.Field) (l : List source_field.Field) (m : Member) (t : CType) → m.ty ≡ Some t → In m (map (field_of text file.tags before f.base) f.parts) ⊎ ((r : List Member) → In t (declared_types (lines_notes text file before l r)))
        → In t (declared_types (lines_notes text file before (f ∷ l) earlier))
    line_or earlier f l m t e (inl i) = line_has earlier f.base f.parts (lines_notes text file before l) m t i e
    line_or earlier f l m t e (inr h) = line_rest earlier f.base f.parts (lines_notes text file before l) t h

    lines_have : (lines : List source_field.Field) (earlier : List Member) (m : Member) (t : CType) → In m (fields_of text file.tags before lines) → m.ty ≡ Some t → In t (declared_types (lines_notes text file before lines earlier))
    lines_have [] earlier m t i e = absurd i
    lines_have (f ∷ l) earlier m t i e = line_or earlier f l m t e (elim (either_of m (map (field_of text file.tags before f.base) f.parts) (fields_of text file.tags before l) i) [ inl j ↦ inl j | inr j ↦ inr (λ r. lines_have l r m t j e) ])

    fields_have : (at : ℕ) (lines : List source_field.Field) (m : Member) (t : CType) → In m (fields_of text file.tags before lines) → m.ty ≡ Some t → In t (declared_types (fields_notes text file at before lines))
    fields_have at lines m t i e = declared_right t (struct_size text file at before lines) _ (lines_have lines [] m t i e)

  module _ (part : Before → Option CType → Part → Inside → Said) where
    abbrev Noted : Before → List Item → CType → Type 0
    Noted before items t = In t (declared_types (items_notes text file part before items))

    later : (before : Before) (i : Item) (l : List Item) (t : CType) → Noted (after_item text file.tags before i) l t → Noted before (i ∷ l) t
    later before i l t h = declared_right t (item_notes text file part before i) _ h

    member_noted : (before : Before) (items : List Item) (s : List Member) (m : Member) (t : CType) → In s (structs_in text file.tags before items) → In m s → m.ty ≡ Some t → Noted before items t
    member_noted before [] s m t i j e = absurd i
    member_noted before (item.Struct (struct.Tagged tag fields) ∷ l) s m t (inl p) j e =
        declared_left t (item_notes text file part before (item.Struct (struct.Tagged tag fields))) _ (declared_right t (tag_notes text file before (Some tag)) _ (fields_have before tag fields m t (subst (In m) p j) e))
    member_noted before (item.Struct (struct.Tagged tag fields) ∷ l) s m t (inr i) j e = let a = item.Struct (struct.Tagged tag fields) in later before a l t (member_noted (after_item text file.tags before a) l s m t i j e)
    member_noted before (item.Struct (struct.Named tag fields name) ∷ l) s m t (inl p) j e =
        declared_left t (item_notes text file part before (item.Struct (struct.Named tag fields name))) _
        (declared_right t (tag_notes text file before tag) _ (declared_left t (fields_notes text file (name_of_struct text file tag name) before fields) _ (fields_have before (name_of_struct text file tag name) fields m t (subst (In m) p j) e)))
    member_noted before (item.Struct (struct.Named tag fields name) ∷ l) s m t (inr i) j e = let a = item.Struct (struct.Named tag fields name) in later before a l t (member_noted (after_item text file.tags before a) l s m t i j e)
    member_noted before (item.Alias tag name ∷ l) s m t i j e = let a = item.Alias tag name in later before a l t (member_noted (after_item text file.tags before a) l s m t i j e)
    member_noted before (item.Globals b parts ∷ l) s m t i j e = let a = item.Globals b parts in later before a l t (member_noted (after_item text file.tags before a) l s m t i j e)
    member_noted before (item.Func f ∷ l) s m t i j e = let a = item.Func f in later before a l t (member_noted (after_item text file.tags before a) l s m t i j e)
    member_noted before (item.Prototype r name params ∷ l) s m t i j e = let a = item.Prototype r name params in later before a l t (member_noted (after_item text file.tags before a) l s m t i j e)

  -- ---- globals

  global_has : (before : Before) (b : Base) (p : GlobalPart) (t : CType) → (global_of text file.tags before b p).ty ≡ Some t → In t (declared_types (global_notes text file before b p (global_of text file.tags before b p)))
  global_has before b p t e = let o = declared_type text file.tags before b p.declarator in
      declared_right t (unknown_if_none o b) _ (declared_right t (length_notes (p.declarator).lengths) _ (declared_left t (declares_if file.sizes (p.declarator).name o) _ (declared_here file.sizes (p.declarator).name o t e)))

  global_or : (before : Before) (b : Base) (p : GlobalPart) (l : List GlobalPart) (v : Variable) (t : CType) → v.ty ≡ Some t
      → In v (before.globals ++ global_of text file.tags before b p ∷ []) ⊎ In t (declared_types (globals_notes text file (after_global text file.tags before b p) b l))
      → In v before.globals ⊎ In t (declared_types (globals_notes text file before b (p ∷ l)))
  global_or before b p l v t e (inr h) = inr (declared_right t (global_notes text file before b p (global_of text file.tags before b p)) _ h)
  global_or before b p l v t e (inl i) = elim (either_of v before.globals (global_of text file.tags before b p ∷ []) i) [
    | inl j ↦ inl j
    | inr j ↦ elim j [ inl q ↦ inr (declared_left t (global_notes text file before b p (global_of text file.tags before b p)) _ (global_has before b p t (sym (ap (λ (z : Variable). z.ty) q) ∙ e))) | inr z ↦ absurd z ]
  ]

  globals_have : (before : Before) (b : Base) (parts : List GlobalPart) (v : Variable) (t : CType) → v.ty ≡ Some t → In v (after_globals text file.tags before b parts).globals → In v before.globals ⊎ In t (declared_types (globals_notes text file before b parts))
  globals_have before b [] v t e i = inl i
  globals_have before b (p ∷ l) v t e i = global_or before b p l v t e (globals_have (after_global text file.tags before b p) b l v t e i)

  module _ (part : Before → Option CType → Part → Inside → Said) where
    abbrev IsNoted : Before → List Item → Variable → CType → Type 0
    IsNoted before items v t = In v before.globals ⊎ Noted part before items t

    beside : (before : Before) (i : Item) (l : List Item) (v : Variable) (t : CType) → (In v (after_item text file.tags before i).globals → In v before.globals ⊎ In t (declared_types (item_notes text file part before i)))
        → IsNoted (after_item text file.tags before i) l v t → IsNoted before (i ∷ l) v t
    beside before i l v t f (inr h) = inr (later part before i l t h)
    beside before i l v t f (inl h) = elim (f h) [ inl j ↦ inl j | inr j ↦ inr (declared_left t (item_notes text file part before i) _ j) ]

    global_noted : (before : Before) (items : List Item) (v : Variable) (t : CType) → v.ty ≡ Some t → In v (after_items text file.tags before items).globals → IsNoted before items v t
    global_noted before [] v t e i = inl i
    global_noted before (item.Globals b parts ∷ l) v t e i = let a = item.Globals b parts in beside before a l v t (λ h. globals_have before b parts v t e h) (global_noted (after_item text file.tags before a) l v t e i)
    global_noted before (item.Struct (struct.Tagged tag fields) ∷ l) v t e i = let a = item.Struct (struct.Tagged tag fields) in beside before a l v t (λ h. inl h) (global_noted (after_item text file.tags before a) l v t e i)
    global_noted before (item.Struct (struct.Named tag fields name) ∷ l) v t e i = let a = item.Struct (struct.Named tag fields name) in beside before a l v t (λ h. inl h) (global_noted (after_item text file.tags before a) l v t e i)
    global_noted before (item.Alias tag name ∷ l) v t e i = let a = item.Alias tag name in beside before a l v t (λ h. inl h) (global_noted (after_item text file.tags before a) l v t e i)
    global_noted before (item.Func f ∷ l) v t e i = let a = item.Func f in beside before a l v t (λ h. inl h) (global_noted (after_item text file.tags before a) l v t e i)
    global_noted before (item.Prototype r name params ∷ l) v t e i = let a = item.Prototype r name params in beside before a l v t (λ h. inl h) (global_noted (after_item text file.tags before a) l v t e i)

  -- ---- locals

  in_if : (t : CType) (b : Bool) (k l : List CType) → In t (if b then k else l) → In t k ⊎ In t l
  in_if t true k l h = inl h
  in_if t false k l h = inr h

  slot_noted : (before : Before) (items : List Item) (name : Text) (t : CType) → In t (slots_in text file before name items) → Noted (part_of text file) before items t
  slot_noted before [] name t i = absurd i
  slot_noted before (item.Func f ∷ l) name t i = let a = item.Func f in elim (in_if t (bytes_eq (text f.name) name) _ (slots_in text file (after_item text file.tags before a) name l) i) [
    | inl j ↦ declared_left t (item_notes text file (part_of text file) before a) _ (declared_right t (function_notes text file before f.name f.result (function_of text file before f) (has_name (text f.name) before.bodies)) _ j)
    | inr j ↦ later (part_of text file) before a l t (slot_noted (after_item text file.tags before a) l name t j)
  ]
  slot_noted before (item.Struct s ∷ l) name t i = let a = item.Struct s in later (part_of text file) before a l t (slot_noted (after_item text file.tags before a) l name t i)
  slot_noted before (item.Alias tag n ∷ l) name t i = let a = item.Alias tag n in later (part_of text file) before a l t (slot_noted (after_item text file.tags before a) l name t i)
  slot_noted before (item.Globals b parts ∷ l) name t i = let a = item.Globals b parts in later (part_of text file) before a l t (slot_noted (after_item text file.tags before a) l name t i)
  slot_noted before (item.Prototype r n params ∷ l) name t i = let a = item.Prototype r n params in later (part_of text file) before a l t (slot_noted (after_item text file.tags before a) l name t i)

-- ---- what was asked for, in a file

module _ (text : ℕ → Text) (items : List Item) (expressions : List CType) where
  abbrev pub all_of_file : List CType
  all_of_file = wanted (notes_in text items) expressions (file_of text items).functions

  pub fields_asked : FieldsAsked all_of_file (file_of text items).structs
  fields_asked s f t i j e = asked_declaration (notes_in text items) expressions (file_of text items).functions t (member_noted text (file_of text items) (part_of text (file_of text items)) nothing_before items s f t i j e)

  global_in : (t : CType) (l : List Variable) → In (Some t) (map (λ (v : Variable). v.ty) l) → (v : Variable) × (In v l × (v.ty ≡ Some t))
  global_in t [] i = absurd i
  global_in t (v ∷ l) (inl e) = (v, (inl refl, sym e))
  global_in t (v ∷ l) (inr i) = let p = global_in t l i in (p.0, (inr p.1.0, p.1.1))

  pub globals_asked : (t : CType) → In t (known (map (λ (v : Variable). v.ty) (globals_in text items))) → Asked all_of_file t
  globals_asked t i = let p = global_in t (globals_in text items) (known_in t (map (λ (v : Variable). v.ty) (globals_in text items)) i) in
      asked_declaration (notes_in text items) expressions (file_of text items).functions t (elim (global_noted text (file_of text items) (part_of text (file_of text items)) nothing_before items p.0 t p.1.1 p.1.0) [ inl z ↦ absurd z | inr h ↦ h ])

  locals_from : (fs : List Function) (l : List CType) → In l (map (locals_of text items) fs) → (f : Function) × (l ≡ locals_of text items f)
  locals_from [] l i = absurd i
  locals_from (f ∷ fs) l (inl e) = (f, e)
  locals_from (f ∷ fs) l (inr i) = locals_from fs l i

  pub slots_asked : (fs : List Function) → SlotsAsked all_of_file (map (locals_of text items) fs)
  slots_asked fs l t i j = let p = locals_from fs l i in
      asked_declaration (notes_in text items) expressions (file_of text items).functions t (slot_noted text (file_of text items) nothing_before items (p.0).name t (subst (In t) p.1 j))

-- ---- results in a file where nothing is wrong

no_fault_left : (k l : List Note) → faults_among (k ++ l) ≡ [] → faults_among k ≡ []
no_fault_left [] l h = refl
no_fault_left (note.Fault w t ∷ k) l h = cc
no_fault_left (note.Means t what ∷ k) l h = no_fault_left k l h
no_fault_left (note.Typed t ty ∷ k) l h = no_fault_left k l h
no_fault_left (note.Null t ∷ k) l h = no_fault_left k l h
no_fault_left (note.Declares t ty ∷ k) l h = no_fault_left k l h

no_fault_right : (k l : List Note) → faults_among (k ++ l) ≡ [] → faults_among l ≡ []
no_fault_right [] l h = h
no_fault_right (note.Fault w t ∷ k) l h = cc
no_fault_right (note.Means t what ∷ k) l h = no_fault_right k l h
no_fault_right (note.Typed t ty ∷ k) l h = no_fault_right k l h
no_fault_right (note.Null t ∷ k) l h = no_fault_right k l h
no_fault_right (note.Declares t ty ∷ k) l h = no_fault_right k l h

module _ (text : ℕ → Text) (file : File) (part : Before → Option CType → Part → Inside → Said) where
  known_base : (before : Before) (b : Base) (stars : ℕ) (o : Option BaseType) → base_named text file.tags before b ≡ o → faults_among (unknown_if_none (option_map (with_parts text file.tags stars []) o) b) ≡ [] → is_some (option_map (with_parts text file.tags stars []) o) ≡ true
  known_base before b stars (Some x) e h = refl
  known_base before base.Int stars None e h = cc
  known_base before (base.Struct tag) stars None e h = cc
  known_base before (base.Alias name) stars None e h = cc

  known_result : (before : Before) (r : ResultType) → faults_among (base_of_result r (result_type text file.tags before r)) ≡ [] → is_some (result_type text file.tags before r) ≡ true
  known_result before returned.Void h = refl
  known_result before (returned.Value t) h = known_base before t.base t.stars (base_named text file.tags before t.base) refl h

  first_or : (before : Before) (f g : Function) (l : List Function) → In g (if_first text file.tags before f l) → (g ≡ f) ⊎ In g l
  first_or before f g l i = by (has_name f.name before.functions) i
    where
      by : (b : Bool) → In g (if b then l else f ∷ l) → (g ≡ f) ⊎ In g l
      by true i = inr i
      by false i = i

  name_known : (before : Before) (at : ℕ) (r : ResultType) (f g : Function) (again : Bool) (rest : List Note) → f.result ≡ result_type text file.tags before r → g ≡ f → faults_among (function_notes text file before at r f again ++ rest) ≡ [] → is_some g.result ≡ true
  name_known before at r f g again rest e q h =
      let own : faults_among (base_of_result r f.result) ≡ [] = no_fault_left (base_of_result r f.result) _ (no_fault_left (function_notes text file before at r f again) rest h) in
      ap (λ (z : Function). is_some z.result) q ∙ ap is_some e ∙ known_result before r (ap (λ z. faults_among (base_of_result r z)) (sym e) ∙ own)

  results_in : (before : Before) (items : List Item) (g : Function) → faults_among (items_notes text file part before items) ≡ [] → In g (functions_in text file.tags before items) → is_some g.result ≡ true
  results_in before [] g h i = absurd i
  results_in before (item.Func f ∷ l) g h i = let a = item.Func f in elim (first_or before (function_of text file before f) g (functions_in text file.tags (after_item text file.tags before a) l) i) [
    | inl e ↦ name_known before f.name f.result (function_of text file before f) g (has_name (text f.name) before.bodies) _ refl e (no_fault_left (item_notes text file part before a) _ h)
    | inr j ↦ results_in (after_item text file.tags before a) l g (no_fault_right (item_notes text file part before a) _ h) j
  ]
  results_in before (item.Prototype r name params ∷ l) g h i = let a = item.Prototype r name params in elim (first_or before (prototype_of text file before r name params) g (functions_in text file.tags (after_item text file.tags before a) l) i) [
    | inl e ↦ name_known before name r (prototype_of text file before r name params) g false _ refl e (no_fault_left (item_notes text file part before a) _ h)
    | inr j ↦ results_in (after_item text file.tags before a) l g (no_fault_right (item_notes text file part before a) _ h) j
  ]
  results_in before (item.Struct s ∷ l) g h i = let a = item.Struct s in results_in (after_item text file.tags before a) l g (no_fault_right (item_notes text file part before a) _ h) i
  results_in before (item.Alias tag n ∷ l) g h i = let a = item.Alias tag n in results_in (after_item text file.tags before a) l g (no_fault_right (item_notes text file part before a) _ h) i
  results_in before (item.Globals b parts ∷ l) g h i = let a = item.Globals b parts in results_in (after_item text file.tags before a) l g (no_fault_right (item_notes text file part before a) _ h) i

nothing_left : {A : Type 0} (k l : List A) → k ++ l ≡ [] → k ≡ []
nothing_left [] l h = refl
nothing_left (x ∷ k) l h = cc

pub results_known : (text : ℕ → Text) (items : List Item) → WellTyped text items → (f : Function) → In f (file_of text items).functions → is_some f.result ≡ true
results_known text items h f i = results_in text (file_of text items) (part_of text (file_of text items)) nothing_before items f (nothing_left (faults_among (notes_in text items)) (sites_fault items) h) i
