-- What is said of structs: a fault among notes, the fields of a line from an index on, and a definition with a typedef's name.
use Rattle.std.proofs.Common.{◌≡◌, ◌∙◌, sym, ap, ℕ, ◌+◌, ◌<◌, Bool, true, false, ◌||◌, List, [], ◌∷◌, ◌++◌, map, drop, length, get_or, append_assoc, Option, OnOk, Result, Ok, Err}
use Rattle.cc_model.specs.declared.trees.Base.{Base}
use Rattle.cc_model.specs.declared.trees.Declarator.{Declarator}
use Rattle.cc_model.specs.declared.trees.Field.{Field}
use Rattle.cc_model.specs.declared.trees.StructDef.{StructDef}
use Rattle.cc_model.specs.declared.trees.StructDef.TheVariants as struct
use Rattle.cc_model.specs.declared.trees.Item.TheVariants as item
use Rattle.cc_model.specs.declared.typing.Note.{Note}
use Rattle.cc_model.specs.declared.typing.File.{File}
use Rattle.cc_model.specs.declared.typing.Before.{Before}
use Rattle.cc_model.specs.declared.typing.Member.{Member}
use Rattle.cc_model.specs.Scopes.{Text, is_taken, declared_type, field_of}
use Rattle.cc_model.specs.Faults.{twice_if, part_of, field_notes, line_notes, is_fault, has_fault, fields_notes, tag_notes, name_of_struct, item_notes}
use Rattle.c_scopes.proofs.ListLemmas.{from_item}

pub fault_here : (text : ℕ → Text) (file : File) (l : List Note) (k : ℕ) (x : Note) (r : Bool) → k < length l → x ≡ get_or l k x → true ≡ is_fault text file x → has_fault text file (drop k l) ≡ r → true ≡ r
fault_here text file l k x r h e w i = sym (ap (has_fault text file) (from_item l k x h e) ∙ ap (λ b. b || has_fault text file (drop (k + 1) l)) (sym w)) ∙ i

pub no_fault_here : (text : ℕ → Text) (file : File) (l : List Note) (k : ℕ) (x : Note) (r : Bool) → k < length l → x ≡ get_or l k x → false ≡ is_fault text file x → has_fault text file (drop k l) ≡ r
    → has_fault text file (drop (k + 1) l) ≡ r
no_fault_here text file l k x r h e w i = sym (ap (has_fault text file) (from_item l k x h e) ∙ ap (λ b. b || has_fault text file (drop (k + 1) l)) (sym w)) ∙ i

-- one more field of a line
pub line_more : (text : ℕ → Text) (file : File) (before : Before) (b : Base) (l : List Declarator) (k : ℕ) (d : Declarator) (earlier after : List Member) (n m r : List Note) (rest : List Member → List Note) → k < length l → d ≡ get_or l k d
    → m ≡ n ++ field_notes text file before earlier b d (declared_type text file.tags before b d) → after ≡ earlier ++ field_of text file.tags before b d ∷ []
    → n ++ line_notes text file before earlier b (drop k l) rest ≡ r → m ++ line_notes text file before after b (drop (k + 1) l) rest ≡ r
line_more text file before b l k d earlier after n m r rest h e f g i =
    ap (λ (y : List Note). y ++ line_notes text file before after b (drop (k + 1) l) rest) f
    ∙ ap (λ (y : List Member). (n ++ field_notes text file before earlier b d (declared_type text file.tags before b d)) ++ line_notes text file before y b (drop (k + 1) l) rest) g
    ∙ append_assoc n (field_notes text file before earlier b d (declared_type text file.tags before b d)) (line_notes text file before (earlier ++ field_of text file.tags before b d ∷ []) b (drop (k + 1) l) rest)
    ∙ ap (λ (y : List Declarator). n ++ line_notes text file before earlier b y rest) (sym (from_item l k d h e)) ∙ i

pub members_more : {X Y : Type 0} (f : X → Y) (l : List X) (k : ℕ) (x : X) (before after r : List Y) → k < length l → x ≡ get_or l k x → after ≡ before ++ f x ∷ [] → before ++ map f (drop k l) ≡ r
    → after ++ map f (drop (k + 1) l) ≡ r
members_more f l k x before after r h e g i =
    ap (λ y. y ++ map f (drop (k + 1) l)) g ∙ append_assoc before (f x ∷ []) (map f (drop (k + 1) l)) ∙ ap (λ y. before ++ map f y) (sym (from_item l k x h e)) ∙ i

regroup : (n a b c : List Note) → ((n ++ a) ++ b) ++ c ≡ n ++ (a ++ (b ++ c))
regroup n a b c = simp append_assoc

-- a struct with a typedef's name
pub named_struct : {E : Type 0} (o : Result (Unit {0}) E) (text : ℕ → Text) (file : File) (before : Before) (d : StructDef) (tag : Option ℕ) (lines seen : List Field) (name place : ℕ) (taken : Bool) (n m k after : List Note)
    → d ≡ struct.Named tag lines name → seen ≡ lines → place ≡ name_of_struct text file tag name → taken ≡ is_taken before (text name)
    → m ≡ n ++ tag_notes text file before tag → k ≡ m ++ fields_notes text file place before seen → OnOk o (after ≡ k ++ twice_if taken name)
    → OnOk o (after ≡ n ++ item_notes text file (part_of text file) before (item.Struct d))
named_struct (Err x) text file before d tag lines seen name place taken n m k after i j a t p q h = tt
named_struct (Ok x) text file before d tag lines seen name place taken n m k after i j a t p q h =
    h ∙ ap (λ y. k ++ twice_if y name) t ∙ ap (λ (y : List Note). y ++ twice_if (is_taken before (text name)) name) (q ∙ ap (λ (y : List Note). y ++ fields_notes text file place before seen) p)
    ∙ regroup n (tag_notes text file before tag) (fields_notes text file place before seen) (twice_if (is_taken before (text name)) name)
    ∙ ap (λ y. n ++ (tag_notes text file before tag ++ (fields_notes text file y before seen ++ twice_if (is_taken before (text name)) name))) a
    ∙ ap (λ (y : List Field). n ++ (tag_notes text file before tag ++ (fields_notes text file (name_of_struct text file tag name) before y ++ twice_if (is_taken before (text name)) name))) j
    ∙ ap (λ y. n ++ item_notes text file (part_of text file) before (item.Struct y)) (sym i)
