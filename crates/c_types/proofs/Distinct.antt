-- The functions of a file: each stands there once, by its name, and each that has a body is among them.
use Rattle.std.proofs.Common.{◌≡◌, ◌∙◌, sym, ap, refl, subst, arith, ℕ, zero, suc, ◌+◌, Bool, true, false, not, cond, nat_lt, List, [], ◌∷◌, ◌++◌, length, if◌then◌else◌}
use Rattle.std.specs.Prelude.{Option, Some, None, is_some, find, bytes_eq}
use Rattle.std.specs.List.{slice_get, position_or_len}
use Rattle.std.proofs.lemmas.Slice.Eq.{bytes_eq-Decides}
use Rattle.std.proofs.lemmas.Bool.Decides.{nat_tests}
use Rattle.cc_model.specs.declared.trees.Base.{Base}
use Rattle.cc_model.specs.declared.trees.GlobalPart.{GlobalPart}
use Rattle.cc_model.specs.declared.trees.StructDef.TheVariants as struct
use Rattle.cc_model.specs.declared.trees.Item.{Item}
use Rattle.cc_model.specs.declared.trees.Item.TheVariants as item
use Rattle.cc_model.specs.declared.typing.Before.{Before}
use Rattle.cc_model.specs.declared.typing.Function.{Function}
use Rattle.cc_model.specs.Scopes.{Text, nothing_before, has_name, function_in, tags_of, result_type, func_params, proto_params, after_global, after_globals, after_item, after_items, functions_in, file_of}

-- ---- among names

same_name : (x : Text) → bytes_eq x x ≡ true
same_name x = (bytes_eq-Decides x x).1 refl

some_if : (b : Bool) (t : Text) → is_some (cond b (Some t) None) ≡ b
some_if true t = refl
some_if false t = refl

by_head : (b e : Bool) (y : Text) (o p : Option Text) → is_some o ≡ cond (is_some p) true e → is_some (cond b (Some y) o) ≡ cond (is_some (cond b (Some y) p)) true e
by_head true e y o p h = refl
by_head false e y o p h = h

has_more : (x t : Text) (l : List Text) → has_name x (l ++ t ∷ []) ≡ cond (has_name x l) true (bytes_eq x t)
has_more x t [] = some_if (bytes_eq x t) t
has_more x t (y ∷ l) = by_head (bytes_eq x y) (bytes_eq x t) y (find (bytes_eq x) (l ++ t ∷ [])) (find (bytes_eq x) l) (has_more x t l)

neither : (h e : Bool) → cond h true e ≡ false → (h ≡ false) × (e ≡ false)
neither true e p = cc
neither false e p = (refl, p)

none_of_both : (h e : Bool) → h ≡ false → e ≡ false → cond h true e ≡ false
none_of_both true e p q = cc
none_of_both false e p q = q

not_more : (x t : Text) (l : List Text) → has_name x (l ++ t ∷ []) ≡ false → (has_name x l ≡ false) × (bytes_eq x t ≡ false)
not_more x t l e = neither (has_name x l) (bytes_eq x t) (sym (has_more x t l) ∙ e)

still_not : (x t : Text) (l : List Text) → has_name x l ≡ false → bytes_eq x t ≡ false → has_name x (l ++ t ∷ []) ≡ false
still_not x t l p q = has_more x t l ∙ none_of_both (has_name x l) (bytes_eq x t) p q

-- a name of the first list is one of the second
abbrev Within : List Text → List Text → Type 0
Within few many = (x : Text) → has_name x many ≡ false → has_name x few ≡ false

one_more : (few many : List Text) (t : Text) → Within few many → Within (few ++ t ∷ []) (many ++ t ∷ [])
one_more few many t h = λ x e. still_not x t few (h x (not_more x t many e).0) (not_more x t many e).1

-- ---- functions that are named neither before nor twice

abbrev Fresh : List Text → List Function → Type 0
Fresh names [] = Unit {0}
Fresh names (f ∷ l) = (has_name f.name names ≡ false) × Fresh (names ++ f.name ∷ []) l

fewer : (few many : List Text) (l : List Function) → Within few many → Fresh many l → Fresh few l
fewer few many [] h k = tt
fewer few many (f ∷ l) h k = (h f.name k.0, fewer (few ++ f.name ∷ []) (many ++ f.name ∷ []) l (one_more few many f.name h) k.1)

first_fresh : (c : Bool) (names : List Text) (f : Function) (l : List Function) → has_name f.name names ≡ c → Fresh (names ++ f.name ∷ []) l → Fresh names (if c then l else (f ∷ l))
first_fresh true names f l e h = fewer names (names ++ f.name ∷ []) l (λ x i. (not_more x f.name names i).0) h
first_fresh false names f l e h = (e, h)

place_if : (b : Bool) (k n : ℕ) → cond b (Some k) None ≡ Some n → (b ≡ true) × (n ≡ k)
place_if true k n e = (refl, cc)
place_if false k n e = cc

here_place : (b : Bool) (k m : ℕ) → b ≡ true → cond (nat_lt (cond (not b) (1 + k) 0) (suc m)) (Some (cond (not b) (1 + k) 0)) None ≡ Some 0
here_place true k m e = (let t : nat_lt 0 (suc m) ≡ true = grind (arith, nat_tests) in ap (λ c. cond c (Some 0) None) t)
here_place false k m e = cc

next_place : (k m n : ℕ) → cond (nat_lt k m) (Some k) None ≡ Some n → cond (nat_lt (1 + k) (suc m)) (Some (1 + k)) None ≡ Some (suc n)
next_place k m n e =
    let w = place_if (nat_lt k m) k n e in
    let h : nat_lt k m ≡ true = w.0 in
    let t : nat_lt (1 + k) (suc m) ≡ true = grind (arith, nat_tests) in
    let s : 1 + k ≡ suc n = omega (arith, w.1) in
    ap (λ c. cond c (Some (1 + k)) None) t ∙ ap (λ (i : ℕ). Some i) s

later_place : (b : Bool) (k m n : ℕ) → b ≡ false → cond (nat_lt k m) (Some k) None ≡ Some n → cond (nat_lt (cond (not b) (1 + k) 0) (suc m)) (Some (cond (not b) (1 + k) 0)) None ≡ Some (suc n)
later_place true k m n e h = cc
later_place false k m n e h = next_place k m n h

pub function_here : (name : Text) (f : Function) (l : List Function) → bytes_eq name f.name ≡ true → function_in name (f ∷ l) ≡ Some 0
function_here name f l e = here_place (bytes_eq name f.name) (position_or_len (λ (g : Function). bytes_eq name g.name) l) (length l) e

pub function_later : (name : Text) (f : Function) (l : List Function) (n : ℕ) → bytes_eq name f.name ≡ false → function_in name l ≡ Some n → function_in name (f ∷ l) ≡ Some (suc n)
function_later name f l n e h = later_place (bytes_eq name f.name) (position_or_len (λ (g : Function). bytes_eq name g.name) l) (length l) n e h

the_one : (f g : Function) (l : List Function) → Some g ≡ Some f → function_in f.name (g ∷ l) ≡ Some 0
the_one f g l e =
    let d : g ≡ f = cc in
    function_here f.name g l (ap (λ (h : Function). bytes_eq f.name h.name) d ∙ same_name f.name)

by_number : (names : List Text) (l : List Function) (n : ℕ) (f : Function) → Fresh names l → slice_get l n ≡ Some f → (has_name f.name names ≡ false) × (function_in f.name l ≡ Some n)
by_number names [] n f h e = cc
by_number names (g ∷ l) zero f h e =
    let d : g ≡ f = cc in
    (ap (λ (k : Function). has_name k.name names) (sym d) ∙ h.0, the_one f g l e)
by_number names (g ∷ l) (suc n) f h e =
    let i = by_number (names ++ g.name ∷ []) l n f h.1 e in
    let p = not_more f.name g.name names i.0 in
    (p.0, function_later f.name g l n p.1 i.1)

-- ---- the functions of a file

module _ (text : ℕ → Text) (tags : List (Option Text)) where
  globals_functions : (b : Before) (base : Base) (parts : List GlobalPart) → (after_globals text tags b base parts).functions ≡ b.functions
  globals_functions b base [] = refl
  globals_functions b base (p ∷ l) = globals_functions (after_global text tags b base p) base l

  globals_bodies : (b : Before) (base : Base) (parts : List GlobalPart) → (after_globals text tags b base parts).bodies ≡ b.bodies
  globals_bodies b base [] = refl
  globals_bodies b base (p ∷ l) = globals_bodies (after_global text tags b base p) base l

  all_fresh : (b : Before) (items : List Item) → Fresh b.functions (functions_in text tags b items)
  all_fresh b [] = tt
  all_fresh b (item.Func f ∷ l) = first_fresh (has_name (text f.name) b.functions) b.functions
      (record { name = text f.name; result = result_type text tags b f.result; params = func_params text tags b f.params })
      (functions_in text tags (after_item text tags b (item.Func f)) l) refl (all_fresh (after_item text tags b (item.Func f)) l)
  all_fresh b (item.Prototype result name params ∷ l) = first_fresh (has_name (text name) b.functions) b.functions
      (record { name = text name; result = result_type text tags b result; params = proto_params text tags b params })
      (functions_in text tags (after_item text tags b (item.Prototype result name params)) l) refl (all_fresh (after_item text tags b (item.Prototype result name params)) l)
  all_fresh b (item.Alias tag name ∷ l) = all_fresh (after_item text tags b (item.Alias tag name)) l
  all_fresh b (item.Struct (struct.Tagged tag fields) ∷ l) = all_fresh (after_item text tags b (item.Struct (struct.Tagged tag fields))) l
  all_fresh b (item.Struct (struct.Named tag fields name) ∷ l) = all_fresh (after_item text tags b (item.Struct (struct.Named tag fields name))) l
  all_fresh b (item.Globals base parts ∷ l) =
      let P : List Text → Type 0 = λ names. Fresh names (functions_in text tags (after_globals text tags b base parts) l) in
      subst P (globals_functions b base parts) (all_fresh (after_globals text tags b base parts) l)

  -- the function of that name has a number
  abbrev Numbered : Text → List Function → Type 0
  Numbered name l = (n : ℕ) × (function_in name l ≡ Some n)

  first_numbered : (c e : Bool) (name : Text) (names : List Text) (f : Function) (l : List Function) → has_name f.name names ≡ c → bytes_eq name f.name ≡ e → has_name name names ≡ false →
      (bytes_eq name f.name ≡ false → Numbered name l) → Numbered name (if c then l else (f ∷ l))
  first_numbered true true name names f l p q r h =
      let d : has_name name names ≡ true = ap (λ x. has_name x names) ((bytes_eq-Decides name f.name).0 q) ∙ p in
      absurd (cc)
  first_numbered true false name names f l p q r h = h q
  first_numbered false true name names f l p q r h = (0, function_here name f l q)
  first_numbered false false name names f l p q r h = (suc (h q).0, function_later name f l (h q).0 q (h q).1)

  numbered : (b : Before) (items : List Item) (name : Text) → has_name name b.functions ≡ false → has_name name b.bodies ≡ false →
      has_name name (after_items text tags b items).bodies ≡ true → Numbered name (functions_in text tags b items)
  numbered b [] name p q h = cc
  numbered b (item.Func f ∷ l) name p q h = first_numbered (has_name (text f.name) b.functions) (bytes_eq name (text f.name)) name b.functions
      (record { name = text f.name; result = result_type text tags b f.result; params = func_params text tags b f.params })
      (functions_in text tags (after_item text tags b (item.Func f)) l) refl refl p
      (λ e. numbered (after_item text tags b (item.Func f)) l name (still_not name (text f.name) b.functions p e) (still_not name (text f.name) b.bodies q e) h)
  numbered b (item.Prototype result function params ∷ l) name p q h = first_numbered (has_name (text function) b.functions) (bytes_eq name (text function)) name b.functions
      (record { name = text function; result = result_type text tags b result; params = proto_params text tags b params })
      (functions_in text tags (after_item text tags b (item.Prototype result function params)) l) refl refl p
      (λ e. numbered (after_item text tags b (item.Prototype result function params)) l name (still_not name (text function) b.functions p e) q h)
  numbered b (item.Alias tag alias ∷ l) name p q h = numbered (after_item text tags b (item.Alias tag alias)) l name p q h
  numbered b (item.Struct (struct.Tagged tag fields) ∷ l) name p q h = numbered (after_item text tags b (item.Struct (struct.Tagged tag fields))) l name p q h
  numbered b (item.Struct (struct.Named tag fields alias) ∷ l) name p q h = numbered (after_item text tags b (item.Struct (struct.Named tag fields alias))) l name p q h
  numbered b (item.Globals base parts ∷ l) name p q h = numbered (after_globals text tags b base parts) l name
      (ap (has_name name) (globals_functions b base parts) ∙ p) (ap (has_name name) (globals_bodies b base parts) ∙ q) h

-- a function of the file is found by its own name
pub distinct : (text : ℕ → Text) (items : List Item) (n : ℕ) (f : Function) → slice_get (file_of text items).functions n ≡ Some f → function_in f.name (file_of text items).functions ≡ Some n
distinct text items n f e = (by_number [] (functions_in text (tags_of text items) nothing_before items) n f (all_fresh text (tags_of text items) nothing_before items) e).1

-- each name with a body is that of a function of the file
pub with_number : (text : ℕ → Text) (items : List Item) (name : Text) → has_name name (file_of text items).bodies ≡ true → (n : ℕ) × (function_in name (file_of text items).functions ≡ Some n)
with_number text items name h = numbered text (tags_of text items) nothing_before items name refl refl h
