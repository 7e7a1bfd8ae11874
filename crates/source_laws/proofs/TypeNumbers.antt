-- Two lists of the same types: what number a type of the first has in the second.
use Rattle.std.proofs.Common.{◌≡◌, ℕ, zero, suc, ◌+◌, ◌<◌, ◌≤◌, ◌⊎◌, inl, inr, List, [], ◌∷◌, map, length, Some, slice_get, option_map, refl, sym, ap, ap₂, subst, ◌∙◌, arith}
use Rattle.std.proofs.lemmas.Option.{slice_get_within, slice_get_past}
use Rattle.cc_base.specs.declared.cells.TyId.{TyId}
use Rattle.cc_model.specs.declared.checked.Ty.{Ty}
use Rattle.cc_model.specs.declared.checked.Ty.TheVariants as ty
use Rattle.cc_model.specs.declared.typing.BaseType.{BaseType}
use Rattle.cc_model.specs.declared.typing.BaseType.TheVariants.{Int as int_base, Void as void_base, Struct as struct_base}
use Rattle.cc_model.specs.declared.typing.CType.{CType}
use Rattle.cc_model.specs.declared.typing.Function.{Function}
use Rattle.cc_model.specs.declared.typing.Note.{Note}
use Rattle.cc_model.specs.Types.{int_type, void_type, target_of, element_of}
use Rattle.cc_model.specs.CheckedProgram.{Denotes, int, void, struct, pointer, array, AllDenote, AreTypes}

abbrev plain : BaseType → ℕ → CType
plain b stars = record { base = b; stars = stars; lengths = [] }

abbrev array_of : ℕ → CType → CType
array_of size e = record { base = e.base; stars = e.stars; lengths = size ∷ e.lengths }

-- what an entry says of a type
abbrev Says : List Ty → Ty → CType → Type 0
Says tys ty.Int t = t ≡ int_type
Says tys ty.Void t = t ≡ void_type
Says tys (ty.Struct k) t = t ≡ plain (struct_base k) 0
Says tys (ty.Ptr m) t = (b : BaseType) × (stars : ℕ) × (t ≡ plain b (suc stars)) × Denotes tys m.0 (plain b stars)
Says tys (ty.Array m size) t = (e : CType) × (t ≡ array_of size e) × Denotes tys m.0 e

says : (tys : List Ty) (n : ℕ) (t : CType) → Denotes tys n t → (y : Ty) × (slice_get tys n ≡ Some y) × Says tys y t
says tys n t (int h) = (ty.Int, h, refl)
says tys n t (void h) = (ty.Void, h, refl)
says tys n t (struct k h) = (ty.Struct k, h, refl)
says tys n t (pointer m b stars h d) = (ty.Ptr m, h, (b, stars, refl, d))
says tys n t (array m size e h d) = (ty.Array m size, h, (e, refl, d))

same_some : {X : Type 0} (x y : X) → Some x ≡ Some y → x ≡ y
same_some x y h = cc h

says_at : (tys : List Ty) (n : ℕ) (y : Ty) (t : CType) → slice_get tys n ≡ Some y → Denotes tys n t → Says tys y t
says_at tys n y t h d = let p = says tys n t d in subst (λ z. Says tys z t) (same_some p.0 y (sym p.1 ∙ h)) p.2

pub denotes_within : (tys : List Ty) (n : ℕ) (t : CType) → Denotes tys n t → n < length tys
denotes_within tys n t d = let p = says tys n t d in slice_get_within tys n p.0 p.1

-- an entry denotes one type
one_type : (tys : List Ty) (n : ℕ) (s t : CType) → Denotes tys n s → Denotes tys n t → s ≡ t
one_type tys n s t (int h) e = sym (says_at tys n ty.Int t h e)
one_type tys n s t (void h) e = sym (says_at tys n ty.Void t h e)
one_type tys n s t (struct k h) e = sym (says_at tys n (ty.Struct k) t h e)
one_type tys n s t (pointer m b stars h d) e = let p = says_at tys n (ty.Ptr m) t h e in
    ap (λ u. plain u.base (suc u.stars)) (one_type tys m.0 (plain b stars) (plain p.0 p.1) d p.3) ∙ sym p.2
one_type tys n s t (array m size x h d) e = let p = says_at tys n (ty.Array m size) t h e in ap (array_of size) (one_type tys m.0 x p.0 d p.2) ∙ sym p.1

-- ---- the shape of an entry is that of its type

base_shape : BaseType → ℕ
base_shape int_base = 0
base_shape void_base = 1
base_shape (struct_base k) = 2

star_shape : ℕ → BaseType → ℕ
star_shape zero b = base_shape b
star_shape (suc n) b = 3

shape_in : List ℕ → ℕ → BaseType → ℕ
shape_in [] stars b = star_shape stars b
shape_in (n ∷ l) stars b = 4

abbrev shape_of : CType → ℕ
shape_of t = shape_in t.lengths t.stars t.base

abbrev tag_of : Ty → ℕ
tag_of ty.Int = 0
tag_of ty.Void = 1
tag_of (ty.Struct k) = 2
tag_of (ty.Ptr m) = 3
tag_of (ty.Array m n) = 4

shape_said : (tys : List Ty) (y : Ty) (t : CType) → Says tys y t → shape_of t ≡ tag_of y
unfolding base_shape star_shape shape_in
shape_said tys ty.Int t h = ap shape_of h
shape_said tys ty.Void t h = ap shape_of h
shape_said tys (ty.Struct k) t h = ap shape_of h
shape_said tys (ty.Ptr m) t h = ap shape_of h.2
shape_said tys (ty.Array m n) t h = ap shape_of h.1

number_in : BaseType → ℕ
number_in int_base = 0
number_in void_base = 0
number_in (struct_base k) = k

size_in : List ℕ → ℕ
size_in [] = 0
size_in (n ∷ l) = n

module _ (tys other : List Ty) (r : ℕ → ℕ) where
  abbrev pub renumber_id : TyId → TyId
  renumber_id i = record { 0 = r i.0 }

  abbrev pub renumber_entry : Ty → Ty
  renumber_entry ty.Int = ty.Int
  renumber_entry ty.Void = ty.Void
  renumber_entry (ty.Struct k) = ty.Struct k
  renumber_entry (ty.Ptr m) = ty.Ptr (renumber_id m)
  renumber_entry (ty.Array m n) = ty.Array (renumber_id m) n

  -- r tells the number of the same type, of which there is one
  module _ (moved : (n : ℕ) (t : CType) → Denotes tys n t → Denotes other (r n) t) (once : (m n : ℕ) (t : CType) → Denotes other m t → Denotes other n t → m ≡ n) where
    pub same_id : (i j : TyId) (t : CType) → Denotes tys i.0 t → Denotes other j.0 t → j ≡ renumber_id i
    same_id i j t d e = ap (λ n. record { 0 = n }) (once j.0 (r i.0) t e (moved i.0 t d))

    pub same_ids : (is js : List TyId) (ts : List CType) → AllDenote tys is ts → AllDenote other js ts → js ≡ map renumber_id is
    same_ids [] [] ts d e = refl
    same_ids (i ∷ is) (j ∷ js) (t ∷ ts) d e = ap₂ (λ x y. x ∷ y) (same_id i j t d.0 e.0) (same_ids is js ts d.1 e.1)
    same_ids [] (j ∷ js) [] d e = absurd e
    same_ids [] (j ∷ js) (t ∷ ts) d e = absurd d
    same_ids (i ∷ is) [] [] d e = absurd d
    same_ids (i ∷ is) [] (t ∷ ts) d e = absurd e
    same_ids (i ∷ is) (j ∷ js) [] d e = absurd d

    same_entry : (x y : Ty) (t : CType) → tag_of x ≡ tag_of y → Says tys x t → Says other y t → y ≡ renumber_entry x
    unfolding number_in size_in
    same_entry ty.Int ty.Int t g a b = refl
    same_entry ty.Void ty.Void t g a b = refl
    same_entry (ty.Struct k) (ty.Struct l) t g a b = ap ty.Struct (ap (λ u. number_in u.base) (sym b ∙ a))
    same_entry (ty.Ptr m) (ty.Ptr o) t g a b = ap ty.Ptr (same_id m o (target_of t) (subst (λ u. Denotes tys m.0 (target_of u)) (sym a.2) a.3) (subst (λ u. Denotes other o.0 (target_of u)) (sym b.2) b.3))
    same_entry (ty.Array m k) (ty.Array o l) t g a b = ap₂ ty.Array (same_id m o (element_of t) (subst (λ u. Denotes tys m.0 (element_of u)) (sym a.1) a.2) (subst (λ u. Denotes other o.0 (element_of u)) (sym b.1) b.2))
        (ap (λ u. size_in u.lengths) (sym b.1 ∙ a.1))
    same_entry ty.Int ty.Void t g a b = absurd (omega (arith, g))
    same_entry ty.Int (ty.Struct o1) t g a b = absurd (omega (arith, g))
    same_entry ty.Int (ty.Ptr o1) t g a b = absurd (omega (arith, g))
    same_entry ty.Int (ty.Array o1 o2) t g a b = absurd (omega (arith, g))
    same_entry ty.Void ty.Int t g a b = absurd (omega (arith, g))
    same_entry ty.Void (ty.Struct o1) t g a b = absurd (omega (arith, g))
    same_entry ty.Void (ty.Ptr o1) t g a b = absurd (omega (arith, g))
    same_entry ty.Void (ty.Array o1 o2) t g a b = absurd (omega (arith, g))
    same_entry (ty.Struct m1) ty.Int t g a b = absurd (omega (arith, g))
    same_entry (ty.Struct m1) ty.Void t g a b = absurd (omega (arith, g))
    same_entry (ty.Struct m1) (ty.Ptr o1) t g a b = absurd (omega (arith, g))
    same_entry (ty.Struct m1) (ty.Array o1 o2) t g a b = absurd (omega (arith, g))
    same_entry (ty.Ptr m1) ty.Int t g a b = absurd (omega (arith, g))
    same_entry (ty.Ptr m1) ty.Void t g a b = absurd (omega (arith, g))
    same_entry (ty.Ptr m1) (ty.Struct o1) t g a b = absurd (omega (arith, g))
    same_entry (ty.Ptr m1) (ty.Array o1 o2) t g a b = absurd (omega (arith, g))
    same_entry (ty.Array m1 m2) ty.Int t g a b = absurd (omega (arith, g))
    same_entry (ty.Array m1 m2) ty.Void t g a b = absurd (omega (arith, g))
    same_entry (ty.Array m1 m2) (ty.Struct o1) t g a b = absurd (omega (arith, g))
    same_entry (ty.Array m1 m2) (ty.Ptr o1) t g a b = absurd (omega (arith, g))

    entry_at : (n : ℕ) (t : CType) → Denotes tys n t → slice_get other (r n) ≡ option_map renumber_entry (slice_get tys n)
    entry_at n t d = let p = says tys n t d in let q = says other (r n) t (moved n t d) in
        q.1 ∙ ap (λ y. Some y) (same_entry p.0 q.0 t (sym (shape_said tys p.0 t p.2) ∙ shape_said other q.0 t q.2) p.2 q.2) ∙ sym (ap (option_map renumber_entry) p.1)

-- ---- the number, from what each list holds

within : (m n : ℕ) → (n < m) ⊎ (m ≤ n)
within m n = grind arith

module _ (notes : List Note) (expressions : List CType) (functions : List Function) (tys other : List Ty) (a : AreTypes notes expressions functions tys) (b : AreTypes notes expressions functions other) where
  -- of a number that is in no list: one behind the second list
  picked : (n : ℕ) → (n < length tys) ⊎ (length tys ≤ n) → ℕ
  picked n (inl h) = let t = a.only n h in (b.all t.0 (t.1).1).0
  picked n (inr h) = length other + n

  pub number_of : ℕ → ℕ
  number_of n = picked n (within (length tys) n)

  picked_moved : (n : ℕ) (w : (n < length tys) ⊎ (length tys ≤ n)) (t : CType) → Denotes tys n t → Denotes other (picked n w) t
  unfolding picked
  picked_moved n (inl h) t d = let s = a.only n h in subst (Denotes other (b.all s.0 (s.1).1).0) (one_type tys n s.0 t (s.1).0 d) (b.all s.0 (s.1).1).1
  picked_moved n (inr h) t d = let k = denotes_within tys n t d in absurd (omega (arith, h, k))

  pub moved : (n : ℕ) (t : CType) → Denotes tys n t → Denotes other (number_of n) t
  unfolding number_of
  moved n t d = picked_moved n (within (length tys) n) t d

  picked_past : (n : ℕ) (w : (n < length tys) ⊎ (length tys ≤ n)) → length tys ≤ n → picked n w ≡ length other + n
  unfolding picked
  picked_past n (inl h) k = absurd (omega (arith, h, k))
  picked_past n (inr h) k = refl

  pub past : (n : ℕ) → length tys ≤ n → length other ≤ number_of n
  unfolding number_of
  past n k = let e = picked_past n (within (length tys) n) k in omega (arith, e)

  picked_one : (m n : ℕ) (v : (m < length tys) ⊎ (length tys ≤ m)) (w : (n < length tys) ⊎ (length tys ≤ n)) → picked m v ≡ picked n w → m ≡ n
  unfolding picked
  picked_one m n (inl h) (inl k) e = let s = a.only m h in let t = a.only n k in let x = b.all s.0 (s.1).1 in let y = b.all t.0 (t.1).1 in
      a.once m n s.0 (s.1).0 (subst (Denotes tys n) (sym (one_type other x.0 s.0 t.0 x.1 (subst (λ j. Denotes other j t.0) (sym e) y.1))) (t.1).0)
  picked_one m n (inl h) (inr k) e = let s = a.only m h in let x = b.all s.0 (s.1).1 in let i = denotes_within other x.0 s.0 x.1 in absurd (omega (arith, i, e))
  picked_one m n (inr h) (inl k) e = let s = a.only n k in let x = b.all s.0 (s.1).1 in let i = denotes_within other x.0 s.0 x.1 in absurd (omega (arith, i, e))
  picked_one m n (inr h) (inr k) e = omega (arith, e)

  pub one_to_one : (m n : ℕ) → number_of m ≡ number_of n → m ≡ n
  unfolding number_of
  one_to_one m n e = picked_one m n (within (length tys) m) (within (length tys) n) e

  by_within : (n : ℕ) → (n < length tys) ⊎ (length tys ≤ n) → slice_get other (number_of n) ≡ option_map (renumber_entry tys other number_of) (slice_get tys n)
  by_within n (inl h) = let t = a.only n h in entry_at tys other number_of moved b.once n t.0 (t.1).0
  by_within n (inr h) = slice_get_past other (number_of n) (past n h) ∙ sym (ap (option_map (renumber_entry tys other number_of)) (slice_get_past tys n h))

  pub entry_same : (n : ℕ) → slice_get other (number_of n) ≡ option_map (renumber_entry tys other number_of) (slice_get tys n)
  entry_same n = by_within n (within (length tys) n)
