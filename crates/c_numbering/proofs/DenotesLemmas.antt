-- Types by their numbers: an entry and the type that it denotes.
use Rattle.std.proofs.Common.{◌≡◌, ◌∙◌, sym, ap, refl, subst, arith, ℕ, zero, suc, ◌+◌, ◌-◌, ◌<◌, ◌≤◌, ◌⊎◌, inl, inr, List, [], ◌∷◌, ◌++◌, length, drop, get_or, slice_get, Some}
use Rattle.std.proofs.lemmas.Option.{slice_get_within}
use Rattle.std.proofs.lemmas.List.{append-nil, append_assoc, drop_more}
use Rattle.cc_base.specs.Paths.{In}
use Rattle.cc_base.specs.declared.cells.TyId.{TyId}
use Rattle.cc_model.specs.declared.checked.Ty.{Ty}
use Rattle.cc_model.specs.declared.checked.Ty.TheVariants as ty
use Rattle.cc_model.specs.declared.typing.BaseType.{BaseType}
use Rattle.cc_model.specs.declared.typing.BaseType.TheVariants.{Struct as struct_base}
use Rattle.cc_model.specs.declared.typing.CType.{CType}
use Rattle.cc_model.specs.Types.{int_type, void_type}
use Rattle.cc_model.specs.CheckedProgram.{Denotes, int, void, struct, pointer, array}
use Rattle.c_numbering.specs.Table.{plain, array_of, base_ty, Continues, RefersBelow}

-- ---- lists

pub get_append : {X : Type 0} (xs ys : List X) (n : ℕ) (x : X) → slice_get xs n ≡ Some x → slice_get (xs ++ ys) n ≡ Some x
get_append [] ys n x h = cc
get_append (z ∷ xs) ys zero x h = h
get_append (z ∷ xs) ys (suc n) x h = get_append xs ys n x h

pub get_last : {X : Type 0} (xs : List X) (x : X) → slice_get (xs ++ x ∷ []) (length xs) ≡ Some x
get_last [] x = refl
get_last (z ∷ xs) x = get_last xs x

pub get_push : {X : Type 0} (xs : List X) (y : X) (n : ℕ) (x : X) → slice_get (xs ++ y ∷ []) n ≡ Some x → (slice_get xs n ≡ Some x) ⊎ ((n ≡ length xs) × (y ≡ x))
get_push [] y zero x h = inr (refl, (cc))
get_push [] y (suc n) x h = cc
get_push (z ∷ xs) y zero x h = inl h
get_push (z ∷ xs) y (suc n) x h = elim (get_push xs y n x h) [ inl e ↦ inl e | inr p ↦ inr (ap suc p.0, p.1) ]

pub below_push : {X : Type 0} (xs : List X) (y : X) (n : ℕ) → n < length (xs ++ y ∷ []) → (n < length xs) ⊎ (n ≡ length xs)
below_push [] y zero h = inr refl
below_push [] y (suc n) h = absurd (omega arith)
below_push (x ∷ xs) y zero h = inl (omega arith)
below_push (x ∷ xs) y (suc n) h = elim (below_push xs y n (omega arith)) [ inl k ↦ inl (omega arith) | inr e ↦ inr (ap suc e) ]

same_head : (m n : ℕ) (k l : List ℕ) → m ∷ k ≡ n ∷ l → m ≡ n
same_head m n k l h = cc

same_rest : (m n : ℕ) (k l : List ℕ) → m ∷ k ≡ n ∷ l → k ≡ l
same_rest m n k l h = cc

same_suc : (m n : ℕ) → suc m ≡ suc n → m ≡ n
same_suc m n h = omega arith

pub same_some : {X : Type 0} (x y : X) → Some x ≡ Some y → x ≡ y
same_some x y h = cc

same_ctype : (s t : CType) → s.base ≡ t.base → s.stars ≡ t.stars → s.lengths ≡ t.lengths → s ≡ t
same_ctype s t p q r = λ j. record { base = p j; stars = q j; lengths = r j }

pub in_left : {X : Type 0} (t : X) (k l : List X) → In t k → In t (k ++ l)
in_left t [] l h = absurd h
in_left t (x ∷ k) l (inl e) = inl e
in_left t (x ∷ k) l (inr h) = inr (in_left t k l h)

pub in_right : {X : Type 0} (t : X) (k l : List X) → In t l → In t (k ++ l)
in_right t [] l h = h
in_right t (x ∷ k) l h = inr (in_right t k l h)

pub drop_here : (l : List ℕ) (k : ℕ) → 0 < k → k ≤ length l → drop (k - 1) l ≡ get_or l (k - 1) 0 ∷ drop k l
drop_here l k p h =
    let e : (k - 1) + 1 ≡ k = omega arith in
    drop_more l (k - 1) 0 (omega arith) ∙ ap (λ j. get_or l (k - 1) 0 ∷ drop j l) e

-- ---- what an entry says

abbrev pub Says : List Ty → Ty → CType → Type 0
Says tys ty.Int t = t ≡ int_type
Says tys ty.Void t = t ≡ void_type
Says tys (ty.Struct k) t = t ≡ plain (struct_base k) 0
Says tys (ty.Ptr m) t = (b : BaseType) × (stars : ℕ) × (t ≡ plain b (suc stars)) × Denotes tys m.0 (plain b stars)
Says tys (ty.Array m size) t = (e : CType) × (t ≡ array_of size e) × Denotes tys m.0 e

pub says : (tys : List Ty) (n : ℕ) (t : CType) → Denotes tys n t → (y : Ty) × (slice_get tys n ≡ Some y) × Says tys y t
says tys n t (int h) = (ty.Int, h, refl)
says tys n t (void h) = (ty.Void, h, refl)
says tys n t (struct k h) = (ty.Struct k, h, refl)
says tys n t (pointer m b stars h d) = (ty.Ptr m, h, (b, stars, refl, d))
says tys n t (array m size e h d) = (ty.Array m size, h, (e, refl, d))

pub says_at : (tys : List Ty) (n : ℕ) (y : Ty) (t : CType) → slice_get tys n ≡ Some y → Denotes tys n t → Says tys y t
says_at tys n y t h d = let p = says tys n t d in subst (λ z. Says tys z t) (same_some p.0 y (sym p.1 ∙ h)) p.2

pub denoted : (tys : List Ty) (n : ℕ) (y : Ty) (t : CType) → slice_get tys n ≡ Some y → Says tys y t → Denotes tys n t
denoted tys n ty.Int t h s = subst (Denotes tys n) (sym s) (int h)
denoted tys n ty.Void t h s = subst (Denotes tys n) (sym s) (void h)
denoted tys n (ty.Struct k) t h s = subst (Denotes tys n) (sym s) (struct k h)
denoted tys n (ty.Ptr m) t h s = subst (Denotes tys n) (sym s.2) (pointer m s.0 s.1 h s.3)
denoted tys n (ty.Array m size) t h s = subst (Denotes tys n) (sym s.1) (array m size s.0 h s.2)

pub Denotes-within : (tys : List Ty) (n : ℕ) (t : CType) → Denotes tys n t → n < length tys
Denotes-within tys n t d = let p = says tys n t d in slice_get_within tys n p.0 p.1

-- ---- longer tables

pub Denotes-append : (tys more : List Ty) (n : ℕ) (t : CType) → Denotes tys n t → Denotes (tys ++ more) n t
Denotes-append tys more n t (int h) = int (get_append tys more n ty.Int h)
Denotes-append tys more n t (void h) = void (get_append tys more n ty.Void h)
Denotes-append tys more n t (struct k h) = struct k (get_append tys more n (ty.Struct k) h)
Denotes-append tys more n t (pointer m b stars h d) = pointer m b stars (get_append tys more n (ty.Ptr m) h) (Denotes-append tys more m.0 (plain b stars) d)
Denotes-append tys more n t (array m size e h d) = array m size e (get_append tys more n (ty.Array m size) h) (Denotes-append tys more m.0 e d)

pub Denotes-continue : (old new : List Ty) (n : ℕ) (t : CType) → Continues old new → Denotes old n t → Denotes new n t
Denotes-continue old new n t k d = subst (λ l. Denotes l n t) (sym k.1) (Denotes-append old k.0 n t d)

pub Says-continue : (old new : List Ty) (y : Ty) (t : CType) → Continues old new → Says old y t → Says new y t
Says-continue old new ty.Int t k s = s
Says-continue old new ty.Void t k s = s
Says-continue old new (ty.Struct i) t k s = s
Says-continue old new (ty.Ptr m) t k s = (s.0, s.1, s.2, Denotes-continue old new m.0 (plain s.0 s.1) k s.3)
Says-continue old new (ty.Array m size) t k s = (s.0, s.1, Denotes-continue old new m.0 s.0 k s.2)

pub continues_from : (a b c : List Ty) → Continues a b → Continues b c → Continues a c
continues_from a b c p q = (p.0 ++ q.0, q.1 ∙ ap (λ l. l ++ q.0) p.1 ∙ append_assoc a p.0 q.0)

pub continues_same : (a : List Ty) → Continues a a
continues_same a = ([], sym (append-nil a))

pub refers : (tys : List Ty) (y : Ty) (t : CType) → Says tys y t → RefersBelow (length tys) y
refers tys ty.Int t s = tt
refers tys ty.Void t s = tt
refers tys (ty.Struct k) t s = tt
refers tys (ty.Ptr m) t s = Denotes-within tys m.0 (plain s.0 s.1) s.3
refers tys (ty.Array m size) t s = Denotes-within tys m.0 s.0 s.2

-- ---- the entry of a type

no_array : (n : ℕ) (l : List ℕ) (A : Type 0) → n ∷ l ≡ [] → A
no_array n l A h = cc

no_pointer : (n : ℕ) (A : Type 0) → suc n ≡ 0 → A
no_pointer n A h = absurd (omega arith)

lengths_same : (s t : CType) → s ≡ t → s.lengths ≡ t.lengths
lengths_same s t h = ap (λ (u : CType). u.lengths) h

stars_same : (s t : CType) → s ≡ t → s.stars ≡ t.stars
stars_same s t h = ap (λ (u : CType). u.stars) h

base_same : (s t : CType) → s ≡ t → s.base ≡ t.base
base_same s t h = ap (λ (u : CType). u.base) h

abbrev pub ArrayEntry : List Ty → Ty → ℕ → CType → Type 0
ArrayEntry tys y size e = (m : TyId) × (y ≡ ty.Array m size) × Denotes tys m.0 e

array_entry : (tys : List Ty) (y : Ty) (size : ℕ) (e : CType) → Says tys y (array_of size e) → ArrayEntry tys y size e
array_entry tys ty.Int size e s = no_array size e.lengths (ArrayEntry tys ty.Int size e) (lengths_same (array_of size e) int_type s)
array_entry tys ty.Void size e s = no_array size e.lengths (ArrayEntry tys ty.Void size e) (lengths_same (array_of size e) void_type s)
array_entry tys (ty.Struct k) size e s = no_array size e.lengths (ArrayEntry tys (ty.Struct k) size e) (lengths_same (array_of size e) (plain (struct_base k) 0) s)
array_entry tys (ty.Ptr m) size e s = no_array size e.lengths (ArrayEntry tys (ty.Ptr m) size e) (lengths_same (array_of size e) (plain s.0 (suc s.1)) s.2)
array_entry tys (ty.Array m n) size e s =
    let l = lengths_same (array_of size e) (array_of n s.0) s.1 in (
      m,
      ap (ty.Array m) (sym (same_head size n e.lengths (s.0).lengths l)),
      subst (Denotes tys m.0) (same_ctype s.0 e (sym (base_same (array_of size e) (array_of n s.0) s.1)) (sym (stars_same (array_of size e) (array_of n s.0) s.1)) (sym (same_rest size n e.lengths (s.0).lengths l))) s.2,
    )

abbrev pub PointerEntry : List Ty → Ty → BaseType → ℕ → Type 0
PointerEntry tys y b stars = (m : TyId) × (y ≡ ty.Ptr m) × Denotes tys m.0 (plain b stars)

pointer_entry : (tys : List Ty) (y : Ty) (b : BaseType) (stars : ℕ) → Says tys y (plain b (suc stars)) → PointerEntry tys y b stars
pointer_entry tys ty.Int b stars s = no_pointer stars (PointerEntry tys ty.Int b stars) (stars_same (plain b (suc stars)) int_type s)
pointer_entry tys ty.Void b stars s = no_pointer stars (PointerEntry tys ty.Void b stars) (stars_same (plain b (suc stars)) void_type s)
pointer_entry tys (ty.Struct k) b stars s = no_pointer stars (PointerEntry tys (ty.Struct k) b stars) (stars_same (plain b (suc stars)) (plain (struct_base k) 0) s)
pointer_entry tys (ty.Ptr m) b stars s =
    (m, refl, subst (Denotes tys m.0) (same_ctype (plain s.0 s.1) (plain b stars) (sym (base_same (plain b (suc stars)) (plain s.0 (suc s.1)) s.2)) (same_suc s.1 stars (sym (stars_same (plain b (suc stars)) (plain s.0 (suc s.1)) s.2))) refl) s.3)
pointer_entry tys (ty.Array m n) b stars s = no_array n (s.0).lengths (PointerEntry tys (ty.Array m n) b stars) (sym (lengths_same (plain b (suc stars)) (array_of n s.0) s.1))

base_entry : (tys : List Ty) (y : Ty) (b : BaseType) → Says tys y (plain b 0) → y ≡ base_ty b
base_entry tys ty.Int b s = sym (ap base_ty (base_same (plain b 0) int_type s))
base_entry tys ty.Void b s = sym (ap base_ty (base_same (plain b 0) void_type s))
base_entry tys (ty.Struct k) b s = sym (ap base_ty (base_same (plain b 0) (plain (struct_base k) 0) s))
base_entry tys (ty.Ptr m) b s = no_pointer s.1 (ty.Ptr m ≡ base_ty b) (sym (stars_same (plain b 0) (plain s.0 (suc s.1)) s.2))
base_entry tys (ty.Array m n) b s = no_array n (s.0).lengths (ty.Array m n ≡ base_ty b) (sym (lengths_same (plain b 0) (array_of n s.0) s.1))

pub array_at : (tys : List Ty) (n size : ℕ) (e : CType) → Denotes tys n (array_of size e) → (m : TyId) × (slice_get tys n ≡ Some (ty.Array m size)) × Denotes tys m.0 e
array_at tys n size e d =
    let p = says tys n (array_of size e) d in
    let q = array_entry tys p.0 size e p.2 in
    (q.0, p.1 ∙ ap Some q.1, q.2)

pub pointer_at : (tys : List Ty) (n : ℕ) (b : BaseType) (stars : ℕ) → Denotes tys n (plain b (suc stars)) → (m : TyId) × (slice_get tys n ≡ Some (ty.Ptr m)) × Denotes tys m.0 (plain b stars)
pointer_at tys n b stars d =
    let p = says tys n (plain b (suc stars)) d in
    let q = pointer_entry tys p.0 b stars p.2 in
    (q.0, p.1 ∙ ap Some q.1, q.2)

pub base_at : (tys : List Ty) (n : ℕ) (b : BaseType) → Denotes tys n (plain b 0) → slice_get tys n ≡ Some (base_ty b)
base_at tys n b d = let p = says tys n (plain b 0) d in p.1 ∙ ap Some (base_entry tys p.0 b p.2)

-- ---- a type has one number, where no entry stands twice

pub same_id : (m n : TyId) → m.0 ≡ n.0 → m ≡ n
same_id m n h = λ j. record { 0 = h j }

module _ (tys : List Ty) (distinct : (m n : ℕ) (y : Ty) → slice_get tys m ≡ Some y → slice_get tys n ≡ Some y → m ≡ n) where
  once_plain : (b : BaseType) (stars m n : ℕ) → Denotes tys m (plain b stars) → Denotes tys n (plain b stars) → m ≡ n
  once_plain b zero m n p q = distinct m n (base_ty b) (base_at tys m b p) (base_at tys n b q)
  once_plain b (suc stars) m n p q =
      let u = pointer_at tys m b stars p in
      let v = pointer_at tys n b stars q in
      distinct m n (ty.Ptr u.0) u.1 (v.1 ∙ ap (λ i. Some (ty.Ptr i)) (same_id v.0 u.0 (once_plain b stars (v.0).0 (u.0).0 v.2 u.2)))

  once_parts : (b : BaseType) (stars : ℕ) (lengths : List ℕ) (m n : ℕ) → Denotes tys m (record { base = b; stars = stars; lengths = lengths }) → Denotes tys n (record { base = b; stars = stars; lengths = lengths }) → m ≡ n
  once_parts b stars [] m n p q = once_plain b stars m n p q
  once_parts b stars (size ∷ l) m n p q =
      let u = array_at tys m size (record { base = b; stars = stars; lengths = l }) p in
      let v = array_at tys n size (record { base = b; stars = stars; lengths = l }) q in
      distinct m n (ty.Array u.0 size) u.1 (v.1 ∙ ap (λ i. Some (ty.Array i size)) (same_id v.0 u.0 (once_parts b stars l (v.0).0 (u.0).0 v.2 u.2)))

  pub Denotes-once : (m n : ℕ) (t : CType) → Denotes tys m t → Denotes tys n t → m ≡ n
  Denotes-once m n t p q = once_parts t.base t.stars t.lengths m n p q
