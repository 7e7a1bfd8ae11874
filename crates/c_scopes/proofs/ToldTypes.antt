-- A table of what notes say of tokens.
use Rattle.std.proofs.Common.{◌≡◌, ◌∙◌, refl, sym, ap, ℕ, zero, suc, Bool, true, false, nat_eq, if◌then◌else◌, List, [], ◌∷◌, drop, slice_get, Option, Some, None, Result, Ok, Err, IfOk}
use Rattle.cc_model.specs.declared.typing.CType.{CType}
use Rattle.cc_model.specs.declared.typing.Note.{Note}
use Rattle.cc_model.specs.declared.typing.Note.TheVariants.{Fault, Means, Typed, Null, Declares}
use Rattle.cc_model.specs.Types.{void_type}
use Rattle.cc_model.specs.CheckedProgram.{type_noted, type_at}
use Rattle.c_scopes.specs.declared.noted.Said.{Said}
use Rattle.c_scopes.specs.Noted.{entry, typed_from, said, Tells, type_of, type_told}

-- ---- the type of a token

head_at : {X : Type 0} (k : ℕ) (a : List X) (x : X) (l : List X) → drop k a ≡ x ∷ l → slice_get a k ≡ Some x
head_at zero [] x l h = cc
head_at zero (y ∷ a) x l h = let e : y ≡ x = cc in ap Some e
head_at (suc k) [] x l h = cc
head_at (suc k) (y ∷ a) x l h = head_at k a x l h

rest_at : {X : Type 0} (k : ℕ) (a : List X) (x : X) (l : List X) → drop k a ≡ x ∷ l → drop (suc k) a ≡ l
rest_at zero [] x l h = cc
rest_at zero (y ∷ a) x l h = let e : a ≡ l = cc in e
rest_at (suc k) [] x l h = cc
rest_at (suc k) (y ∷ a) x l h = rest_at k a x l h

abbrev pub picked : List Note → Option ℕ → CType
picked notes None = void_type
picked notes (Some k) = type_of notes k

picked_typed : (all : List Note) (at : ℕ) (type : CType) (l : List Note) (k t : ℕ) (b : Bool) → slice_get all k ≡ Some (Typed at type) → picked all (typed_from (suc k) l t) ≡ type_noted l t
    → picked all (if b then Some k else typed_from (suc k) l t) ≡ (if b then type else type_noted l t)
picked_typed all at type l k t true h g = ap type_told h
picked_typed all at type l k t false h g = g

picked_is : (all l : List Note) (k t : ℕ) → drop k all ≡ l → picked all (typed_from k l t) ≡ type_noted l t
picked_is all [] k t h = refl
picked_is all (Typed at type ∷ l) k t h = picked_typed all at type l k t (nat_eq at t) (head_at k all (Typed at type) l h) (picked_is all l (suc k) t (rest_at k all (Typed at type) l h))
picked_is all (Fault w at ∷ l) k t h = picked_is all l (suc k) t (rest_at k all (Fault w at) l h)
picked_is all (Means at what ∷ l) k t h = picked_is all l (suc k) t (rest_at k all (Means at what) l h)
picked_is all (Null at ∷ l) k t h = picked_is all l (suc k) t (rest_at k all (Null at) l h)
picked_is all (Declares at type ∷ l) k t h = picked_is all l (suc k) t (rest_at k all (Declares at type) l h)

type_picked : (notes : List Note) (table : List Said) (t : ℕ) (o : Option ℕ) (s : Said) → s ≡ entry table t → s.null ≡ false → s.ty ≡ o → Tells 0 notes table → picked notes o ≡ type_at notes t
type_picked notes table t o s h n e g =
    let i : s ≡ said 0 notes t = h ∙ g t in
    ap (picked notes) (sym e ∙ ap (λ (x : Said). x.ty) i) ∙ picked_is notes notes 0 t refl ∙ ap (λ b. if b then void_type else type_noted notes t) (sym n ∙ ap (λ (x : Said). x.null) i)

pub type_found : {E : Type 0} (r : Result CType E) (notes : List Note) (table : List Said) (t k : ℕ) (s : Said) → s ≡ entry table t → s.null ≡ false → s.ty ≡ Some k
    → IfOk r (λ type. type ≡ type_of notes k) → IfOk r (λ type. Tells 0 notes table → type ≡ type_at notes t)
type_found (Err x) notes table t k s h n e p = tt
type_found (Ok type) notes table t k s h n e p = λ g. p ∙ type_picked notes table t (Some k) s h n e g

pub no_type_found : (notes : List Note) (table : List Said) (t : ℕ) (s : Said) (type : CType) → s ≡ entry table t → s.null ≡ false → s.ty ≡ None → type ≡ void_type → Tells 0 notes table → type ≡ type_at notes t
no_type_found notes table t s type h n e p g = p ∙ type_picked notes table t None s h n e g
