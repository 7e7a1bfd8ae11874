-- The types of a checked program by their numbers, as a table of them grows.
use Rattle.std.specs.Prelude.{◌≡◌, ◌≢◌, ◌<◌, ◌⊎◌, ℕ, true, List, [], ◌∷◌, ◌++◌, length, slice_get, Some}
use Rattle.cc_base.specs.Paths.{In}
use Rattle.cc_base.specs.declared.cells.TyId.{TyId}
use Rattle.cc_model.specs.declared.checked.Ty.{Ty}
use Rattle.cc_model.specs.declared.checked.Ty.TheVariants as ty
use Rattle.cc_model.specs.declared.typing.BaseType.{BaseType}
use Rattle.cc_model.specs.declared.typing.BaseType.TheVariants.{Int as int_base, Void as void_base, Struct as struct_base}
use Rattle.cc_model.specs.declared.typing.CType.{CType}
use Rattle.cc_model.specs.Types.{void_type, target_of, element_of, is_pointer, is_array}
use Rattle.cc_model.specs.CheckedProgram.{Denotes, AllDenote}
use Rattle.c_numbering.specs.declared.table.Key.{Key}
use Rattle.c_numbering.specs.declared.table.Key.TheVariants as key

-- the key of an entry, and the entry of a key
abbrev pub key_of : Ty → Key
key_of ty.Int = key.Int
key_of ty.Void = key.Void
key_of (ty.Ptr m) = key.Ptr m.0
key_of (ty.Struct k) = key.Struct k
key_of (ty.Array m n) = key.Array m.0 n

abbrev pub ty_of : Key → Ty
ty_of key.Int = ty.Int
ty_of key.Void = ty.Void
ty_of (key.Ptr m) = ty.Ptr (record { 0 = m })
ty_of (key.Struct k) = ty.Struct k
ty_of (key.Array m n) = ty.Array (record { 0 = m }) n

-- ---- types

-- a type that is no array
abbrev pub plain : BaseType → ℕ → CType
plain b stars = record { base = b; stars = stars; lengths = [] }

abbrev pub array_of : ℕ → CType → CType
array_of size e = record { base = e.base; stars = e.stars; lengths = size ∷ e.lengths }

-- the entry of a type that is its base alone
abbrev pub base_ty : BaseType → Ty
base_ty int_base = ty.Int
base_ty void_base = ty.Void
base_ty (struct_base k) = ty.Struct k

-- t itself, or a type that it is made of
pub data PartOf (t : CType) : CType → Type 0 where
  itself : PartOf t t
  pointed : (u : CType) → PartOf t u → is_pointer u ≡ true → PartOf t (target_of u)
  element : (u : CType) → PartOf t u → is_array u ≡ true → PartOf t (element_of u)

-- void, a type that was asked for, or one that such a type is made of
abbrev pub Asked : List CType → CType → Type 0
Asked asked t = (s : CType) × (In s (void_type ∷ asked) × PartOf s t)

-- ---- tables

-- the entries, with y last where it wasn't there
abbrev pub IsAdded : Ty → List Ty → List Ty → Type 0
IsAdded y old new = (new ≡ old) ⊎ ((new ≡ old ++ y ∷ []) × ((n : ℕ) → slice_get old n ≢ Some y))

-- the old entries, and others behind them
abbrev pub Continues : List Ty → List Ty → Type 0
Continues old new = (more : List Ty) × (new ≡ old ++ more)

-- the entry is made of earlier ones alone
abbrev pub RefersBelow : ℕ → Ty → Type 0
RefersBelow n (ty.Ptr m) = m.0 < n
RefersBelow n (ty.Array m size) = m.0 < n
RefersBelow n _ = Unit {0}

-- each entry is a type that was asked for or a part of one, and stands there once, behind those that it is made of
pub record AreAmong (asked : List CType) (tys : List Ty) : Type 0 where
  pub only : (n : ℕ) → n < length tys → (t : CType) × (Denotes tys n t × Asked asked t)
  pub once : (m n : ℕ) (y : Ty) → slice_get tys m ≡ Some y → slice_get tys n ≡ Some y → m ≡ n
  pub earlier : (n : ℕ) (y : Ty) → slice_get tys n ≡ Some y → RefersBelow n y

-- the type has that number in the new table, and only what it needs was put in
pub record Numbered (old new : List Ty) (n : ℕ) (t : CType) : Type 0 where
  pub kept : Continues old new
  pub denotes : Denotes new n t
  pub among : (asked : List CType) → Asked asked t → AreAmong asked old → AreAmong asked new

-- the same of several types, one after the other
pub record AllNumbered (old new : List Ty) (ns : List TyId) (ts : List CType) : Type 0 where
  pub kept : Continues old new
  pub denote : AllDenote new ns ts
  pub among : (asked : List CType) → ((t : CType) → In t ts → Asked asked t) → AreAmong asked old → AreAmong asked new
