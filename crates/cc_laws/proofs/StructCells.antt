-- Each type that a struct's fields name has a cell, where each struct begins with a field that has one.
use Rattle.std.proofs.Common.{◌≡◌, ℕ, zero, suc, ◌+◌, ◌<◌, ◌≤◌, List, [], ◌∷◌, ◌++◌, length, replicate, flat_map, slice_get, unwrap_or, Option, Some, None, inl, inr, refl, sym, ◌∙◌, subst, arith, length-append}
use Rattle.cc_base.specs.Paths.{In}
use Rattle.cc_model.specs.declared.typing.Member.{Member}
use Rattle.cc_model.specs.declared.typing.BaseType.{BaseType}
use Rattle.cc_model.specs.declared.typing.BaseType.TheVariants.{Int as int_base, Void as void_base, Struct as struct_base}
use Rattle.cc_model.specs.declared.typing.CType.{CType}
use Rattle.cc_model.specs.Types.{TypeCell, number_cell, pointer_cell, repeated, base_cells, element_cells, cells_in}
use Rattle.cc_model.specs.CheckedProgram.{cells_if, struct_cells, cells_after}

-- ---- P holds of each one of a list

abbrev pub Every : {A : Type 0} → (A → Type 0) → List A → Type 0
Every P [] = Unit {0}
Every P (a ∷ l) = P a × Every P l

module _ {A : Type 0} (P : A → Type 0) where
  pub every_append : (l m : List A) → Every P l → Every P m → Every P (l ++ m)
  every_append [] m h k = k
  every_append (a ∷ l) m h k = (h.0, every_append l m h.1 k)

  pub every_at : (l : List A) (i : ℕ) (d : A) → P d → Every P l → P (unwrap_or (slice_get l i) d)
  every_at [] i d p h = p
  every_at (a ∷ l) zero d p h = h.0
  every_at (a ∷ l) (suc i) d p h = every_at l i d p h.1

  pub every_in : (l : List A) (a : A) → In a l → Every P l → P a
  every_in [] a i h = absurd i
  every_in (b ∷ l) a i h = elim i [ inl e ↦ subst P (sym e) h.0 | inr j ↦ every_in l a j h.1 ]

  pub every_times : (n : ℕ) (l : List A) → Every P l → Every P (flat_map (λ c. c) (replicate n l))
  every_times zero l h = tt
  every_times (suc n) l h = every_append l (flat_map (λ c. c) (replicate n l)) h (every_times n l h)

pub has_append : {A : Type 0} (l m : List A) → 1 ≤ length l → 1 ≤ length (l ++ m)
has_append [] m h = absurd (omega arith)
has_append (a ∷ l) m h = omega arith

pub has_times : {A : Type 0} (n : ℕ) (l : List A) → 1 ≤ n → 1 ≤ length l → 1 ≤ length (flat_map (λ c. c) (replicate n l))
has_times zero l h k = absurd (omega arith)
has_times (suc n) l h k = has_append l (flat_map (λ c. c) (replicate n l)) k

-- ---- which types cells point to, where there are n structs

-- int, or one of n structs
abbrev pub IsBase : ℕ → BaseType → Type 0
IsBase n int_base = Unit {0}
IsBase n void_base = ⊥
IsBase n (struct_base k) = k < n

abbrev pub IsTyped : ℕ → Option CType → Type 0
IsTyped n None = Unit {0}
IsTyped n (Some t) = IsBase n t.base

abbrev pub IsMember : ℕ → Member → Type 0
IsMember n f = IsTyped n f.ty

-- a number, or a pointer to what is made of one of these
abbrev pub PointsWell : ℕ → TypeCell → Type 0
PointsWell n number_cell = Unit {0}
PointsWell n (pointer_cell t) = IsBase n t.base × (t.lengths ≡ [])

abbrev pub AllPoint : ℕ → List TypeCell → Type 0
AllPoint n l = Every (PointsWell n) l

module _ (n : ℕ) where
  repeated_point : (l : List ℕ) (cells : List TypeCell) → AllPoint n cells → AllPoint n (repeated l cells)
  repeated_point [] cells h = h
  repeated_point (m ∷ l) cells h = every_times (PointsWell n) m (repeated l cells) (repeated_point l cells h)

  base_points : (structs : List (List TypeCell)) (b : BaseType) → Every (AllPoint n) structs → AllPoint n (base_cells structs b)
  base_points structs int_base h = (tt, tt)
  base_points structs void_base h = tt
  base_points structs (struct_base k) h = every_at (AllPoint n) structs k [] tt h

  element_points : (structs : List (List TypeCell)) (b : BaseType) (stars : ℕ) → Every (AllPoint n) structs → IsBase n b → AllPoint n (element_cells structs b stars)
  element_points structs b zero h k = base_points structs b h
  element_points structs b (suc m) h k = ((k, refl), tt)

  pub cells_point : (structs : List (List TypeCell)) (t : CType) → Every (AllPoint n) structs → IsBase n t.base → AllPoint n (cells_in structs t)
  cells_point structs t h k = repeated_point t.lengths (element_cells structs t.base t.stars) (element_points structs t.base t.stars h k)

  points_if : (structs : List (List TypeCell)) (t : Option CType) → Every (AllPoint n) structs → IsTyped n t → AllPoint n (cells_if structs t)
  points_if structs None h k = tt
  points_if structs (Some t) h k = cells_point structs t h k

  fields_point : (structs : List (List TypeCell)) (fields : List Member) → Every (AllPoint n) structs → Every (IsMember n) fields → AllPoint n (struct_cells structs fields)
  fields_point structs [] h k = tt
  fields_point structs (f ∷ l) h k = every_append (PointsWell n) (cells_if structs f.ty) (struct_cells structs l) (points_if structs f.ty h k.0) (fields_point structs l h k.1)

  pub structs_point : (structs : List (List TypeCell)) (l : List (List Member)) → Every (AllPoint n) structs → Every (λ s. Every (IsMember n) s) l → Every (AllPoint n) (cells_after structs l)
  structs_point structs [] h k = h
  structs_point structs (s ∷ l) h k = structs_point (structs ++ struct_cells structs s ∷ []) l (every_append (AllPoint n) structs _ h (fields_point structs s h k.0, tt)) k.1

-- ---- which types have a cell, behind j structs

abbrev pub HasCell : List TypeCell → Type 0
HasCell l = 1 ≤ length l

abbrev pub IsElement : ℕ → BaseType → ℕ → Type 0
IsElement j b zero = IsBase j b
IsElement j b (suc m) = Unit {0}

-- one of a known size: its base is int or one of the structs, unless it is a pointer, and its lengths are not 0
abbrev pub IsSized : ℕ → CType → Type 0
IsSized j t = IsElement j t.base t.stars × Every (λ m. 1 ≤ m) t.lengths

abbrev pub SizedIf : ℕ → Option CType → Type 0
SizedIf j None = ⊥
SizedIf j (Some t) = IsSized j t

-- a struct begins with a field of a known size
abbrev pub BeginsSized : ℕ → List Member → Type 0
BeginsSized j [] = ⊥
BeginsSized j (f ∷ l) = SizedIf j f.ty

abbrev pub AllBegin : ℕ → List (List Member) → Type 0
AllBegin j [] = Unit {0}
AllBegin j (s ∷ l) = BeginsSized j s × AllBegin (suc j) l

has_at : (structs : List (List TypeCell)) (k : ℕ) → k < length structs → Every HasCell structs → HasCell (unwrap_or (slice_get structs k) [])
has_at [] k lt h = absurd (omega arith)
has_at (s ∷ l) zero lt h = h.0
has_at (s ∷ l) (suc k) lt h = has_at l k (omega arith) h.1

has_repeated : (l : List ℕ) (cells : List TypeCell) → Every (λ m. 1 ≤ m) l → HasCell cells → HasCell (repeated l cells)
has_repeated [] cells h k = k
has_repeated (m ∷ l) cells h k = has_times m (repeated l cells) h.0 (has_repeated l cells h.1 k)

has_base : (structs : List (List TypeCell)) (b : BaseType) → Every HasCell structs → IsBase (length structs) b → HasCell (base_cells structs b)
has_base structs int_base h k = omega arith
has_base structs void_base h k = absurd k
has_base structs (struct_base m) h k = has_at structs m k h

has_element : (structs : List (List TypeCell)) (b : BaseType) (stars : ℕ) → Every HasCell structs → IsElement (length structs) b stars → HasCell (element_cells structs b stars)
has_element structs b zero h k = has_base structs b h k
has_element structs b (suc m) h k = omega arith

pub has_cells : (structs : List (List TypeCell)) (t : CType) → Every HasCell structs → IsSized (length structs) t → HasCell (cells_in structs t)
has_cells structs t h k = has_repeated t.lengths (element_cells structs t.base t.stars) k.1 (has_element structs t.base t.stars h k.0)

has_if : (structs : List (List TypeCell)) (t : Option CType) → Every HasCell structs → SizedIf (length structs) t → HasCell (cells_if structs t)
has_if structs None h k = absurd k
has_if structs (Some t) h k = has_cells structs t h k

has_fields : (structs : List (List TypeCell)) (fields : List Member) → Every HasCell structs → BeginsSized (length structs) fields → HasCell (struct_cells structs fields)
has_fields structs [] h k = absurd k
has_fields structs (f ∷ l) h k = has_append (cells_if structs f.ty) (struct_cells structs l) (has_if structs f.ty h k)

one_longer : (structs : List (List TypeCell)) (s : List TypeCell) → suc (length structs) ≡ length (structs ++ s ∷ [])
one_longer structs s = omega (arith, length-append structs (s ∷ []))

pub structs_have : (structs : List (List TypeCell)) (l : List (List Member)) → Every HasCell structs → AllBegin (length structs) l → Every HasCell (cells_after structs l)
structs_have structs [] h k = h
structs_have structs (s ∷ l) h k = structs_have (structs ++ struct_cells structs s ∷ []) l (every_append HasCell structs _ h (has_fields structs s h k.0, tt))
    (subst (λ j. AllBegin j l) (one_longer structs (struct_cells structs s)) k.1)

pub structs_number : (structs : List (List TypeCell)) (l : List (List Member)) → length (cells_after structs l) ≡ length structs + length l
structs_number structs [] = omega arith
structs_number structs (s ∷ l) = structs_number (structs ++ struct_cells structs s ∷ []) l ∙ omega (arith, one_longer structs (struct_cells structs s))

element_of_base : (j : ℕ) (b : BaseType) (stars : ℕ) → IsBase j b → IsElement j b stars
element_of_base j b zero h = h
element_of_base j b (suc m) h = tt

-- so what a cell points to has a cell
pub pointed_has : (fields : List (List Member)) (t : CType) → AllBegin 0 fields → PointsWell (length fields) (pointer_cell t) → HasCell (cells_in (cells_after [] fields) t)
pointed_has fields t h k = has_cells (cells_after [] fields) t (structs_have [] fields tt h)
    (element_of_base _ t.base t.stars (subst (λ j. IsBase j t.base) (sym (structs_number [] fields ∙ omega arith)) k.0), subst (Every (λ m. 1 ≤ m)) (sym k.1) tt)
