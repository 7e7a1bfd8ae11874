-- The types of a program, how many cells an object of a type has, and which they are (C11 6.2.5).
-- Their size in cells is this project's own.
use Rattle.std.specs.Prelude.{ℕ, zero, suc, ◌*◌, min, Bool, true, false, ◌&&◌, List, [], ◌∷◌, replicate, flat_map, nat_eq, slice_get, Option, Some, None, unwrap_or, if◌then◌else◌}
pub use Rattle.cc_model.specs.declared.typing.BaseType.{BaseType}
pub use Rattle.cc_model.specs.declared.typing.BaseType.TheVariants.{Int as int_base, Void as void_base, Struct as struct_base}
pub use Rattle.cc_model.specs.declared.typing.CType.{CType}

abbrev pub int_type : CType
int_type = record { base = int_base; stars = 0; lengths = [] }

abbrev pub void_type : CType
void_type = record { base = void_base; stars = 0; lengths = [] }

-- the pointer to a type that is no array (6.7.6.1)
abbrev pub pointer_to : CType → CType
pointer_to t = record { base = t.base; stars = suc t.stars; lengths = [] }

abbrev pub one_less : ℕ → ℕ
one_less zero = 0
one_less (suc n) = n

-- what a pointer points to
abbrev pub target_of : CType → CType
target_of t = record { base = t.base; stars = one_less t.stars; lengths = [] }

abbrev pub behind : List ℕ → List ℕ
behind [] = []
behind (n ∷ l) = l

-- what an array is an array of (6.7.6.2)
abbrev pub element_of : CType → CType
element_of t = record { base = t.base; stars = t.stars; lengths = behind t.lengths }

-- ---- kinds of types

abbrev pub is_array_of : List ℕ → Bool
is_array_of [] = false
is_array_of (n ∷ l) = true

abbrev pub is_array : CType → Bool
is_array t = is_array_of t.lengths

abbrev pub no_array : CType → Bool
no_array t = if is_array t then false else true

abbrev pub has_stars : ℕ → Bool
has_stars zero = false
has_stars (suc n) = true

abbrev pub is_pointer : CType → Bool
is_pointer t = has_stars t.stars && no_array t

abbrev pub is_int_base : BaseType → Bool
is_int_base int_base = true
is_int_base _ = false

abbrev pub is_void_base : BaseType → Bool
is_void_base void_base = true
is_void_base _ = false

-- a type that is its base alone
abbrev pub is_bare : CType → Bool
is_bare t = nat_eq t.stars 0 && no_array t

abbrev pub is_int : CType → Bool
is_int t = is_int_base t.base && is_bare t

abbrev pub is_void : CType → Bool
is_void t = is_void_base t.base && is_bare t

abbrev pub struct_of : BaseType → Option ℕ
struct_of (struct_base n) = Some n
struct_of _ = None

-- the struct that a type is
abbrev pub struct_in : CType → Option ℕ
struct_in t = if is_bare t then struct_of t.base else None

-- the struct that a pointer points to
abbrev pub struct_behind : CType → Option ℕ
struct_behind t = if nat_eq t.stars 1 && no_array t then struct_of t.base else None

abbrev pub same_base : BaseType → BaseType → Bool
same_base int_base int_base = true
same_base void_base void_base = true
same_base (struct_base m) (struct_base n) = nat_eq m n
same_base _ _ = false

abbrev pub same_lengths : List ℕ → List ℕ → Bool
same_lengths [] [] = true
same_lengths (m ∷ k) (n ∷ l) = nat_eq m n && same_lengths k l
same_lengths _ _ = false

-- types are the same where all their parts are (6.2.7)
abbrev pub same_type : CType → CType → Bool
same_type s t = same_base s.base t.base && (nat_eq s.stars t.stars && same_lengths s.lengths t.lengths)

-- ---- how many cells

abbrev pub product : List ℕ → ℕ
product [] = 1
product (n ∷ l) = n * product l

abbrev pub base_size : List ℕ → BaseType → ℕ
base_size sizes int_base = 1
base_size sizes void_base = 0
base_size sizes (struct_base n) = unwrap_or (slice_get sizes n) 0

abbrev pub element_size : List ℕ → BaseType → ℕ → ℕ
element_size sizes b zero = base_size sizes b
element_size sizes b (suc n) = 1

-- a size, where one above 256, which is too large, is told as 257
abbrev pub up_to_257 : ℕ → ℕ
up_to_257 n = min n 257

-- 1 for an int or a pointer, the struct's size for a struct, the product for an array; the sizes of structs are given by their numbers
abbrev pub size_of : List ℕ → CType → ℕ
size_of sizes t = up_to_257 (product t.lengths * element_size sizes t.base t.stars)

-- ---- which cells

-- what a cell holds: a number, or a pointer to a type
pub data TypeCell : Type 0 where
  number_cell : TypeCell
  pointer_cell : (target : CType) → TypeCell

-- arrays of these lengths, of elements with these cells
abbrev pub repeated : List ℕ → List TypeCell → List TypeCell
repeated [] cells = cells
repeated (n ∷ l) cells = flat_map (λ c. c) (replicate n (repeated l cells))

abbrev pub base_cells : List (List TypeCell) → BaseType → List TypeCell
base_cells structs int_base = number_cell ∷ []
base_cells structs void_base = []
base_cells structs (struct_base n) = unwrap_or (slice_get structs n) []

abbrev pub element_cells : List (List TypeCell) → BaseType → ℕ → List TypeCell
element_cells structs b zero = base_cells structs b
element_cells structs b (suc n) = pointer_cell (record { base = b; stars = n; lengths = [] }) ∷ []

-- the cells of a type, with structs and arrays flattened in order; the cells of structs are given by their numbers
abbrev pub cells_in : List (List TypeCell) → CType → List TypeCell
cells_in structs t = repeated t.lengths (element_cells structs t.base t.stars)
