-- The cells of types, whose pointers lead to types by their numbers.
use Rattle.std.specs.Prelude.{◌≡◌, ℕ, List, [], ◌∷◌, ◌++◌, length, flat_map, replicate, slice_get, unwrap_or, Some}
use Rattle.cc_base.specs.Paths.{In}
use Rattle.cc_base.specs.declared.cells.CellTy.{CellTy}
use Rattle.cc_base.specs.declared.cells.CellTy.TheVariants as cell
use Rattle.cc_model.specs.declared.checked.Ty.{Ty}
use Rattle.cc_model.specs.declared.checked.Ty.TheVariants as ty
use Rattle.cc_model.specs.declared.typing.CType.{CType}
use Rattle.cc_model.specs.declared.typing.Member.{Member}
use Rattle.cc_model.specs.Types.{TypeCell, cells_in}
use Rattle.cc_model.specs.CheckedProgram.{Denotes, AreCells, struct_cells, cells_after}
use Rattle.c_numbering.specs.Table.{Continues, Asked, AreAmong}

-- a list, n times
abbrev pub times : {X : Type 0} → ℕ → List X → List X
times n l = flat_map (λ c. c) (replicate n l)

-- the lists are the cells of structs, one after the other
abbrev pub AllCells : List Ty → List (List CellTy) → List (List TypeCell) → Type 0
AllCells tys [] [] = Unit {0}
AllCells tys (l ∷ ls) (m ∷ ms) = AreCells tys l m × AllCells tys ls ms
AllCells tys _ _ = ⊥

-- the cells of a type, where the cells of structs are these; what they point to is in the new table, and only what they need was put in
pub record TypeLaid (structs : List (List CellTy)) (old new : List Ty) (cells : List CellTy) (t : CType) : Type 0 where
  pub kept : Continues old new
  pub cells_of : (models : List (List TypeCell)) → AllCells old structs models → AreCells new cells (cells_in models t)
  pub among : (asked : List CType) → Asked asked t → AreAmong asked old → AreAmong asked new

-- the cells of fields, behind others
pub record FieldsLaid (structs : List (List CellTy)) (old new : List Ty) (before after : List CellTy) (fields : List Member) : Type 0 where
  pub kept : Continues old new
  pub cells_of : (models : List (List TypeCell)) (first : List TypeCell) → AllCells old structs models → AreCells old before first → AreCells new after (first ++ struct_cells models fields)
  pub among : (asked : List CType) → ((f : Member) (t : CType) → In f fields → f.ty ≡ Some t → Asked asked t) → AreAmong asked old → AreAmong asked new

-- each field's type was asked for
abbrev pub FieldsAsked : List CType → List (List Member) → Type 0
FieldsAsked asked structs = (s : List Member) (f : Member) (t : CType) → In s structs → In f s → f.ty ≡ Some t → Asked asked t

-- the cells of structs, in order of definition
pub record StructsLaid (old new : List Ty) (layouts : List (List CellTy)) (structs : List (List Member)) : Type 0 where
  pub kept : Continues old new
  pub cells_of : AllCells new layouts (cells_after [] structs)
  pub among : (asked : List CType) → FieldsAsked asked structs → AreAmong asked old → AreAmong asked new

-- the cells of an entry, by those of structs and of earlier entries
abbrev pub entry_cells : List (List CellTy) → List (List CellTy) → Ty → List CellTy
entry_cells structs before ty.Int = cell.Int ∷ []
entry_cells structs before ty.Void = []
entry_cells structs before (ty.Ptr m) = cell.Ptr m ∷ []
entry_cells structs before (ty.Struct k) = unwrap_or (slice_get structs k) []
entry_cells structs before (ty.Array m n) = times n (unwrap_or (slice_get before m.0) [])

abbrev pub entries_cells : List (List CellTy) → List (List CellTy) → List Ty → List (List CellTy)
entries_cells structs before [] = before
entries_cells structs before (y ∷ l) = entries_cells structs (before ++ entry_cells structs before y ∷ []) l

-- the cells of each type of the table, by its number
abbrev pub AreLayouts : List Ty → List (List CellTy) → List (List TypeCell) → Type 0
AreLayouts tys layouts models = (n : ℕ) (t : CType) → Denotes tys n t → (cells : List CellTy) × ((slice_get layouts n ≡ Some cells) × AreCells tys cells (cells_in models t))

-- the layouts of the types of the new table, where the file defines these structs
pub record LaidOut (structs : List (List Member)) (old new : List Ty) (layouts : List (List CellTy)) : Type 0 where
  pub kept : Continues old new
  pub among : (asked : List CType) → FieldsAsked asked structs → AreAmong asked old → AreAmong asked new
  pub each : length layouts ≡ length new
  pub cells_of : (asked : List CType) → AreAmong asked new → AreLayouts new layouts (cells_after [] structs)
