-- Inputs that are built from a number or a class for each of the first places of a list. The rule is this project's own.
use Rattle.std.specs.Prelude.{ℕ, suc, ◌+◌, ◌^◌, ◌<◌, ◌≤◌, ◌≡◌, ◌≢◌, ◌↔◌, max, ℤ, pos, List, [], ◌∷◌, ◌++◌, length, take, Some, slice_get, unwrap_or, if◌then◌else◌}
use Rattle.cc_base.specs.declared.cells.CellTy.{CellTy}
use Rattle.cc_base.specs.declared.cells.CellTy.TheVariants as cell
use Rattle.cc_base.specs.declared.cells.TyId.{TyId}
use Rattle.cc_base.specs.declared.inputs.Input.{Input}
use Rattle.cc_base.specs.Limits.{Limits, base_of}
use Rattle.cc_base.specs.Paths.{In}
use Rattle.cc_base.specs.Places.{Place, Placed, arg, field, stream, at_place}
use Rattle.cc_model.specs.Core.{Cell, Program}
use Rattle.cc_model.specs.Canonical.{Within, base_cell}
use Rattle.cc_model.specs.CheckedProgram.{cell_of, flat}
use Rattle.cc_model.specs.Plain.{names_new, target}
use Rattle.cc_model.specs.Runs.{IsInput, params_of}
use Rattle.sym_expr.specs.declared.places.PlaceId.{PlaceId}
use Rattle.input_map.specs.declared.building.Assignment.{Assignment}

-- the class of a place; 0 is NULL
abbrev pub class_of : Assignment → ℕ → ℕ
class_of v id = unwrap_or (slice_get v.classes id) 0

-- the number of a place, or the base value
abbrev pub number_of : Assignment → ℤ → ℕ → ℤ
number_of v base id = unwrap_or (flat (slice_get v.ints id)) base

-- ---- what is asked of an assignment

module _ (layouts : ℕ → List Cell) (params : List Cell) (places : List Placed) where
  -- a place has the type of its cell: of a parameter's, of one of the block's to which its parent points, or of a number of the stream
  abbrev pub HasItsType : Place → CellTy → Type 0
  HasItsType (arg i) ty = slice_get params i ≡ Some (cell_of ty)
  HasItsType (field parent c) ty = (t : TyId) × (u : Placed) × (slice_get places parent ≡ Some u) × (u.holds ≡ cell.Ptr t) × (slice_get (layouts t.0) c ≡ Some (cell_of ty))
  HasItsType (stream i) ty = ty ≡ cell.Int

-- of a block whose cells may be places: its pointer is one of the first n places, and not NULL
abbrev pub IsTouchable : List Placed → Assignment → PlaceId → Type 0
IsTouchable places v t = (t.0 < length v.classes) × (class_of v t.0 ≢ 0) × ((e : Placed) × (ty : TyId) × (slice_get places t.0 ≡ Some e) × (e.holds ≡ cell.Ptr ty))

-- an assignment to the first n places of the list
pub record IsAssignment (layouts : ℕ → List Cell) (params : List Cell) (b : Limits) (places : List Placed) (v : Assignment) : Type 0 where
  -- one entry for each of n places of the list
  pub both : length v.ints ≡ length v.classes
  pub enough : length v.classes ≤ length places
  -- no two of the n are one place
  pub different : (i j : ℕ) (e f : Placed) → i < length v.classes → j < length v.classes → slice_get places i ≡ Some e → slice_get places j ≡ Some f → e.place ≡ f.place → i ≡ j
  pub typed : (i : ℕ) (e : Placed) → i < length v.classes → slice_get places i ≡ Some e → HasItsType layouts params places e.place e.holds
  pub numbers : (i : ℕ) (z : ℤ) → slice_get v.ints i ≡ Some (Some z) → Within b z
  -- touched places are pointers among the n, in different classes, and none is NULL
  pub touched : (t : PlaceId) → In t v.touched → IsTouchable places v t
  pub one_each : (s t : PlaceId) → In s v.touched → In t v.touched → class_of v s.0 ≡ class_of v t.0 → s.0 ≡ t.0
  -- a cell is a place only where its block is touched
  pub parents : (i : ℕ) (e : Placed) (parent c : ℕ) → i < length v.classes → slice_get places i ≡ Some e → e.place ≡ field parent c → In (record { 0 = parent }) v.touched
  -- the places of a class have one type
  pub one_type : (i j : ℕ) (e f : Placed) → i < length v.classes → j < length v.classes → slice_get places i ≡ Some e → slice_get places j ≡ Some f
      → class_of v i ≡ class_of v j → class_of v i ≢ 0 → e.holds ≡ f.holds

-- ---- what is built

-- the stream's length: it ends with its last number that is a place
abbrev pub needs : Place → ℕ
needs (stream i) = suc i
needs _ = 0

abbrev pub stream_length : List Placed → ℕ
stream_length [] = 0
stream_length (e ∷ l) = max (needs e.place) (stream_length l)

module _ (layouts : ℕ → List Cell) where
  -- the types of the cells from an address on, as the rule of inputs reads them: `due` are the types that are still to come, and `next` the first address behind them
  abbrev pub cell_types : List Cell → ℕ → List ℤ → List Cell
  cell_types [] next zs = []
  cell_types (c ∷ due) next [] = []
  cell_types (c ∷ due) next (z ∷ zs) = c ∷ (if names_new c z next then cell_types (due ++ layouts (target c)) (next + length (layouts (target c))) zs else cell_types due next zs)

-- a place stands in the cell with this number, from 0
abbrev pub StandsIn : List Placed → Input → ℤ → ℕ → Place → Type 0
StandsIn places h base i (arg k) = i ≡ k
StandsIn places h base i (field parent c) = (a : ℕ) × (at_place places h base parent ≡ Some (pos (suc a))) × (i ≡ a + c)
StandsIn places h base i (stream k) = ⊥

pub record IsBuilt (p : Program) (b : Limits) (places : List Placed) (v : Assignment) (h : Input) : Type 0 where
  pub input : IsInput p b h
  pub few : length h.cells < 10 ^ 18
  -- an integer place has its number, or the base value
  pub numbers : (i : ℕ) (e : Placed) → i < length v.classes → slice_get places i ≡ Some e → e.holds ≡ cell.Int → at_place places h (base_of b) i ≡ Some (number_of v (base_of b) i)
  -- a pointer place is NULL exactly where its class is
  pub pointers : (i : ℕ) (e : Placed) (t : TyId) → i < length v.classes → slice_get places i ≡ Some e → e.holds ≡ cell.Ptr t
      → (a : ℕ) × (at_place places h (base_of b) i ≡ Some (pos a)) × ((a ≡ 0) ↔ (class_of v i ≡ 0))
  -- two pointer places are equal exactly where they have one class
  pub classes : (i j : ℕ) (e f : Placed) (s t : TyId) → i < length v.classes → j < length v.classes → slice_get places i ≡ Some e → slice_get places j ≡ Some f
      → e.holds ≡ cell.Ptr s → f.holds ≡ cell.Ptr t → ((at_place places h (base_of b) i ≡ at_place places h (base_of b) j) ↔ (class_of v i ≡ class_of v j))
  -- a cell of no place holds the base value, or NULL
  pub others : (i : ℕ) (c : Cell) → slice_get (cell_types p.layouts (params_of p) (suc (length (params_of p))) h.cells) i ≡ Some c
      → ((id : ℕ) (e : Placed) → id < length v.classes → slice_get places id ≡ Some e → StandsIn places h (base_of b) i e.place → ⊥) → slice_get h.cells i ≡ Some (base_cell b c)
  pub ends : length h.stream ≡ stream_length (take (length v.classes) places)
  -- so does a number of the stream of no place
  pub other_numbers : (i : ℕ) → i < length h.stream → ((id : ℕ) (e : Placed) → id < length v.classes → slice_get places id ≡ Some e → e.place ≡ stream i → ⊥) → slice_get h.stream i ≡ Some (base_of b)
