-- How a built input's cells are laid, from address to address.
use Rattle.std.specs.Prelude.{◌^◌, ◌*◌, nat_lt, map, ℕ, suc, ◌+◌, ◌<◌, ◌≡◌, ◌≢◌, ◌⊎◌, ℤ, pos, List, [], ◌∷◌, ◌++◌, length, slice_get, Option, Some, None, nat_eq, if◌then◌else◌}
use Rattle.std.specs.Option.{option_map}
use Rattle.std.specs.Ordering.{nat_cmp}
use Rattle.std.specs.BTreeMap.{BTreeMap, get}
use Rattle.cc_base.specs.Paths.{In}
use Rattle.cc_base.specs.Limits.{Limits, base_of}
use Rattle.cc_base.specs.Places.{Place, Placed, arg, field, stream}
use Rattle.cc_model.specs.Core.{Cell, int_cell, ptr_cell}
use Rattle.cc_model.specs.CheckedProgram.{cell_of, cells_at}
use Rattle.cc_model.specs.declared.checked.Checked.{Checked}
use Rattle.sym_expr.specs.declared.places.PlaceId.{PlaceId}
use Rattle.input_map.specs.declared.building.Assignment.{Assignment}
use Rattle.input_map.specs.declared.building.Due.{Due}
use Rattle.input_map.specs.declared.building.Index.{Index}
use Rattle.input_map.specs.declared.building.Laying.{Laying}
use Rattle.input_map.specs.Builds.{class_of, number_of, needs}

-- a cell's type, and which place stands there
pub record Spot : Type 0 where
  pub cell : Cell
  pub place : Option ℕ

-- ---- where the first n places of a list are found

-- the cell j of a block: the parameters are block 0, the stream block 1, and that of place t has number t + 2
abbrev pub Seat : Place → ℕ → ℕ → Type 0
Seat (arg k) q j = (q ≡ 0) × (k ≡ j)
Seat (stream k) q j = (q ≡ 1) × (k ≡ j)
Seat (field t c) q j = (q ≡ suc (suc t)) × (c ≡ j)

-- a place of the plan's, by its number
pub record Entry (places : List Placed) (n : ℕ) (id : ℕ) : Type 0 where
  pub entry : Placed
  pub small : id < n
  pub is : slice_get places id ≡ Some entry

-- each cell with a place has its number
pub record IsIndex (places : List Placed) (n : ℕ) (found : ℕ → ℕ → Option ℕ) : Type 0 where
  pub sound : (q j id : ℕ) → found q j ≡ Some id → (e : Entry places n id) × Seat e.entry.place q j
  pub total : (id : ℕ) (e : Entry places n id) (q j : ℕ) → Seat e.entry.place q j → (k : ℕ) × (found q j ≡ Some k)

-- each class of a touched place has one
pub record IsOwner (v : Assignment) (touched : List PlaceId) (owner : ℕ → Option ℕ) : Type 0 where
  pub sound : (c t : ℕ) → owner c ≡ Some t → In (record { 0 = t }) touched × (class_of v t ≡ c)
  pub total : (t : PlaceId) → In t touched → (k : ℕ) × (owner (class_of v t.0) ≡ Some k)

-- the cell of a block by its number, in one number
abbrev pub key : ℕ → ℕ → ℕ
key q j = q * 18446744073709551616 + j

abbrev pub found_in : BTreeMap ℕ ℕ → ℕ → ℕ → Option ℕ
found_in m q j = if nat_lt j 18446744073709551616 then get nat_cmp m (key q j) else None

abbrev pub owner_in : BTreeMap ℕ ℕ → ℕ → Option ℕ
owner_in m c = get nat_cmp m c

-- ---- cells and what they hold

-- what the cells are laid by
pub record Plan : Type 0 where
  pub layouts : ℕ → List Cell
  -- the place of a cell: those of the parameters have number 0, those of the stream 1, and those of the block of place t have t + 2
  pub found : ℕ → ℕ → Option ℕ
  -- the touched place of a class
  pub owner : ℕ → Option ℕ
  pub class : ℕ → ℕ
  pub number : ℕ → ℤ
  pub base : ℤ

abbrev pub plan_of : (ℕ → List Cell) → Assignment → ℤ → (ℕ → ℕ → Option ℕ) → (ℕ → Option ℕ) → Plan
plan_of layouts v base found owner = record { layouts = layouts; found = found; owner = owner; class = class_of v; number = number_of v base; base = base }

abbrev pub plan_by : Checked → Assignment → Limits → Index → Plan
plan_by c v b index = plan_of (cells_at c) v (base_of b) (found_in index.found) (owner_in index.owners)

-- cells from number j on, with their places
abbrev pub spots : (ℕ → Option ℕ) → ℕ → List Cell → List Spot
spots f j [] = []
spots f j (c ∷ cs) = record { cell = c; place = f j } ∷ spots f (suc j) cs

-- the place of a cell of the block that a place points to
abbrev pub behind : Plan → Option ℕ → ℕ → Option ℕ
behind p None j = None
behind p (Some t) j = p.found (suc (suc t)) j

-- an address for each class that has a block
abbrev pub Blocks : Type 0
Blocks = ℕ → Option ℕ

-- the value of a pointer of a class
abbrev pub Points : Blocks → ℕ → ℤ → Type 0
Points block c z = ((c ≡ 0) × (z ≡ pos 0)) ⊎ ((c ≢ 0) × (a : ℕ) × (block c ≡ Some a) × (z ≡ pos a))

-- a cell of a type and a place holds the number
abbrev pub Holds : Plan → Blocks → Cell → Option ℕ → ℤ → Type 0
Holds p block int_cell None z = z ≡ p.base
Holds p block int_cell (Some id) z = z ≡ p.number id
Holds p block (ptr_cell t) None z = z ≡ pos 0
Holds p block (ptr_cell t) (Some id) z = Points block (p.class id) z

-- no block is named
pub record Keeps (block : Blocks) (more : List Spot) (new : Blocks) : Type 0 where
  pub no_cells : more ≡ []
  pub same : (c : ℕ) → new c ≡ block c

-- a block of the class of the cell's place is named, at the address
pub record Names (p : Plan) (next : ℕ) (block : Blocks) (s : Spot) (more : List Spot) (new : Blocks) : Type 0 where
  pub type : ℕ
  pub id : ℕ
  pub cell : s.cell ≡ ptr_cell type
  pub place : s.place ≡ Some id
  pub not_null : p.class id ≢ 0
  pub is_new : block (p.class id) ≡ None
  pub cells : more ≡ spots (behind p (p.owner (p.class id))) 0 (p.layouts type)
  pub named : (c : ℕ) → new c ≡ (if nat_eq (p.class id) c then Some next else block c)

-- a cell is passed: it holds z, and `more` are the cells that are due since then
pub record Passes (p : Plan) (next : ℕ) (block : Blocks) (s : Spot) (z : ℤ) (more : List Spot) (new : Blocks) : Type 0 where
  pub holds : Holds p new s.cell s.place z
  pub change : Keeps block more new ⊎ Names p next block s more new

-- `done` are passed and hold zs, `due` come next, where `first` were due before all
pub data Lays (p : Plan) (first : List Spot) : (done due : List Spot) (zs : List ℤ) (block : Blocks) → Type 0 where
  begun : (block : Blocks) → ((c : ℕ) → block c ≡ None) → Lays p first [] first [] block
  one_more : (done rest more : List Spot) (s : Spot) (zs : List ℤ) (z : ℤ) (block new : Blocks) → Lays p first done (s ∷ rest) zs block
      → Passes p (suc (length (done ++ s ∷ rest))) block s z more new → Lays p first (done ++ s ∷ []) (rest ++ more) (zs ++ z ∷ []) new

-- ---- the stream

-- the number of this place, or of none
abbrev pub number_there : (ℕ → ℤ) → ℤ → Option ℕ → ℤ
number_there number base None = base
number_there number base (Some id) = number id

-- each number of the stream is its place's
pub record IsStream (number : ℕ → ℤ) (base : ℤ) (found : ℕ → Option ℕ) (n : ℕ) (ss : List ℤ) : Type 0 where
  pub long : length ss ≡ n
  pub each : (k : ℕ) → k < n → slice_get ss k ≡ Some (number_there number base (found k))

-- ---- what the code holds

-- m with v at k
abbrev pub Puts : {A : Type 0} → BTreeMap ℕ A → ℕ → A → BTreeMap ℕ A → Type 0
Puts m k v new = (q : ℕ) → get nat_cmp new q ≡ (if nat_eq k q then Some v else get nat_cmp m q)

-- the map has the addresses as values of pointers
abbrev pub AreBlocks : BTreeMap ℕ ℤ → Blocks → Type 0
AreBlocks m block = (c : ℕ) → get nat_cmp m c ≡ option_map pos (block c)

abbrev pub block_number : Place → ℕ
block_number (arg k) = 0
block_number (stream k) = 1
block_number (field t c) = suc (suc t)

abbrev pub cell_number : Place → ℕ
cell_number (arg k) = k
cell_number (stream k) = k
cell_number (field t c) = c

abbrev pub at_block : (ℕ → ℕ → Option ℕ) → Option ℕ → ℕ → Option ℕ
at_block found None j = None
at_block found (Some q) j = found q j

abbrev pub block_of : Option ℕ → Option ℕ
block_of None = None
block_of (Some t) = Some (t + 2)

abbrev pub spot_of : Due → Spot
spot_of d = record { cell = cell_of d.ty; place = d.place }

abbrev pub spots_of : List Due → List Spot
spots_of l = map spot_of l

-- what passing a cell that holds z does to the cells that are due and the blocks
pub record Moves (p : Plan) (block : Blocks) (s : Spot) (z : ℤ) (old new : Laying) : Type 0 where
  pub more : List Spot
  pub after : Blocks
  pub due : spots_of new.due ≡ spots_of old.due ++ more
  pub kept : AreBlocks new.blocks after
  pub passes : Passes p (suc (length (spots_of old.due))) block s z more after

-- what the value of a cell changes
abbrev pub Changes : Plan → Spot → ℤ → Laying → Laying → Type 0
Changes p s z old new = (new.cells ≡ old.cells) × ((block : Blocks) → AreBlocks old.blocks block → Moves p block s z old new)

-- a cell is passed
abbrev pub Passed : Plan → Spot → Laying → Laying → Type 0
Passed p s old new = (z : ℤ) × (new.cells ≡ old.cells ++ z ∷ []) × ((block : Blocks) → AreBlocks old.blocks block → Moves p block s z old new)

-- where it stands before cell number `at`
pub record Stands (p : Plan) (first : List Spot) (at : ℕ) (s : Laying) : Type 0 where
  pub done : List Spot
  pub rest : List Spot
  pub block : Blocks
  pub both : spots_of s.due ≡ done ++ rest
  pub count : length done ≡ at
  pub kept : AreBlocks s.blocks block
  pub lays : Lays p first done rest s.cells block

-- all cells are passed
abbrev pub Finished : Plan → List Spot → List ℤ → Type 0
Finished p first cells = (all : List Spot) × (block : Blocks) × Lays p first all [] cells block × (length cells < 10 ^ 18)

-- how long the stream is for a place, where there is one
abbrev pub needs_of : Option Placed → ℕ
needs_of None = 0
needs_of (Some e) = needs e.place
