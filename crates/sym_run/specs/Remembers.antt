-- What the memory, the touched blocks and the places of a run stand for.
use Rattle.std.specs.Prelude.{ℕ, ◌≡◌, ◌⊎◌, pos, ◌≤ℤ◌, nat_abs, List, [], ◌∷◌, length, map, nat_eq, if◌then◌else◌}
use Rattle.cc_base.specs.Paths.{In}
use Rattle.cc_base.specs.declared.cells.CellTy.{CellTy}
use Rattle.cc_base.specs.declared.cells.CellTy.TheVariants as cell
use Rattle.checked_memory.specs.declared.values.Cell.{Cell}
use Rattle.checked_memory.specs.declared.values.Value.{Value}
use Rattle.checked_memory.specs.declared.values.Value.TheVariants.{Int, Null, Made, Block}
use Rattle.checked_memory.specs.Contents.{TouchedBlock}
use Rattle.cc_model.specs.Plain as plain
use Rattle.cc_model.specs.Traced.{Shadow, form, place, none, Touched, Data}
use Rattle.cc_model.specs.Canonical.{Named}
use Rattle.sym_run.specs.declared.symbols.Symbol.{Symbol}
use Rattle.sym_run.specs.declared.objects.First.{First}
use Rattle.sym_run.specs.declared.objects.Objects.{Objects}
use Rattle.sym_run.specs.Beside.{IsCell, value_of, shadow_by}

-- P holds of every one of the list
abbrev pub Every : {A : Type 0} → (A → Type 0) → List A → Type 0
Every P [] = Unit {0}
Every P (x ∷ l) = P x × Every P l

-- the cell that stands where nothing was stored
abbrev pub zero_of : CellTy → Cell
zero_of cell.Int = record { value = Int (pos 0); shadow = 0 }
zero_of (cell.Ptr t) = record { value = Null; shadow = 0 }

-- ---- what cells and blocks stand for

abbrev pub cell_value : Cell → plain.Value
cell_value c = value_of c.value

-- what stands beside a cell's value
abbrev pub cell_shadow : List Symbol → Cell → Shadow
cell_shadow symbols c = shadow_by symbols c.shadow (value_of c.value)

abbrev pub name_of : TouchedBlock → ℕ
name_of b = nat_abs b.address

-- the names of the touched blocks, by rank
abbrev pub names_in : Objects → List ℕ
names_in o = map name_of o.memory.touched

-- the cells of a block: those of the touched one with its name, or else those that it has at the start
abbrev pub cells_in : ℕ → List plain.Value → List TouchedBlock → List plain.Value
cells_in a start [] = start
cells_in a start (b ∷ bs) = if nat_eq a (name_of b) then map cell_value b.cells else cells_in a start bs

-- the touched blocks with their first places, types and shadows, by rank
abbrev pub touched_seen : List Symbol → List First → List TouchedBlock → List Touched
touched_seen symbols [] bs = []
touched_seen symbols (f ∷ fs) [] = []
touched_seen symbols (f ∷ fs) (b ∷ bs) = record { first = f.place.0; type = f.ty.0; shadows = map (cell_shadow symbols) b.cells } ∷ touched_seen symbols fs bs

-- ---- pointers

-- a pointer to a block that isn't touched points to its first cell and has a place, and the input names the block with the
-- place's target type
pub record IsNew (named : List Named) (s : Shadow) (a i : ℕ) : Type 0 where
  pub by : ℕ
  pub type : ℕ
  pub begins : i ≡ 0
  pub beside : s ≡ place by type
  pub listed : In (record { address = a; type = type }) named

abbrev pub IsPointed : List Named → List ℕ → Shadow → Value → Type 0
IsPointed named touched s (Int z) = Unit {0}
IsPointed named touched s Null = Unit {0}
IsPointed named touched s (Made n i) = Unit {0}
IsPointed named touched s (Block a i) = In (nat_abs a) touched ⊎ IsNew named s (nat_abs a) i

-- beside a number stands a form, and beside a pointer none
abbrev pub IsNumber : Value → Type 0
IsNumber (Int z) = Unit {0}
IsNumber Null = ⊥
IsNumber (Made n i) = ⊥
IsNumber (Block a i) = ⊥

abbrev pub Suits : Shadow → Value → Type 0
Suits (form g) v = IsNumber v
Suits (place p t) v = IsNumber v → ⊥
Suits none v = IsNumber v → ⊥

-- what is known of each cell of a run, where these blocks are touched
pub record IsKnown (named : List Named) (touched : List ℕ) (symbols : List Symbol) (c : Cell) : Type 0 where
  pub cell : IsCell symbols c
  pub kind : Suits (cell_shadow symbols c) c.value
  pub pointer : IsPointed named touched (cell_shadow symbols c) c.value

-- ---- the whole

-- the state of a run's code stands for the data of the traced meaning, where the run began with the memory `start`
pub record Remembers (start : plain.Data) (named : List Named) (symbols : List Symbol) (o : Objects) (d : Data) : Type 0 where
  pub made : (d.plain).made ≡ map (map cell_value) o.memory.made
  pub blocks : (a : ℕ) → (d.plain).blocks a ≡ cells_in a (start.blocks a) o.memory.touched
  pub touched : (d.plain).touched ≡ names_in o
  pub stream : (d.plain).stream ≡ start.stream
  pub base : (d.plain).base ≡ start.base
  pub count : (d.plain).count ≡ o.taken
  pub made_shadows : (d.shadows).made ≡ map (map (cell_shadow symbols)) o.memory.made
  pub touched_shadows : (d.shadows).touched ≡ touched_seen symbols o.firsts o.memory.touched
  pub places : (d.shadows).places ≡ o.places
  -- each touched block has its first place, and its address is a number from 0
  pub firsts : length o.firsts ≡ length o.memory.touched
  pub addresses : Every (λ b. pos 0 ≤ℤ b.address) o.memory.touched
  -- and of each cell it is known where it points
  pub made_cells : Every (Every (IsKnown named (names_in o) symbols)) o.memory.made
  pub touched_cells : Every (λ b. Every (IsKnown named (names_in o) symbols) b.cells) o.memory.touched
