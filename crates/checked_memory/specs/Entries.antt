-- The objects of a memory, and what they stand for. The layout is this project's own.
use Rattle.std.specs.Prelude.{ℕ, zero, suc, ◌<◌, ◌≤◌, ◌≡◌, ◌≢◌, ℤ, Option, Some, None, List, [], ◌∷◌, length, map, take, slice_index_or}
use Rattle.checked_memory.specs.declared.values.Cell.{Cell}
use Rattle.checked_memory.specs.declared.values.Value.{Value}
use Rattle.checked_memory.specs.declared.values.Value.TheVariants.{Int, Null, Made, Block as InBlock}
use Rattle.checked_memory.specs.declared.places.Object.{Object}
use Rattle.checked_memory.specs.declared.places.Block.{Block}
use Rattle.checked_memory.specs.Contents.{Contents, TouchedBlock}

-- the cells of a made object, or a touched block with its cells
pub data Entry : Type 0 where
  plain : List Cell → Entry
  block : Block → List Cell → Entry

-- what an object stands for
abbrev pub entry_of : Option Block → List Cell → Entry
entry_of None cs = plain cs
entry_of (Some b) cs = block b cs

abbrev pub entries : List Object → List Entry
entries os = map (λ (o : Object). entry_of o.block o.cells.items) os

-- the cells of the made objects
abbrev pub made_of : List Entry → List (List Cell)
made_of [] = []
made_of (plain cs ∷ es) = cs ∷ made_of es
made_of (block b cs ∷ es) = made_of es

-- the touched blocks
abbrev pub touched_of : List Entry → List TouchedBlock
touched_of [] = []
touched_of (plain cs ∷ es) = touched_of es
touched_of (block b cs ∷ es) = record { address = b.address; cells = cs } ∷ touched_of es

abbrev pub contents : List Entry → Contents
contents es = record { made = made_of es; touched = touched_of es }

-- the touched block of an entry, if it is one
abbrev pub block_of : Entry → Option Block
block_of (plain cs) = None
block_of (block b cs) = Some b

-- the cells of an entry
abbrev pub cells_of : Entry → List Cell
cells_of (plain cs) = cs
cells_of (block b cs) = cs

-- the touched block at an index, if one stands there
abbrev pub block_there : List Entry → ℕ → Option Block
block_there es i = block_of (slice_index_or es i (plain []))

-- the step of the next definition at an index that a touched block stands at, or does not
abbrev pub LinkedBy : Option Block → ℕ → Option ℕ → (Option ℕ → Type 0) → Type 0
LinkedBy None n link Below = Below link
LinkedBy (Some b) n link Below = (link ≡ Some n) × Below b.before

-- a link names the last touched block below an index, and that one the block before it, and so on
abbrev pub Linked : List Entry → ℕ → Option ℕ → Type 0
Linked es zero link = link ≡ None
Linked es (suc n) link = LinkedBy (block_there es n) n link (λ before. Linked es n before)

-- a link names the last touched block of all
abbrev pub IsLinked : List Entry → Option ℕ → Type 0
IsLinked es link = Linked es (length es) link

-- the entry at an index is the touched block at an address, with a rank
pub record IsBlock (es : List Entry) (address : ℤ) (index rank : ℕ) : Type 0 where
  pub there : Block
  pub inside : index < length es
  pub stands : block_there es index ≡ Some there
  pub same_address : there.address ≡ address
  pub ranked : rank ≡ length (touched_of (take index es))

-- the entry at an index is the made object with a number
pub record IsMade (es : List Entry) (number index : ℕ) : Type 0 where
  pub inside : index < length es
  pub stands : block_there es index ≡ None
  pub numbered : number ≡ length (made_of (take index es))

-- a pointer points to a cell of an entry
abbrev pub IsPlace : Value → List Entry → ℕ → ℕ → Type 0
IsPlace (Made n i) es index cell = (cell ≡ i) × IsMade es n index
IsPlace (InBlock a i) es index cell = (cell ≡ i) × (rank : ℕ) × IsBlock es a index rank
IsPlace (Int n) es index cell = ⊥
IsPlace Null es index cell = ⊥

-- the entries stand for a memory: blocks are linked and counted, and no address stands twice
pub record Holds (es : List Entry) (latest : Option ℕ) (touched : ℕ) : Type 0 where
  pub linked : IsLinked es latest
  pub counted : touched ≡ length (touched_of es)
  pub few : touched ≤ 26
  pub apart : (i j : ℕ) (b c : Block) → i < j → j < length es → block_there es i ≡ Some b → block_there es j ≡ Some c → b.address ≢ c.address
