-- What a memory holds, as a caller sees it.
use Rattle.std.specs.Prelude.{ℕ, ℤ, ◌≡◌, ◌⊎◌, Option, Some, None, List, [], ◌∷◌, slice_get, slice_set, slice_index_or, if◌then◌else◌}
use Rattle.std.specs.Ordering.{int_eq}
use Rattle.checked_memory.specs.declared.values.Cell.{Cell}
use Rattle.checked_memory.specs.declared.values.Value.{Value}
use Rattle.checked_memory.specs.declared.values.Value.TheVariants.{Int, Null, Made, Block}

-- an input block that the run touched: its address and its cells (this project's own)
pub record TouchedBlock : Type 0 where
  pub address : ℤ
  pub cells : List Cell

-- the cells of each made object, by its number, and the touched blocks, by rank
pub record Contents : Type 0 where
  pub made : List (List Cell)
  pub touched : List TouchedBlock

-- the address of a touched block
abbrev pub address_of : TouchedBlock → ℤ
address_of b = b.address

-- the block at an address is touched
abbrev pub IsTouched : ℤ → List TouchedBlock → Type 0
IsTouched a [] = ⊥
IsTouched a (b ∷ bs) = (b.address ≡ a) ⊎ IsTouched a bs

-- the cells of the block at an address
abbrev pub cells_at : ℤ → List TouchedBlock → Option (List Cell)
cells_at a [] = None
cells_at a (b ∷ bs) = if int_eq b.address a then Some b.cells else cells_at a bs

-- the cell at an offset
abbrev pub at_offset : ℕ → Option (List Cell) → Option Cell
at_offset i None = None
at_offset i (Some cs) = slice_get cs i

-- the cell that a pointer points to, where it points to one
abbrev pub cell_at : Value → Contents → Option Cell
cell_at (Made n i) m = at_offset i (slice_get m.made n)
cell_at (Block a i) m = at_offset i (cells_at a m.touched)
cell_at (Int n) m = None
cell_at Null m = None

-- the blocks with another cell at an offset of the block at an address
abbrev pub blocks_with : ℤ → ℕ → Cell → List TouchedBlock → List TouchedBlock
blocks_with a i c [] = []
blocks_with a i c (b ∷ bs) = if int_eq b.address a then record { address = b.address; cells = slice_set b.cells i c } ∷ bs else b ∷ blocks_with a i c bs

-- the contents with another cell where a pointer points
abbrev pub with_cell : Value → Cell → Contents → Contents
with_cell (Made n i) c m = record { made = slice_set m.made n (slice_set (slice_index_or m.made n []) i c); touched = m.touched }
with_cell (Block a i) c m = record { made = m.made; touched = blocks_with a i c m.touched }
with_cell (Int n) c m = m
with_cell Null c m = m
