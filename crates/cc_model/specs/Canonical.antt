-- The inputs of a function: the one list of cells of each graph that its parameters reach. The rule is this project's own.
use Rattle.std.specs.Prelude.{ℕ, suc, ◌+◌, ◌≡◌, ◌⊎◌, ℤ, pos, ◌≤ℤ◌, List, [], ◌∷◌, ◌++◌, length, map}
use Rattle.cc_base.specs.declared.inputs.Input.{Input}
use Rattle.cc_base.specs.Limits.{Limits, base_of}
use Rattle.cc_base.specs.Paths.{In}
use Rattle.cc_model.specs.Core.{Cell, int_cell, ptr_cell}

-- a block that a pointer cell has named: its address and its type
pub record Named : Type 0 where
  pub address : ℕ
  pub type : ℕ

abbrev pub Within : Limits → ℤ → Type 0
Within b z = (b.lo ≤ℤ z) × (z ≤ℤ b.hi)

abbrev pub AllWithin : Limits → List ℤ → Type 0
AllWithin b [] = Unit {0}
AllWithin b (z ∷ zs) = Within b z × AllWithin b zs

-- a pointer cell to the type holds NULL, or the address of a block of that type that an earlier pointer cell named
abbrev pub NamesOld : List Named → ℕ → ℤ → Type 0
NamesOld named t z = (z ≡ pos 0) ⊎ ((k : Named) × In k named × (z ≡ pos k.address) × (k.type ≡ t))

module _ (layouts : ℕ → List Cell) (b : Limits) where
  -- the cells from an address on: `due` are the types of the cells that are still to come, `named` the blocks so far,
  -- and `next` the first address behind them. An int cell holds a number within the bounds. A pointer cell holds NULL,
  -- an earlier block, or `next`, which is then a new block of its type. The list ends before `next`.
  abbrev pub AreCells : List Cell → List Named → ℕ → List ℤ → Type 0
  AreCells [] named next [] = Unit {0}
  AreCells (c ∷ due) named next [] = ⊥
  AreCells [] named next (z ∷ zs) = ⊥
  AreCells (int_cell ∷ due) named next (z ∷ zs) = Within b z × AreCells due named next zs
  AreCells (ptr_cell t ∷ due) named next (z ∷ zs) =
      (NamesOld named t z × AreCells due named next zs)
      ⊎ ((z ≡ pos next) × AreCells (due ++ layouts t) (record { address = next; type = t } ∷ named) (next + length (layouts t)) zs)

  -- the parameters' cells stand from address 1 on, and the blocks behind them
  abbrev pub IsCanonical : List Cell → Input → Type 0
  IsCanonical params h = AreCells params [] (suc (length params)) h.cells × AllWithin b h.stream

-- the base input: NULL in each pointer cell, the base value in each int cell, an empty stream
abbrev pub base_cell : Limits → Cell → ℤ
base_cell b int_cell = base_of b
base_cell b (ptr_cell t) = pos 0

abbrev pub base_input_of : Limits → List Cell → Input
base_input_of b params = record { cells = map (base_cell b) params; stream = [] }
