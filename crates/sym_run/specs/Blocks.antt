-- The blocks of an input, and what a memory that is laid out from the input's cells has at each.
use Rattle.std.specs.Prelude.{ℕ, suc, ◌≡◌, ◌≤◌, ◌<◌, ◌+◌, ◌-◌, ℤ, List, [], ◌∷◌, length, map, drop, Some, slice_get}
use Rattle.cc_base.specs.declared.inputs.Input.{Input}
use Rattle.cc_base.specs.Limits.{Limits}
use Rattle.cc_base.specs.Paths.{In}
use Rattle.cc_model.specs.Core.{Cell, int_cell, ptr_cell}
use Rattle.cc_model.specs.Canonical.{Named, NamesOld, Within, AllWithin}
use Rattle.cc_model.specs.Graphs.{named_by}
use Rattle.cc_model.specs.Plain.{Value, value_at, data_of}

-- the values of cells of these types, as long as both lists last
abbrev pub values_from : List Cell → List ℤ → List Value
values_from [] zs = []
values_from (c ∷ cs) [] = []
values_from (c ∷ cs) (z ∷ zs) = value_at c z ∷ values_from cs zs

module _ (layouts : ℕ → List Cell) where
  -- the blocks that pointer cells name, with their types, in order of address: the cells, the types that are due, and the
  -- address of the next new block
  abbrev pub blocks_named : List ℤ → List Cell → ℕ → List Named
  blocks_named zs due next = named_by layouts due next zs

  -- those of an input
  abbrev pub named_in : List Cell → Input → List Named
  named_in params h = blocks_named h.cells params (suc (length params))

  -- a block's cells stand at its address, and the parameters' cells at the front: cell 0 has address 1
  pub record IsLaidOut (b : Limits) (params : List Cell) (globals : List Value) (base : ℤ) (h : Input) : Type 0 where
    -- what each block and each parameter has in the memory
    pub block_values : (k : Named) → In k (named_in params h) → (data_of layouts params globals h.cells h.stream base).blocks k.address ≡ values_from (layouts k.type) (drop (k.address - 1) h.cells)
    pub param_values : (data_of layouts params globals h.cells h.stream base).made ≡ globals ∷ map (λ v. v ∷ []) (values_from params h.cells)
    -- where they stand: each block has a cell, and lies behind the parameters and within the input
    pub params_end : length params ≤ length h.cells
    pub block_begins : (k : Named) → In k (named_in params h) → length params < k.address
    pub block_address : (k : Named) → In k (named_in params h) → 1 ≤ k.address
    pub block_has_cells : (k : Named) → In k (named_in params h) → 1 ≤ length (layouts k.type)
    pub block_ends : (k : Named) → In k (named_in params h) → k.address - 1 + length (layouts k.type) ≤ length h.cells
    -- a pointer cell holds NULL or the address of a block of its target type
    pub pointers_named : (k : Named) → In k (named_in params h) → (c u : ℕ) (z : ℤ) → slice_get (layouts k.type) c ≡ Some (ptr_cell u) → slice_get h.cells (k.address - 1 + c) ≡ Some z → NamesOld (named_in params h) u z
    pub param_pointers_named : (c u : ℕ) (z : ℤ) → slice_get params c ≡ Some (ptr_cell u) → slice_get h.cells c ≡ Some z → NamesOld (named_in params h) u z
    -- an int cell holds a number within the bounds, and so does the stream
    pub numbers_within : (k : Named) → In k (named_in params h) → (c : ℕ) (z : ℤ) → slice_get (layouts k.type) c ≡ Some int_cell → slice_get h.cells (k.address - 1 + c) ≡ Some z → Within b z
    pub param_numbers_within : (c : ℕ) (z : ℤ) → slice_get params c ≡ Some int_cell → slice_get h.cells c ≡ Some z → Within b z
    pub stream_within : AllWithin b h.stream
    -- at an address begins one block
    pub one_type : (j k : Named) → In j (named_in params h) → In k (named_in params h) → j.address ≡ k.address → j ≡ k
