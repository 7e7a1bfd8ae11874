-- Places: where the values of an input stand. They are this project's own.
use Rattle.std.specs.Prelude.{ℕ, zero, suc, ◌<◌, ◌≡◌, ℤ, pos, negsuc, ◌+ℤ◌, Option, Some, None, List, slice_get, unwrap_or, option_and_then}
use Rattle.cc_base.specs.declared.cells.CellTy.{CellTy}
use Rattle.cc_base.specs.declared.inputs.Input.{Input}

-- a parameter cell, a cell of the block that a place points to, or a stream number, each from 0
pub data Place : Type 0 where
  arg : (i : ℕ) → Place
  field : (parent c : ℕ) → Place
  stream : (i : ℕ) → Place

-- a place, and what stands there
pub record Placed : Type 0 where
  pub place : Place
  pub holds : CellTy

-- a block's place stands before the places of its cells
abbrev pub ParentBelow : ℕ → Place → Type 0
ParentBelow n (arg i) = Unit {0}
ParentBelow n (field parent c) = parent < n
ParentBelow n (stream i) = Unit {0}

-- so it is throughout the list
pub record ParentsFirst (places : List Placed) : Type 0 where
  pub below : (id : ℕ) (p : Placed) → slice_get places id ≡ Some p → ParentBelow id p.place

-- the cell at an address, of which the first is 1
unfoldable pub cell_at : List ℤ → ℤ → Option ℤ
cell_at cells (pos zero) = None
cell_at cells (pos (suc n)) = slice_get cells n
cell_at cells (negsuc n) = None

-- the cell c cells behind the one that is pointed to; NULL, which is 0, points to none
unfoldable pub cell_behind : List ℤ → ℤ → ℕ → Option ℤ
cell_behind cells (pos zero) c = None
cell_behind cells (pos (suc a)) c = cell_at cells (pos (suc a) +ℤ pos c)
cell_behind cells (negsuc a) c = cell_at cells (negsuc a +ℤ pos c)

-- the value at a place, by the values of places before it; past the stream's end stands the base value
unfoldable pub value_there : (ℕ → Option ℤ) → Input → ℤ → Place → Option ℤ
value_there before i base (arg k) = slice_get i.cells k
value_there before i base (field parent c) = option_and_then (λ a. cell_behind i.cells a c) (before parent)
value_there before i base (stream k) = Some (unwrap_or (slice_get i.stream k) base)

-- the value at a place that fewer than n pointers lead to
unfoldable pub value_within : ℕ → List Placed → Input → ℤ → ℕ → Option ℤ
value_within zero places i base id = None
value_within (suc n) places i base id = option_and_then (λ p. value_there (value_within n places i base) i base p.place) (slice_get places id)

-- the value at a place by following pointers in the input; each parent has a smaller number, so there are at most `id` pointers
unfoldable pub at_place : List Placed → Input → ℤ → ℕ → Option ℤ
at_place places i base id = value_within (suc id) places i base id
