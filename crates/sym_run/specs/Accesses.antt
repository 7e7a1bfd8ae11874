-- What an access takes from the input: a block's cells, with their places.
use Rattle.std.specs.Prelude.{ℕ, zero, suc, ℤ, pos, negsuc, ◌≤ℤ◌, List, [], ◌∷◌, ◌++◌}
use Rattle.cc_base.specs.declared.cells.CellTy.{CellTy}
use Rattle.cc_base.specs.declared.cells.CellTy.TheVariants as cell
use Rattle.checked_memory.specs.declared.values.Cell.{Cell}
use Rattle.checked_memory.specs.declared.values.Value.{Value}
use Rattle.checked_memory.specs.declared.values.Value.TheVariants.{Int, Null, Block}
use Rattle.cc_laws.specs.LinearForms.{linear}
use Rattle.cc_model.specs.Core as core
use Rattle.cc_model.specs.Traced as traced
use Rattle.cc_model.specs.Canonical.{Named, NamesOld}
use Rattle.sym_run.specs.declared.objects.First.{First}
use Rattle.sym_expr.specs.Sums.{place_form}
use Rattle.sym_run.specs.declared.symbols.Symbol.{Symbol}
use Rattle.sym_run.specs.declared.symbols.Symbol.TheVariants.{Form, Place}

-- NULL, or the first cell of the block at an address
abbrev pub pointer_to : ℤ → Value
pointer_to (pos zero) = Null
pointer_to (pos (suc n)) = Block (pos (suc n)) 0
pointer_to (negsuc n) = Null

-- what an input's cell of a type holds
abbrev pub held : CellTy → ℤ → Value
held cell.Int z = Int z
held (cell.Ptr t) z = pointer_to z

-- what stands beside it, where n is its place
abbrev pub symbol_at : ℕ → CellTy → Symbol
symbol_at n cell.Int = Form (place_form n)
symbol_at n (cell.Ptr t) = Place (record { 0 = n }) t

-- the symbols of a block's cells, whose places are numbered from n on
abbrev pub symbols_from : ℕ → List CellTy → List Symbol
symbols_from n [] = []
symbols_from n (c ∷ cs) = symbol_at n c ∷ symbols_from (suc n) cs

-- a block's cells, whose shadows are numbered from n on
abbrev pub cells_from : ℕ → List CellTy → List ℤ → List Cell
cells_from n [] zs = []
cells_from n (c ∷ cs) [] = []
cells_from n (c ∷ cs) (z ∷ zs) = record { value = held c z; shadow = n } ∷ cells_from (suc n) cs zs

-- what an input's cell of a type may hold, where these blocks are named
abbrev pub MayHold : List Named → CellTy → ℤ → Type 0
MayHold named cell.Int z = (negsuc 2147483647 ≤ℤ z) × (z ≤ℤ pos 2147483647)
MayHold named (cell.Ptr t) z = NamesOld named t.0 z

-- the data with a touched block more
abbrev pub with_touched : (ℕ → List core.Cell) → ℕ → First → traced.Data → traced.Data
with_touched layouts a f d = record { plain = record d.plain { touched = (d.plain).touched ++ a ∷ [] }; shadows = traced.touch linear layouts f.place.0 f.ty.0 d.shadows }
