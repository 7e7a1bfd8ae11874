-- What the cells of a run hold at its start.
use Rattle.std.specs.Prelude.{◌≡◌, ◌≤◌, ℕ, suc, pos, negsuc, ◌≤ℤ◌, List, [], ◌∷◌, length, map}
use Rattle.cc_base.specs.declared.cells.CellTy.{CellTy}
use Rattle.cc_base.specs.declared.inputs.Input.{Input}
use Rattle.cc_base.specs.Limits.{Limits}
use Rattle.checked_memory.specs.declared.values.Cell.{Cell}
use Rattle.checked_memory.specs.declared.values.Value.{Value}
use Rattle.checked_memory.specs.declared.values.Value.TheVariants.{Int, Null, Made}
use Rattle.cc_model.specs.declared.checked.Checked.{Checked}
use Rattle.cc_model.specs.CheckedProgram.{cell_of, core_of}
use Rattle.cc_model.specs.Core.{Start, start_number, start_null}
use Rattle.cc_model.specs.Runs.{params_of}
use Rattle.cc_model.specs.Traced.{arg_places}
use Rattle.sym_run.specs.declared.symbols.Symbol.{Symbol}
use Rattle.sym_run.specs.declared.objects.Objects.{Objects}
use Rattle.sym_run.specs.Accesses.{cells_from, symbols_from}
use Rattle.sym_run.specs.Beside.{IsValue}
use Rattle.sym_run.specs.Remembers.{Every}

-- a number or NULL, and nothing else beside it
abbrev pub value_starting : Start → Value
value_starting (start_number z) = Int z
value_starting start_null = Null

abbrev pub cell_starting : Start → Cell
cell_starting s = record { value = value_starting s; shadow = 0 }

abbrev pub cells_starting : List Start → List Cell
cells_starting l = map cell_starting l

-- an object of one cell, for each cell
abbrev pub singles : List Cell → List (List Cell)
singles l = map (λ c. c ∷ []) l

abbrev pub null_cell : Cell
null_cell = record { value = Null; shadow = 0 }

-- parameter n is object n + 1
abbrev pub pointer_to_param : ℕ → Cell
pointer_to_param n = record { value = Made (suc n) 0; shadow = 0 }

-- the bounds' numbers are of 32 bits
abbrev pub WordBounds : Limits → Type 0
WordBounds b = (negsuc 2147483647 ≤ℤ b.lo) × (b.hi ≤ℤ pos 2147483647)

-- the objects and symbols with which the run on an input begins
pub record IsLaid (c : Checked) (h : Input) (symbols : List Symbol) (o : Objects) : Type 0 where
  pub types : List CellTy
  pub params : map cell_of types ≡ params_of (core_of c)
  pub enough : length types ≤ length h.cells
  pub words : Every (λ c. IsValue c.value) (cells_starting (core_of c).globals)
  pub symbolic : symbols ≡ symbols_from 0 types
  pub memory : o.memory ≡ record { made = cells_starting (core_of c).globals ∷ singles (cells_from 1 types h.cells); touched = [] }
  pub firsts : o.firsts ≡ []
  pub places : o.places ≡ arg_places 0 (params_of (core_of c))
  pub taken : o.taken ≡ 0
