-- The values of a run with what stands beside them, as cells and symbols hold them.
use Rattle.std.specs.Prelude.{ℕ, zero, suc, ◌≤◌, pos, negsuc, ◌≤ℤ◌, List, Option, Some, None, slice_get, length, nat_abs}
use Rattle.checked_memory.specs.declared.values.Cell.{Cell}
use Rattle.checked_memory.specs.declared.values.Value.{Value}
use Rattle.checked_memory.specs.declared.values.Value.TheVariants.{Int, Null, Made, Block}
use Rattle.cc_model.specs.Plain as plain
use Rattle.cc_model.specs.Plain.{num, null, at, block, made}
use Rattle.cc_model.specs.Traced.{Shadow, form, place, none, Traced}
use Rattle.sym_expr.specs.Sums.{number_form, IsNarrow}
use Rattle.sym_run.specs.declared.symbols.Symbol.{Symbol}
use Rattle.sym_run.specs.declared.symbols.Symbol.TheVariants.{Form, Place}

-- a form beside a value is one that the operations on forms kept, so it isn't shifted
abbrev pub IsSymbol : Symbol → Type 0
IsSymbol (Form g) = IsNarrow g
IsSymbol (Place p t) = Unit {0}

-- a block's name is its address
abbrev pub value_of : Value → plain.Value
value_of (Int z) = num z
value_of Null = null
value_of (Made n c) = at (made n) c
value_of (Block a c) = at (block (nat_abs a)) c

abbrev pub shadow_of_symbol : Symbol → Shadow
shadow_of_symbol (Form g) = form g
shadow_of_symbol (Place p t) = place p.0 t.0

-- beside a number that hangs on no input stands the number as a form, and beside such a pointer nothing
abbrev pub unsymbolic : plain.Value → Shadow
unsymbolic (num z) = form (number_form z)
unsymbolic _ = none

abbrev pub shadow_if : plain.Value → Option Symbol → Shadow
shadow_if v None = unsymbolic v
shadow_if v (Some s) = shadow_of_symbol s

-- what a cell's shadow number means: 0 no symbol, and else one less a symbol's number
abbrev pub shadow_by : List Symbol → ℕ → plain.Value → Shadow
shadow_by symbols zero v = unsymbolic v
shadow_by symbols (suc n) v = shadow_if v (slice_get symbols n)

-- the value of a cell with what stands beside it
abbrev pub traced_of : List Symbol → Cell → Traced
traced_of symbols c = record { plain = value_of c.value; shadow = shadow_by symbols c.shadow (value_of c.value) }

-- a number of 32 bits, and a block's address
abbrev pub IsValue : Value → Type 0
IsValue (Int z) = (negsuc 2147483647 ≤ℤ z) × (z ≤ℤ pos 2147483647)
IsValue (Block a c) = pos 0 ≤ℤ a
IsValue _ = Unit {0}

-- the cell's shadow number means a symbol, and its value is one of the machine's
pub record IsCell (symbols : List Symbol) (c : Cell) : Type 0 where
  pub known : c.shadow ≤ length symbols
  pub value : IsValue c.value
