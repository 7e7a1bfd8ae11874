-- Operations on numbers and what is formed, as plain data; and cells by their forms and numbers.
use Rattle.std.specs.Prelude.{◌≡◌, ℤ, pos, negsuc, ◌≤ℤ◌, List, ◌++◌}
use Rattle.cc_base.specs.declared.outcomes.Outcome.{Outcome}
use Rattle.cc_base.specs.Forms.{Form, Atom}
use Rattle.checked_memory.specs.declared.values.Cell.{Cell}
use Rattle.checked_memory.specs.declared.values.Value.{Value}
use Rattle.checked_memory.specs.declared.values.Value.TheVariants.{Int}
use Rattle.cc_model.specs.Core as core
use Rattle.cc_model.specs.Core.{Op, Cmp}
use Rattle.cc_model.specs.Plain.{num, number_of}
use Rattle.cc_model.specs.Traced as traced
use Rattle.cc_model.specs.Traced.{Traced, plain_number, formed, termed}
use Rattle.cc_laws.specs.LinearForms.{linear}
use Rattle.sym_expr.specs.Sums.{IsNarrow}
use Rattle.sym_run.specs.declared.symbols.Symbol.{Symbol}
use Rattle.sym_run.specs.declared.numbers.Operation.{Operation}
use Rattle.sym_run.specs.declared.numbers.Operation.TheVariants.{Add, Sub, Mul, Quotient, Remainder}
use Rattle.sym_run.specs.declared.numbers.Comparison.{Comparison}
use Rattle.sym_run.specs.declared.numbers.Comparison.TheVariants.{Equal, Unequal, Less, Greater, AtMost, AtLeast}
use Rattle.sym_run.specs.declared.operations.Formed.{Formed}
use Rattle.sym_run.specs.declared.operations.Formed.TheVariants.{PlainNumber, Linear, Termed}
use Rattle.sym_run.specs.Beside.{value_of, traced_of}

abbrev pub op_of : Operation → Op
op_of Add = core.add
op_of Sub = core.sub
op_of Mul = core.mul
op_of Quotient = core.quot
op_of Remainder = core.rem

abbrev pub cmp_of : Comparison → Cmp
cmp_of Equal = core.eq
cmp_of Unequal = core.ne
cmp_of Less = core.lt
cmp_of Greater = core.gt
cmp_of AtMost = core.le
cmp_of AtLeast = core.ge

-- a number of 32 bits
abbrev pub IsWord : ℤ → Type 0
IsWord z = (negsuc 2147483647 ≤ℤ z) × (z ≤ℤ pos 2147483647)

abbrev pub formed_seen : Formed → traced.Formed
formed_seen PlainNumber = plain_number
formed_seen (Linear g) = formed g
formed_seen (Termed k) = termed k

-- a form that comes of an operation is narrow
abbrev pub IsKept : traced.Formed → Type 0
IsKept (formed g) = IsNarrow g
IsKept _ = Unit {0}

-- the form of a cell's number
abbrev pub form_at : List Symbol → Cell → Form
form_at symbols c = traced.form_of linear (traced_of symbols c).shadow

-- the number in a cell
abbrev pub number_at : Cell → ℤ
number_at c = number_of (value_of c.value)

-- it is no number
abbrev pub IsPointer : Value → Type 0
IsPointer (Int z) = ⊥
IsPointer _ = Unit {0}

-- symbols are added behind the old ones
abbrev pub Grows : List Symbol → List Symbol → Type 0
Grows old new = (added : List Symbol) × (new ≡ old ++ added)

-- an outcome with its atoms
abbrev pub choice_with : Outcome → List Atom → traced.Choice
choice_with o l = record { outcome = o; atoms = l }

-- a number with what stands beside it
abbrev pub numbered : traced.Formed → ℤ → Traced
numbered f z = record { plain = num z; shadow = traced.shadow_of linear f (num z) }
