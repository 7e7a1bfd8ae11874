-- An answer's input.
use Rattle.cc_base.specs.Limits.{Limits}
use Rattle.cc_model.specs.Core.{Program}
use Rattle.cc_model.specs.Runs.{IsInput}
use Rattle.flip_solve.specs.declared.flipping.Turned.{Turned}
use Rattle.flip_solve.specs.declared.flipping.Turned.TheVariants as came

-- an input that is answered is one within the bounds
abbrev pub IsWithinIf : Program → Limits → Turned → Type 0
IsWithinIf p b (came.Turned i) = IsInput p b i
IsWithinIf p b came.Never = Unit {0}
IsWithinIf p b came.Spent = Unit {0}
