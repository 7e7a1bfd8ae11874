-- What a parse gives.
use Rattle.std.specs.Prelude.{◌≡◌, Result, Ok, Err}
use Rattle.cc_model.specs.declared.trees.Program.{Program}
use Rattle.c_expressions.specs.declared.fault.ParseFault.{ParseFault}
use Rattle.c_expressions.specs.declared.fault.ParseFault.TheVariants.{NoMemory}

-- the one program, unless memory runs out
abbrev pub GivesOnly : Result Program ParseFault → Program → Type 0
GivesOnly (Ok x) p = x ≡ p
GivesOnly (Err f) p = f ≡ NoMemory
