-- What a variable is as a place.
use Rattle.cc_model.specs.Core as core
use Rattle.cc_model.specs.Core.{Loc}
use Rattle.tac_lower.specs.declared.known.Variable.{Variable}
use Rattle.tac_lower.specs.declared.known.Variable.TheVariants.{Local, Global}

abbrev pub variable_place : Variable → Loc
variable_place (Local slot) = core.local slot
variable_place (Global cell) = core.global cell
