-- What a checker sees at a place.
use Rattle.std.specs.Prelude.{ℕ, List, false}
use Rattle.cc_model.specs.declared.typing.Variable.{Variable}
use Rattle.cc_model.specs.declared.typing.Before.{Before}
use Rattle.cc_model.specs.declared.typing.File.{File}
use Rattle.cc_model.specs.Scopes.{View}
use Rattle.cc_model.specs.Faults.{Inside}

abbrev pub seen : File → Before → List (List Variable) → View
seen file before scopes = record { file = file; before = before; scopes = scopes }

-- a place of a function by its scopes alone, for what asks no more
abbrev pub here : List (List Variable) → Inside
here scopes = record { scopes = scopes; next = 0; in_loop = false }

-- and by the number of the next local
abbrev pub here_at : List (List Variable) → ℕ → Inside
here_at scopes next = record { scopes = scopes; next = next; in_loop = false }
