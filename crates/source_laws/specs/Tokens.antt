-- How often a token is told.
use Rattle.std.specs.Prelude.{ℕ, ◌+◌, List, [], ◌∷◌, nat_eq, if◌then◌else◌}
use Rattle.cc_model.specs.declared.typing.Note.{Note}
use Rattle.cc_model.specs.declared.typing.Note.TheVariants.{Typed as typed}

-- 1 for the number, and 0 for any other
abbrev pub hit : ℕ → ℕ → ℕ
hit k n = if nat_eq k n then 1 else 0

-- how often a number stands in a list
abbrev pub times : ℕ → List ℕ → ℕ
times k [] = 0
times k (n ∷ l) = hit k n + times k l

-- the tokens of which a type is said, in order
abbrev pub typed_in : List Note → List ℕ
typed_in [] = []
typed_in (typed t type ∷ l) = t ∷ typed_in l
typed_in (_ ∷ l) = typed_in l
