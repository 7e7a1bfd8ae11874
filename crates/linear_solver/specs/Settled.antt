-- What is known of a group.
use Rattle.std.specs.Prelude.{ℕ, ◌≤◌, ◌<◌, ℤ, List}
use Rattle.cc_base.specs.Groups.{Atom, HoldAll, Between, places_in}
use Rattle.cc_base.specs.Need.{need}
use Rattle.cc_base.specs.Solve as plain
use Rattle.linear_solver.specs.declared.group.GroupAnswer.{GroupAnswer}
use Rattle.linear_solver.specs.declared.group.GroupAnswer.TheVariants.{Values, Refuted, Beyond}
use Rattle.linear_solver.specs.Seen.{at_places}

abbrev pub Settles : ℤ → ℤ → ℕ → List Atom → GroupAnswer → Type 0
Settles lo hi b g (Values v) = (need lo hi g ≤ b) × Between lo hi (at_places v.items) (places_in g) × HoldAll (at_places v.items) g
Settles lo hi b g Refuted = plain.Refuted lo hi b g
Settles lo hi b g Beyond = b < need lo hi g
