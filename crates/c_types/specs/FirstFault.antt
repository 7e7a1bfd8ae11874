-- The first of some faults.
use Rattle.std.specs.Prelude.{◌≡◌, Bool, ◌&&◌, ◌||◌, nat_eq, nat_lt, nat_le, List, [], ◌∷◌, Option, Some, None}
use Rattle.cc_base.specs.Paths.{In}
use Rattle.cc_model.specs.Faults as faults
use Rattle.cc_model.specs.Faults.{NotAfter, wrong_rank}
use Rattle.c_types.specs.declared.least.Found.{Found}

abbrev pub fault : Found → faults.Found
fault f = record { what = f.what; token = f.token }

-- as a list
abbrev pub faults_of : Option Found → List faults.Found
faults_of None = []
faults_of (Some f) = fault f ∷ []

abbrev pub is_first : Found → Found → Bool
is_first f g = nat_lt f.token g.token || (nat_eq f.token g.token && nat_le (wrong_rank f.what) (wrong_rank g.what))

-- none of no faults, and otherwise one of them that stands after no other
abbrev pub IsLeast : List faults.Found → Option Found → Type 0
IsLeast l None = l ≡ []
IsLeast l (Some f) = In (fault f) l × ((g : faults.Found) → In g l → NotAfter (fault f) g)
