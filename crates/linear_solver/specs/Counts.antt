-- What choices show within a budget.
use Rattle.std.specs.Prelude.{ℕ, ◌+◌, nat_lt, List, if◌then◌else◌}
use Rattle.cc_base.specs.Inequality.{Inequality, MeetsAll}
use Rattle.cc_base.specs.Need as plain
use Rattle.cc_base.specs.Need.{found, closed, open_choice, after}
use Rattle.cc_base.specs.Groups.{Form}
use Rattle.linear_solver.specs.Atoms.{Apart}
use Rattle.linear_solver.specs.Seen.{at_places}
use Rattle.linear_solver.specs.declared.choice.Tried.{Tried}
use Rattle.linear_solver.specs.declared.choice.Tried.TheVariants.{Beyond, Found, Closed, Undecided}

unfoldable pub cost_of : plain.Tried → ℕ
cost_of (found c) = c
cost_of (closed c) = c
cost_of (open_choice c) = c

pub data TriedCount : Type 0 where
  beyond : TriedCount
  within : (t : plain.Tried) → TriedCount

unfoldable pub tried_count : ℕ → ℕ → plain.Tried → TriedCount
tried_count s b t = if nat_lt b (s + cost_of t) then beyond else within (after s t)

abbrev pub seen_tried : Tried → TriedCount
seen_tried Beyond = beyond
seen_tried (Found n values) = within (found n)
seen_tried (Closed n) = within (closed n)
seen_tried (Undecided n) = within (open_choice n)

-- what was found meets the list, and none of the forms is 0 there
abbrev pub FoundMeets : Tried → List Inequality → List Form → Type 0
FoundMeets Beyond l fs = Unit {0}
FoundMeets (Found n values) l fs = MeetsAll (at_places values.items) l × Apart (at_places values.items) fs
FoundMeets (Closed n) l fs = Unit {0}
FoundMeets (Undecided n) l fs = Unit {0}

-- what is known where a choice before stayed open
abbrev pub opened : TriedCount → TriedCount
opened beyond = beyond
opened (within (found c)) = within (found c)
opened (within (closed c)) = within (open_choice c)
opened (within (open_choice c)) = within (open_choice c)

-- what one found, the other found
abbrev pub Keeps : Tried → Tried → Type 0
Keeps a b = (l : List Inequality) (fs : List Form) → FoundMeets a l fs → FoundMeets b l fs
