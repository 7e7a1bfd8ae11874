-- What the values of the code stand for.
use Rattle.std.specs.Prelude.{ℕ, ℤ, pos, get_or, ◌≡◌, ◌+◌, List, [], ◌∷◌, map, nat_lt, if◌then◌else◌}
use Rattle.linear_solver.specs.declared.inequalities.Inequality.{Inequality}
use Rattle.linear_solver.specs.declared.ready.Ready.{Ready}
use Rattle.linear_solver.specs.declared.ready.Ready.TheVariants.{Ended, Going}
use Rattle.linear_solver.specs.declared.pass.Counted as code
use Rattle.linear_solver.specs.declared.pass.Counted.TheVariants.{Over, Done}
use Rattle.linear_solver.specs.declared.pass.Step.{Step}
use Rattle.cc_base.specs.Witness.{Turn}
use Rattle.cc_base.specs.Pass as plain
use Rattle.cc_base.specs.Inequality as plainly
use Rattle.cc_base.specs.Pass.{Passed, ended, going}
use Rattle.cc_base.specs.declared.passes.PassEnd.{PassEnd}

abbrev pub seen : Inequality → plainly.Inequality
seen i = record { terms = i.terms.items; most = i.most }

unfoldable pub seen_all : List Inequality → List plainly.Inequality
seen_all l = map seen l

abbrev pub seen_ready : Ready → plain.Ready
seen_ready (Ended e) = ended e
seen_ready (Going x l) = going x (seen_all l.items)

-- the end of a pass, as long as its cost and what was spent before are within the budget
pub data Count : Type 0 where
  over : Count
  done : (how : PassEnd) → (spent : ℕ) → Count

unfoldable pub counted : ℕ → ℕ → Passed → Count
counted spent budget p = if nat_lt budget (spent + p.cost) then over else done p.how (spent + p.cost)

abbrev pub seen_counted : code.Counted → Count
seen_counted Over = over
seen_counted (Done e n trail) = done e n

abbrev pub seen_turn : Step → Turn
seen_turn t = record { place = t.place; list = seen_all t.list.items }

unfoldable pub seen_turns : List Step → List Turn
seen_turns l = map seen_turn l

-- the turns that a pass leaves
abbrev pub Leaves : code.Counted → List Turn → Type 0
Leaves Over t = Unit {0}
Leaves (Done e n trail) t = seen_turns trail.items ≡ t

-- the values by place, 0 past the end
unfoldable pub at_places : List ℤ → ℕ → ℤ
at_places l x = get_or l x (pos 0)

-- the same terms with another bound
unfoldable pub with_most : ℤ → plainly.Inequality → plainly.Inequality
with_most m i = record { terms = i.terms; most = m }

-- a multiple of one place is at most a number
unfoldable pub single : ℕ → ℤ → ℤ → plainly.Inequality
single x k m = record { terms = record { place = x; coefficient = k } ∷ []; most = m }
