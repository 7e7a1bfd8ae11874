-- What comes of solving a condition: whether an input can meet the atoms of an alternative and those that were taken before it.
-- All of it is this project's own.
use Rattle.std.specs.Prelude.{ℕ, ℤ, ◌⊎◌, List, ◌++◌}
use Rattle.cc_base.specs.Classes.{Contradicts}
use Rattle.cc_base.specs.Forms.{Atom}
use Rattle.cc_base.specs.Groups.{groups}
use Rattle.cc_base.specs.Slice.{slice_of}
use Rattle.cc_base.specs.Solve.{SomeRefuted, SomeBeyond}
use Rattle.cc_model.specs.Tested.{Answer, never, spent, turned}

-- for numbers in lo..hi, a budget for each group, the atoms taken before, and those of the alternative
module _ (lo hi : ℤ) (budget : ℕ) (condition alternative : List Atom) where
  -- the equalities of pointers force the sides of a disequality to be the same, or a group of the slice whose Need is within
  -- the budget has no values
  abbrev pub HasNoInput : Type 0
  HasNoInput = ((k : ℕ) × Contradicts (condition ++ alternative) k) ⊎ SomeRefuted lo hi budget (groups (slice_of condition alternative))

  -- a group of the slice has a Need above the budget
  abbrev pub IsBeyond : Type 0
  IsBeyond = SomeBeyond lo hi budget (groups (slice_of condition alternative))

  -- never where there is no input, else spent where the budget doesn't suffice, else turned
  abbrev pub Answers : Answer → Type 0
  Answers never = HasNoInput
  Answers spent = (HasNoInput → ⊥) × IsBeyond
  Answers turned = (HasNoInput → ⊥) × (IsBeyond → ⊥)
