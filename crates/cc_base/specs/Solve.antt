-- What a solver is to answer. The rules are this project's own.
use Rattle.std.specs.Prelude.{ℕ, ◌<◌, ◌≤◌, ℤ, ◌⊎◌, List, [], ◌∷◌}
use Rattle.cc_base.specs.Groups.{Atom, HoldAll, Between, HasValues, groups, places_in}
use Rattle.cc_base.specs.Need.{need}

-- a group whose Need is within the budget, and that no values meet
pub record Refuted (lo hi : ℤ) (budget : ℕ) (g : List Atom) : Type 0 where
  pub within : need lo hi g ≤ budget
  pub none : HasValues lo hi g → ⊥

abbrev pub SomeRefuted : ℤ → ℤ → ℕ → List (List Atom) → Type 0
SomeRefuted lo hi b [] = ⊥
SomeRefuted lo hi b (g ∷ gs) = Refuted lo hi b g ⊎ SomeRefuted lo hi b gs

abbrev pub SomeBeyond : ℤ → ℤ → ℕ → List (List Atom) → Type 0
SomeBeyond lo hi b [] = ⊥
SomeBeyond lo hi b (g ∷ gs) = (b < need lo hi g) ⊎ SomeBeyond lo hi b gs

pub data Answer : Type 0 where
  sat : (v : ℕ → ℤ) → Answer
  unsat spent : Answer

-- sat: values in lo..hi that meet all atoms, and no other answer is due; unsat exactly where a group is refuted;
-- spent exactly where none is and some Need is beyond the budget
abbrev pub Right : ℤ → ℤ → ℕ → List Atom → Answer → Type 0
Right lo hi b l (sat v) = Between lo hi v (places_in l) × HoldAll v l × (SomeRefuted lo hi b (groups l) → ⊥) × (SomeBeyond lo hi b (groups l) → ⊥)
Right lo hi b l unsat = SomeRefuted lo hi b (groups l)
Right lo hi b l spent = (SomeRefuted lo hi b (groups l) → ⊥) × SomeBeyond lo hi b (groups l)
