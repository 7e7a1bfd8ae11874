-- What stands after some parts and groups.
use Rattle.std.specs.Prelude.{ℕ, ℤ, ◌≤◌, ◌≡◌, ◌⊎◌, Bool, true, false, List, [], ◌∷◌, length, get_or, Option, None}
use Rattle.cc_base.specs.Groups.{Atom, HoldAll, Between, contains, places_in}
use Rattle.cc_base.specs.Need.{need}
use Rattle.cc_base.specs.Solve.{SomeRefuted, SomeBeyond}
use Rattle.linear_solver.specs.Answers.{HasNumber}
use Rattle.linear_solver.specs.Parts.{answered}

-- the place is in none of the parts
abbrev pub OutOf : ℕ → List (List ℕ) → Type 0
OutOf x [] = Unit {0}
OutOf x (c ∷ cs) = (contains c x ≡ true → ⊥) × OutOf x cs

abbrev pub Member : List ℕ → List (List ℕ) → Type 0
Member c [] = ⊥
Member c (d ∷ ds) = (c ≡ d) ⊎ Member c ds

abbrev pub Good : ℤ → ℤ → ℕ → (ℕ → ℤ) → List Atom → Type 0
Good lo hi b v g = (need lo hi g ≤ b) × Between lo hi v (places_in g) × HoldAll v g

abbrev pub AllGood : ℤ → ℤ → ℕ → (ℕ → ℤ) → List (List Atom) → Type 0
AllGood lo hi b v [] = Unit {0}
AllGood lo hi b v (g ∷ gs) = Good lo hi b v g × AllGood lo hi b v gs

-- what stands after the parts cs and the groups gs
pub record Stands (lo hi : ℤ) (b n : ℕ) (o : List (Option ℤ)) (s : Bool) (cs : List (List ℕ)) (gs : List (List Atom)) : Type 0 where
  pub size : length o ≡ n
  pub good : s ≡ false → AllGood lo hi b (answered o) gs
  pub numbers : s ≡ false → (c : List ℕ) → Member c cs → (x : ℕ) → contains c x ≡ true → HasNumber lo hi o x
  pub beyond : s ≡ true → SomeBeyond lo hi b gs
  pub unrefuted : SomeRefuted lo hi b gs → ⊥
  pub none : (x : ℕ) → OutOf x cs → get_or o x None ≡ None

-- a group is refuted, or this stands
abbrev pub Left : ℤ → ℤ → ℕ → ℕ → List (Option ℤ) → Bool → List (List ℕ) → List (List Atom) → Bool → Type 0
Left lo hi b n o s cs gs true = SomeRefuted lo hi b gs
Left lo hi b n o s cs gs false = Stands lo hi b n o s cs gs
