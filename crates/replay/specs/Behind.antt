-- A value behind its name.
use Rattle.std.specs.Prelude.{ℕ, ◌≡◌, List, ◌++◌, codes, Option, Some, None}
use Rattle.std.specs.Fmt.{decimal}
use Rattle.cc_base.specs.Limits.{Limits, InRange}
use Rattle.report_words.specs.Cuts.{Lacks, CutFirst}
use Rattle.report_words.specs.Words.{IsSigned}

-- the word is NAME=VALUE; the value has no =
pub record IsNamed (word name value : List ℕ) : Type 0 where
  pub is : word ≡ name ++ codes "=" ++ value
  pub last : Lacks 61 value

-- the first word is NAME=VALUE, and the rest stands behind the blank behind it
pub record Stands (text name value rest : List ℕ) : Type 0 where
  pub word : List ℕ
  pub cut : CutFirst 32 text word rest
  pub named : IsNamed word name value

-- the words of a line of bounds behind its first
pub record StandBehind (rest lo hi depth objects steps : List ℕ) : Type 0 where
  pub behind_lo : List ℕ
  pub is_lo : Stands rest (codes "min") lo behind_lo
  pub behind_hi : List ℕ
  pub is_hi : Stands behind_lo (codes "max") hi behind_hi
  pub behind_depth : List ℕ
  pub is_depth : Stands behind_hi (codes "depth") depth behind_depth
  pub last : List ℕ
  pub is_objects : Stands behind_depth (codes "objects") objects last
  pub is_steps : IsNamed last (codes "steps") steps

-- the words of a line of bounds
pub record AreValues (line lo hi depth objects steps : List ℕ) : Type 0 where
  pub rest : List ℕ
  pub first : CutFirst 32 line (codes "bounds") rest
  pub behind : StandBehind rest lo hi depth objects steps

-- the numbers of these values, each in its range
pub record AreNumbers (lo hi depth objects steps : List ℕ) (b : Limits) : Type 0 where
  pub is_lo : IsSigned lo b.lo
  pub is_hi : IsSigned hi b.hi
  pub is_depth : depth ≡ decimal b.depth
  pub is_objects : objects ≡ decimal b.objects
  pub is_steps : steps ≡ decimal b.steps
  pub in_range : InRange b

-- there is one, of which P holds
abbrev pub HasSome : {A : Type 0} → Option A → (A → Type 0) → Type 0
HasSome None P = ⊥
HasSome (Some x) P = P x
