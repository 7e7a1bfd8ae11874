-- What is read of the options behind a form's fixed words.
use Rattle.std.specs.Prelude.{◌≡◌, ℕ, ◌+◌, ◌<◌, ◌⊎◌, ℤ, ◌≤ℤ◌, List, ◌++◌, length, take, map, Some, codes}
use denote.Ref.{Bor}
use Rattle.command_words.specs.declared.values.Range.{Range}
use Rattle.command_words.specs.declared.values.Takes.{Takes}
use Rattle.command_words.specs.declared.values.Takes.TheVariants.{Number}
use Rattle.command_words.specs.Words.{Row, takes_of, AreNamed, behind, IsFine, IsGiven, min_option, max_option, objects_option, steps_option}

abbrev pub seen_row : Bor (List ℕ) × Takes → Row
seen_row e = (e.0.now, e.1)

-- a table of the code, without where its names lie in memory
abbrev pub seen : List (Bor (List ℕ) × Takes) → List Row
seen table = map seen_row table

-- what holds of the options of each form
pub record IsTable (options : List Row) : Type 0 where
  pub has_min : takes_of options (codes "-min") ≡ Some (Number min_option.1)
  pub has_max : takes_of options (codes "-max") ≡ Some (Number max_option.1)
  pub has_objects : takes_of options (codes "-objects") ≡ Some (Number objects_option.1)
  pub has_steps : takes_of options (codes "-steps") ≡ Some (Number steps_option.1)
  pub defaults : (name : List ℕ) (range : Range) → takes_of options name ≡ Some (Number range) → (range.least ≤ℤ range.default) × (range.default ≤ℤ range.greatest)

-- the words are options that a form takes
pub record Fits (options : List Row) (words : List (List ℕ)) : Type 0 where
  pub named : AreNamed options words
  pub given : (name : List ℕ) (takes : Takes) → takes_of options name ≡ Some takes → IsFine takes (behind name words)
  pub ordered : (lo hi : ℤ) → IsGiven words min_option lo → IsGiven words max_option hi → lo ≤ℤ hi

abbrev pub FitsWith : List Row → List (List ℕ) → Type 0
FitsWith options words = (rest : List (List ℕ)) × Fits options (words ++ rest)

-- the words before place n, from 0, begin options that a form takes, and with the one at n, or where n is their end, they don't
pub record IsBadAt (options : List Row) (words : List (List ℕ)) (n : ℕ) : Type 0 where
  pub before : FitsWith options (take n words)
  pub here : ((n < length words) × ¬ FitsWith options (take (n + 1) words)) ⊎ ((n ≡ length words) × ¬ Fits options words)
