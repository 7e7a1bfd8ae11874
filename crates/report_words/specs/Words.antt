-- The words of report lines.
use Rattle.std.specs.Prelude.{ℕ, ℤ, negsuc, pos, ◌≡◌, ◌≤◌, ◌<◌, ◌≤ℤ◌, ◌^◌, List, [], ◌∷◌, All, map}
use Rattle.std.specs.Fmt.{decimal, signed_decimal}
use Rattle.cc_base.specs.declared.ends.End.{End}
use Rattle.cc_base.specs.declared.ends.End.TheVariants.{Return, Assume, Cut, Objects, Steps, Fault}
use Rattle.cc_base.specs.declared.outcomes.Outcome.{Outcome}
use Rattle.cc_base.specs.Ends.{end_text}
use Rattle.cc_base.specs.Outcomes.{byte_of, HasByte}
use Rattle.cc_base.specs.Paths.{Path, path_text}

-- the word is the decimal text of a number of 64 bits: no sign, no leading zero
pub record IsNumber (word : List ℕ) (n : ℕ) : Type 0 where
  pub text : word ≡ decimal n
  pub fits : n < 2 ^ 64

-- of a number that is at most `high`
pub record IsNatural (word : List ℕ) (high n : ℕ) : Type 0 where
  pub text : word ≡ decimal n
  pub at_most : n ≤ high

-- of a number of 32 bits that may have a minus: no other sign, no leading zero, no -0
pub record IsSigned (word : List ℕ) (z : ℤ) : Type 0 where
  pub text : word ≡ signed_decimal z
  pub at_least : negsuc 2147483647 ≤ℤ z
  pub at_most : z ≤ℤ pos 2147483647

-- the bytes are those of a path's outcomes
pub record AreBytes (bytes : List ℕ) (path : Path) : Type 0 where
  pub text : bytes ≡ map byte_of path
  pub has : All HasByte path

-- the word is the text of the path
pub record IsPath (word : List ℕ) (path : Path) : Type 0 where
  pub text : word ≡ path_text path
  pub has : All HasByte path

-- the line of a fault has 32 bits
abbrev pub HasLine : End → Type 0
HasLine (Fault k line) = line < 2 ^ 32
HasLine _ = Unit {0}

-- the word is the text of the end
pub record IsEnd (word : List ℕ) (e : End) : Type 0 where
  pub text : word ≡ end_text e
  pub line : HasLine e
