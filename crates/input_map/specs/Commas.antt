-- The comma in front of a number of a list.
use Rattle.std.specs.Prelude.{ℕ, zero, suc, List, [], codes}

-- the first number has none
abbrev pub comma_before : ℕ → List ℕ
comma_before zero = []
comma_before (suc n) = codes ","
