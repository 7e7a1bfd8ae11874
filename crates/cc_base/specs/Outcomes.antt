-- The bytes of outcomes. The bytes and their order are this project's own.
use Rattle.std.specs.Prelude.{ℕ, ◌+◌, ◌≤◌}
use Rattle.cc_base.specs.declared.outcomes.Outcome.{Outcome}
use Rattle.cc_base.specs.declared.outcomes.Outcome.TheVariants.{Zero, High, Low, Plain, False, True, Object}

-- ! + - . F T, and a, b, .. for the first, second, .. object
abbrev pub byte_of : Outcome → ℕ
byte_of Zero = 33
byte_of High = 43
byte_of Low = 45
byte_of Plain = 46
byte_of False = 70
byte_of True = 84
byte_of (Object n) = 97 + n

-- there are letters for 26 objects
abbrev pub HasByte : Outcome → Type 0
HasByte (Object n) = n ≤ 25
HasByte _ = Unit {0}
