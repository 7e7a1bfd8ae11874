-- Where a fault stands: the token at which the tokens cease to begin a program (the viable prefix property),
-- and the first one that is too deep.
use Rattle.std.specs.Prelude.{◌≡◌, ◌<◌, ◌⊎◌, ℕ, suc, Bool, true, not, nat_eq, nat_lt, List, ◌++◌, take, length, Result, Ok, Err, if◌then◌else◌}
use Rattle.cc_model.specs.declared.tokens.Token.{Token}
use Rattle.cc_model.specs.declared.trees.Program.{Program}
use Rattle.cc_model.specs.Reads.{Reads, shallow}
use Rattle.c_expressions.specs.declared.fault.ParseFault.{ParseFault}
use Rattle.c_expressions.specs.declared.fault.ParseFault.TheVariants.{Syntax, TooDeep, NoMemory}

-- any level fits
abbrev pub unbounded : ℕ → ℕ → Bool
unbounded i level = true

-- the tokens before k have levels of at most 200
abbrev pub shallow_before : ℕ → ℕ → ℕ → Bool
shallow_before k i level = if nat_lt i k then shallow i level else true

-- and that of token k is above 200
abbrev pub first_deep : ℕ → ℕ → ℕ → Bool
first_deep k i level = if nat_lt i k then shallow i level else (if nat_eq i k then not (shallow i level) else true)

-- token k has a level of at most 200
abbrev pub shallow_at : ℕ → ℕ → ℕ → Bool
shallow_at k i level = if nat_eq i k then shallow i level else true

-- the first k tokens begin a program: with some tokens behind them they read as one whose levels fit
abbrev pub Begins : (ℕ → ℕ → Bool) → List Token → ℕ → Type 0
Begins fits tokens k = (more : List Token) × (program : Program) × Reads fits (take k tokens ++ more) program

-- the tokens up to and with k begin no program; where k is their number, they are none
abbrev pub Ceases : List Token → ℕ → Type 0
Ceases tokens k = ((k < length tokens) × (Begins unbounded tokens (suc k) → ⊥)) ⊎
    ((k ≡ length tokens) × ((program : Program) → Reads unbounded tokens program → ⊥))

-- the tokens before k begin a program, and those up to and with k begin none; no token before k has a level above 200
abbrev pub IsSyntax : List Token → ℕ → Type 0
IsSyntax tokens k = Begins (shallow_before k) tokens k × Ceases tokens k

-- the tokens up to and with k begin a program, in which k is the first token with a level above 200;
-- they begin none in which its level is at most 200
abbrev pub IsDeep : List Token → ℕ → Type 0
IsDeep tokens k = (k < length tokens) × Begins (first_deep k) tokens (suc k) × (Begins (shallow_at k) tokens (suc k) → ⊥)

-- the fault is one that the tokens have, at its token
abbrev pub IsFault : List Token → ParseFault → Type 0
IsFault tokens (Syntax k) = IsSyntax tokens k
IsFault tokens (TooDeep k) = IsDeep tokens k
IsFault tokens NoMemory = ⊥

-- so it is, unless memory ran out
abbrev pub Placed : List Token → ParseFault → Type 0
Placed tokens f = (f ≡ NoMemory) ⊎ IsFault tokens f

-- this fault is given, unless memory runs out
abbrev pub GivesFault : Result Program ParseFault → ParseFault → Type 0
GivesFault (Ok p) f = ⊥
GivesFault (Err g) f = (g ≡ NoMemory) ⊎ (g ≡ f)
