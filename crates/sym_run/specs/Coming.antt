-- A run of code that has come so far.
use Rattle.std.specs.Prelude.{◌≡◌, ℕ, suc, ◌+◌, Bool, List, slice_get}
use Rattle.cc_base.specs.declared.ends.End.{End}
use Rattle.cc_model.specs.Domain.{Domain}
use Rattle.cc_model.specs.Meaning.{Entry, Fixed, State, over, Done, prepend}
use Rattle.cc_model.specs.Instructions.{Instruction, Config, machine, from_entry}

module _ (d : Domain) (x : Fixed) (is_zero : d.V → Bool) (first_of : ℕ → ℕ) (code : List Instruction) where
  -- one instruction logs this, and then the machine stands there
  abbrev pub GoesOn : Config d → State d.V d.D → List (Entry d.E) → Config d → State d.V d.D → Type 0
  GoesOn c s log c' s' = (lost : Config d → Done d) (n : ℕ) → machine d x is_zero first_of code lost (suc n) c s ≡ prepend d log (machine d x is_zero first_of code lost n c' s')

  -- one instruction logs this, and ends the run
  abbrev pub EndsWith : Config d → State d.V d.D → List (Entry d.E) → End → State d.V d.D → Type 0
  EndsWith c s log e s' = (lost : Config d → Done d) (n : ℕ) → machine d x is_zero first_of code lost (suc n) c s ≡ record { log = log; result = over e s' }

  -- some first instructions of the run from a state log this, and then the machine stands there
  abbrev pub ComesTo : State d.V d.D → List (Entry d.E) → Config d → State d.V d.D → Type 0
  ComesTo s0 log c s = (k : ℕ) × ((lost : Config d → Done d) (n : ℕ) → from_entry d x is_zero first_of code lost (k + n) (slice_get (x.program).funcs (x.program).entry) s0 ≡ prepend d log (machine d x is_zero first_of code lost n c s))
