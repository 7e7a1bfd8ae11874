-- Ends as faults, and other ones.
use Rattle.std.specs.Prelude.{ℕ, ◌≡◌, List}
use Rattle.cc_base.specs.declared.ends.End.{End}
use Rattle.cc_base.specs.declared.ends.End.TheVariants.{Return, Assume, Cut, Objects, Steps, Fault}
use Rattle.cc_base.specs.Ends.{fault_text}
use Rattle.report_words.specs.Words.{IsNatural}

abbrev pub HasFault : End → Type 0
HasFault (Fault k line) = Unit {0}
HasFault _ = ⊥

-- the end is the fault of the word, at the line of the other word
abbrev pub FaultAt : List ℕ → List ℕ → End → Type 0
FaultAt word line (Fault k n) = (word ≡ fault_text k) × IsNatural line 4294967295 n
FaultAt word line _ = ⊥
