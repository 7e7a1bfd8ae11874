-- The texts of ends. They are this project's own.
use Rattle.std.specs.Prelude.{ℕ, List, ◌++◌, codes}
use Rattle.std.specs.Fmt.{decimal}
use Rattle.cc_base.specs.declared.ends.FaultKind.{FaultKind}
use Rattle.cc_base.specs.declared.ends.FaultKind.TheVariants.{Overflow, Null, Divide, Index, Assert, Abort}
use Rattle.cc_base.specs.declared.ends.End.{End}
use Rattle.cc_base.specs.declared.ends.End.TheVariants.{Return, Assume, Cut, Objects, Steps, Fault}

abbrev pub fault_text : FaultKind → List ℕ
fault_text Overflow = codes "overflow"
fault_text Null = codes "null"
fault_text Divide = codes "divide"
fault_text Index = codes "index"
fault_text Assert = codes "assert"
fault_text Abort = codes "abort"

-- a fault stands with its line
abbrev pub end_text : End → List ℕ
end_text Return = codes "return"
end_text Assume = codes "assume"
end_text Cut = codes "cut"
end_text Objects = codes "objects"
end_text Steps = codes "steps"
end_text (Fault k line) = fault_text k ++ codes "@" ++ decimal line
