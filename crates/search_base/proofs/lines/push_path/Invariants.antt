use Rattle.std.proofs.Common.{◌≡◌, ◌++◌, map, take}
use Rattle.cc_base.specs.Outcomes.{byte_of}
use Rattle.search_base.proofs.lines.push_path.Given as goal

-- the bytes of the outcomes so far are written
abbrev pub invariant-loop-outcome : goal.invariant-loop-outcome
invariant-loop-outcome l = l.text.items ≡ l.initial.text.items ++ map byte_of (take l.outcome-index l.path)
