-- What comes from `left` on is written.
use Rattle.std.proofs.Common.{◌≤◌, length, map, drop}
use Rattle.cc_model.specs.Resolve.{declarator_of}
use Rattle.tac_lower.specs.Tables.{facts_of}
use Rattle.tac_lower.specs.Emitted.{AddsDeclarators}
use Rattle.tac_lower.proofs.known.Known.declarators.Given as goal

abbrev pub invariant-loop-left : goal.invariant-loop-left
invariant-loop-left l = record {
  within : l.left ≤ length l.parts;
  written : AddsDeclarators l.self.checked.now (map (declarator_of (facts_of l.self.checked.now l.self.function)) (drop l.left l.parts)) l.initial.code l.code;
}

abbrev pub decreases-loop-left : goal.decreases-loop-left
decreases-loop-left l = l.left
