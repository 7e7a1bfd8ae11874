-- How deep what is left is. What calls another on the same expression stands above it.
use Rattle.std.proofs.Common.{◌+◌, ◌*◌, ◌≤◌, max, length, map, drop}
use Rattle.cc_model.specs.declared.trees.Expr.{size-Expr}
use Rattle.tac_lower.specs.Forms.{computed_depth, located_depth, decided_depth, deepest}
use Rattle.cc_model.specs.Resolve.{resolve, vals_of}
use Rattle.tac_lower.specs.Tables.{facts_of}
use Rattle.tac_lower.specs.Emitted.{AddsValues}
use Rattle.tac_lower.proofs.known.Known.+expressions.Given as goal

abbrev pub decreases-condition : goal.decreases-condition
decreases-condition l = 8 * size-Expr l.e.now + 4

abbrev pub decreases-tested : goal.decreases-tested
decreases-tested l = 8 * size-Expr l.e.now + 3

abbrev pub decreases-value : goal.decreases-value
decreases-value l = 8 * size-Expr l.e.now + 2

abbrev pub decreases-place : goal.decreases-place
decreases-place l = 8 * size-Expr l.e.now + 1

abbrev pub decreases-truth : goal.decreases-truth
decreases-truth l = 8 * decided_depth l.decided + 8

abbrev pub decreases-as_number : goal.decreases-as_number
decreases-as_number l = 8 * decided_depth l.decided + 7

abbrev pub decreases-decided : goal.decreases-decided
decreases-decided l = 8 * decided_depth l.decided + 6

abbrev pub decreases-computed : goal.decreases-computed
decreases-computed l = 8 * computed_depth l.value + 6

abbrev pub decreases-located : goal.decreases-located
decreases-located l = 8 * located_depth l.place + 6

abbrev pub decreases-comparison : goal.decreases-comparison
decreases-comparison l = 8 * max (size-Expr l.a.now) (size-Expr l.b.now) + 5

abbrev pub decreases-arguments : goal.decreases-arguments
decreases-arguments l = 8 * deepest l.args.now + 5

-- what comes from `left` on is written
abbrev pub invariant-arguments-loop-left : goal.invariant-arguments-loop-left
invariant-arguments-loop-left l = record {
  within : l.left ≤ length l.args;
  written : AddsValues l.self.checked.now (vals_of (map (resolve (facts_of l.self.checked.now l.self.function)) (drop l.left l.args))) (l.n + l.left) l.initial.code l.code;
}

abbrev pub decreases-arguments-loop-left : goal.decreases-arguments-loop-left
decreases-arguments-loop-left l = l.left
