-- The depth of the descent is bounded by the tokens that may still be opened. What comes of the rest comes of the whole.
use Rattle.std.proofs.Common.{◌+◌, ◌-◌, ◌*◌, ◌≤◌, List}
use Rattle.cc_model.specs.declared.trees.Expr.{Expr}
use Rattle.cc_model.specs.Spots.{kind_at, shallow}
use Rattle.c_expressions.specs.Descent.{Got, Ends}
use Rattle.c_expressions.specs.Descent as of
use Rattle.c_expressions.specs.Shown.{place}
use Rattle.c_expressions.proofs.parser.Parser.+descent.Given as goal

abbrev pub decreases-chain : goal.decreases-chain
decreases-chain l = 16 * (201 - l.spot.level) + 5 + l.rank

abbrev pub decreases-unary : goal.decreases-unary
decreases-unary l = 16 * (201 - l.spot.level) + 4

abbrev pub decreases-postfix : goal.decreases-postfix
decreases-postfix l = 16 * (201 - l.spot.level) + 3

abbrev pub decreases-primary : goal.decreases-primary
decreases-primary l = 16 * (201 - l.spot.level) + 2

abbrev pub decreases-parens : goal.decreases-parens
decreases-parens l = 16 * (201 - l.spot.level) + 1

abbrev pub decreases-named : goal.decreases-named
decreases-named l = 16 * (201 - l.here.level) + 1

abbrev pub decreases-bracketed : goal.decreases-bracketed
decreases-bracketed l = 16 * (201 - l.spot.level)

abbrev pub decreases-arguments : goal.decreases-arguments
decreases-arguments l = 16 * (201 - l.spot.level)

abbrev pub decreases-step : goal.decreases-step
decreases-step l = 16 * (201 - l.here.level)

abbrev pub decreases-args : goal.decreases-args
decreases-args l = 16 * (201 - l.spot.level) + 12

abbrev pub invariant-chain-loop-sign : goal.invariant-chain-loop-sign
invariant-chain-loop-sign l = record {
  further : l.spot.level ≤ l.here.level;
  onward : l.spot.at ≤ l.here.at;
  goes : (r : Got Expr) → Ends (λ n. of.tail (kind_at l.self.tokens.now) shallow n (l.rank - 1) l.spot.at l.left) (place l.here) r →
      Ends (λ n. of.chain (kind_at l.self.tokens.now) shallow n l.rank) (place l.spot) r;
}

abbrev pub decreases-chain-loop-sign : goal.decreases-chain-loop-sign
decreases-chain-loop-sign l = 201 - l.here.level

abbrev pub invariant-postfix-loop-step : goal.invariant-postfix-loop-step
invariant-postfix-loop-step l = record {
  further : l.spot.level ≤ l.here.level;
  onward : l.spot.at ≤ l.here.at;
  goes : (r : Got Expr) → Ends (λ n. of.more (kind_at l.self.tokens.now) shallow n l.spot.at l.value) (place l.here) r →
      Ends (λ n. of.postfix (kind_at l.self.tokens.now) shallow n) (place l.spot) r;
}

abbrev pub decreases-postfix-loop-step : goal.decreases-postfix-loop-step
decreases-postfix-loop-step l = 201 - l.here.level

abbrev pub invariant-args-loop-spot : goal.invariant-args-loop-spot
invariant-args-loop-spot l = record {
  onward : l.spot.at ≤ l.here.at;
  goes : (r : Got (List Expr)) → Ends (λ n. of.args_more (kind_at l.self.tokens.now) shallow n l.spot.level l.items) (place l.here) r →
      Ends (λ n. of.args (kind_at l.self.tokens.now) shallow n) (place l.spot) r;
}

abbrev pub decreases-args-loop-spot : goal.decreases-args-loop-spot
decreases-args-loop-spot l = 1048577 - l.here.at
