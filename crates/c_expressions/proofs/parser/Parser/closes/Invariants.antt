-- What comes of the tokens from there on comes of all.
use Rattle.std.proofs.Common.{◌-◌, Bool}
use Rattle.cc_model.specs.Spots.{Spot, kind_at, shallow}
use Rattle.c_expressions.specs.Descent.{Got, Ends}
use Rattle.c_expressions.specs.Descent as of
use Rattle.c_expressions.proofs.parser.Parser.closes.Given as goal

abbrev pub invariant-loop-at : goal.invariant-loop-at
invariant-loop-at l = record {
  goes : (s : Spot) (r : Got Bool) → Ends (λ n. of.closes (kind_at l.self.tokens.now) shallow n l.at) s r → Ends (λ n. of.closes (kind_at l.self.tokens.now) shallow n l.from) s r;
}

abbrev pub decreases-loop-at : goal.decreases-loop-at
decreases-loop-at l = 1048577 - l.at
