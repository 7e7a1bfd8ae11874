use Rattle.std.proofs.Common.{refl}
use Rattle.cc_model.specs.Spots.{kind_at, shallow}
use Rattle.c_expressions.specs.Descent.{Got, got, failed, Ends, pure, leave, ◌>>◌, ◌>>=◌, prefix_at, binary_at}
use Rattle.c_expressions.specs.Descent as of
use Rattle.c_expressions.specs.Shown.{place}
use Rattle.c_expressions.proofs.Rules.{ends_pure}
use Rattle.c_expressions.proofs.Steps.{exits, allocated_go}
use Rattle.c_expressions.proofs.parser.Parser.allocated.Goals as goal

pub returns-in_err-named-clause-shown : goal.returns-in_err-named-clause-shown
returns-in_err-named-clause-shown c =
    exits (λ m. of.allocation (kind_at c.args.self.now.tokens.now) shallow m) (λ m. of.allocated (kind_at c.args.self.now.tokens.now) shallow m c.args.first c.args.cast) (place c.args.spot) (place c.args.spot) _ c.in_err-named.field-0.0 c.from_residual.ensures
    (λ x h. (allocated_go (kind_at c.args.self.now.tokens.now) shallow c.args.first c.args.cast (place c.args.spot) (failed x) (failed x) h refl)) c.in_err-named.ensures.shown

pub returns-clause-shown : goal.returns-clause-shown
returns-clause-shown c =
    (allocated_go (kind_at c.args.self.now.tokens.now) shallow c.args.first c.args.cast (place c.args.spot) (got c.in_ok-named.named (place c.in_ok-named.after)) _ c.in_ok-named.ensures.shown (ends_pure _ _))
