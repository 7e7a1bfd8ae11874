use Rattle.std.proofs.Common.{Some, refl}
use Rattle.cc_model.specs.Spots.{kind_at, shallow}
use Rattle.c_expressions.specs.Descent.{Got, got, failed, Ends, pure, leave, ◌>>◌, ◌>>=◌, prefix_at, binary_at}
use Rattle.c_expressions.specs.Descent as of
use Rattle.c_expressions.specs.Shown.{place}
use Rattle.c_expressions.proofs.Steps.{exits, same_result, cast_go}
use Rattle.c_expressions.proofs.parser.Parser.cast.Goals as goal

pub returns-in_err-named-clause-shown : goal.returns-in_err-named-clause-shown
returns-in_err-named-clause-shown c =
    exits (λ m. of.cast_type (kind_at c.args.self.now.tokens.now) shallow m) (λ m. of.cast (kind_at c.args.self.now.tokens.now) shallow m) (place c.args.spot) (place c.args.spot) _ c.in_err-named.field-0.0 c.from_residual.ensures
    (λ x h. (cast_go (kind_at c.args.self.now.tokens.now) shallow (place c.args.spot) (failed x) (failed x) h refl)) c.in_err-named.ensures.shown

pub returns-clause-shown : goal.returns-clause-shown
returns-clause-shown c =
    same_result (λ m. of.allocated (kind_at c.args.self.now.tokens.now) shallow m c.args.spot.at (Some c.in_ok-named.named)) (λ m. of.cast (kind_at c.args.self.now.tokens.now) shallow m) (place c.in_ok-named.word) (place c.args.spot) c.allocated.result
    (λ q h. cast_go (kind_at c.args.self.now.tokens.now) shallow (place c.args.spot) (got c.in_ok-named.named (place c.in_ok-named.word)) q c.in_ok-named.ensures.shown h) c.allocated.ensures.shown
