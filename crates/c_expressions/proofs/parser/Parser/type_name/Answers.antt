use Rattle.std.proofs.Common.{refl}
use Rattle.cc_model.specs.Spots.{kind_at, shallow}
use Rattle.c_expressions.specs.Descent.{Got, got, failed, Ends, pure, leave, ◌>>◌, ◌>>=◌, prefix_at, binary_at}
use Rattle.c_expressions.specs.Descent as of
use Rattle.c_expressions.specs.Shown.{place}
use Rattle.c_expressions.proofs.Rules.{ends_pure, ends_go}
use Rattle.c_expressions.proofs.Steps.{exits, type_go}
use Rattle.c_expressions.proofs.parser.Parser.type_name.Goals as goal

pub returns-in_err-base-clause-shown : goal.returns-in_err-base-clause-shown
returns-in_err-base-clause-shown c =
    exits (λ _. of.base_type (kind_at c.args.self.now.tokens.now) shallow) (λ m. of.type_name (kind_at c.args.self.now.tokens.now) shallow m) (place c.args.spot) (place c.args.spot) _ c.in_err-base.field-0.0 c.from_residual.ensures
    (λ x h. (type_go (kind_at c.args.self.now.tokens.now) shallow (place c.args.spot) (failed x) (failed x) h refl)) c.in_err-base.ensures.shown

pub returns-in_err-stars-clause-shown : goal.returns-in_err-stars-clause-shown
returns-in_err-stars-clause-shown c =
    exits (λ m. of.stars (kind_at c.args.self.now.tokens.now) shallow m) (λ m. of.type_name (kind_at c.args.self.now.tokens.now) shallow m) (place c.in_ok-base.here) (place c.args.spot) _ c.in_err-stars.field-0.0 c.from_residual-in_err-stars.ensures
    (λ x h. (type_go (kind_at c.args.self.now.tokens.now) shallow (place c.args.spot) (got c.in_ok-base.base (place c.in_ok-base.here)) (failed x) c.in_ok-base.ensures.shown (ends_go (failed x) _ (λ m k. pure (record { base = c.in_ok-base.base; stars = k })) h refl))) c.in_err-stars.ensures.shown

pub returns-clause-shown : goal.returns-clause-shown
returns-clause-shown c =
    (type_go (kind_at c.args.self.now.tokens.now) shallow (place c.args.spot) (got c.in_ok-base.base (place c.in_ok-base.here)) _ c.in_ok-base.ensures.shown (ends_go (got c.in_ok-stars.stars (place c.in_ok-stars.after)) _ (λ m k. pure (record { base = c.in_ok-base.base; stars = k })) c.in_ok-stars.ensures.shown (ends_pure _ _)))
