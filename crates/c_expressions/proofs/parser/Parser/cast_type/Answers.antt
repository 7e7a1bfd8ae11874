use Rattle.std.proofs.Common.{add-one, suc, refl}
use Rattle.cc_model.specs.declared.tokens.Punct.TheVariants as punct
use Rattle.cc_model.specs.Spots.{kind_at, shallow, opened}
use Rattle.c_expressions.specs.Descent.{Got, got, failed, Ends, pure, leave, ◌>>◌, ◌>>=◌, prefix_at, binary_at}
use Rattle.c_expressions.specs.Descent as of
use Rattle.c_expressions.specs.Shown.{place}
use Rattle.c_expressions.proofs.Rules.{ends_pure, ends_go, takes_go}
use Rattle.c_expressions.proofs.Steps.{exits, exits_take, cast_type_go}
use Rattle.c_expressions.proofs.parser.Parser.cast_type.Goals as goal

pub returns-in_err-inner-clause-shown : goal.returns-in_err-inner-clause-shown
returns-in_err-inner-clause-shown c =
    exits_take (of.expect (kind_at c.args.self.now.tokens.now) shallow punct.Open opened) (λ m. of.cast_type (kind_at c.args.self.now.tokens.now) shallow m) (place c.args.spot) (place c.args.spot) _ c.in_err-inner.field-0.0 c.from_residual.ensures
    (λ x h. (cast_type_go (kind_at c.args.self.now.tokens.now) shallow (place c.args.spot) (failed x) (failed x) h refl)) c.in_err-inner.ensures.shown

pub returns-in_err-base-clause-shown : goal.returns-in_err-base-clause-shown
returns-in_err-base-clause-shown c =
    exits (λ _. of.base_type (kind_at c.args.self.now.tokens.now) shallow) (λ m. of.cast_type (kind_at c.args.self.now.tokens.now) shallow m) (place c.in_ok-inner.inner) (place c.args.spot) _ c.in_err-base.field-0.0 c.from_residual-in_err-base.ensures
    (λ x h. (cast_type_go (kind_at c.args.self.now.tokens.now) shallow (place c.args.spot) (got tt (place c.in_ok-inner.inner)) (failed x) c.in_ok-inner.ensures.shown (ends_go (failed x) _ (λ m b. of.expect (kind_at c.args.self.now.tokens.now) shallow punct.Star opened >> (of.stars (kind_at c.args.self.now.tokens.now) shallow m >>= λ k. of.close (kind_at c.args.self.now.tokens.now) shallow punct.Close c.args.spot.level >> pure (record { base = b; stars = suc k }))) h refl))) c.in_err-base.ensures.shown

pub returns-in_err-more-clause-shown : goal.returns-in_err-more-clause-shown
returns-in_err-more-clause-shown c =
    exits_take (of.expect (kind_at c.args.self.now.tokens.now) shallow punct.Star opened) (λ m. of.cast_type (kind_at c.args.self.now.tokens.now) shallow m) (place c.in_ok-base.star) (place c.args.spot) _ c.in_err-more.field-0.0 c.from_residual-in_err-more.ensures
    (λ x h. (cast_type_go (kind_at c.args.self.now.tokens.now) shallow (place c.args.spot) (got tt (place c.in_ok-inner.inner)) (failed x) c.in_ok-inner.ensures.shown (ends_go (got c.in_ok-base.base (place c.in_ok-base.star)) _ (λ m b. of.expect (kind_at c.args.self.now.tokens.now) shallow punct.Star opened >> (of.stars (kind_at c.args.self.now.tokens.now) shallow m >>= λ k. of.close (kind_at c.args.self.now.tokens.now) shallow punct.Close c.args.spot.level >> pure (record { base = b; stars = suc k }))) c.in_ok-base.ensures.shown (takes_go (failed x) _ (λ m. of.stars (kind_at c.args.self.now.tokens.now) shallow m >>= λ k. of.close (kind_at c.args.self.now.tokens.now) shallow punct.Close c.args.spot.level >> pure (record { base = c.in_ok-base.base; stars = suc k })) h refl)))) c.in_err-more.ensures.shown

pub returns-in_err-count-clause-shown : goal.returns-in_err-count-clause-shown
returns-in_err-count-clause-shown c =
    exits (λ m. of.stars (kind_at c.args.self.now.tokens.now) shallow m) (λ m. of.cast_type (kind_at c.args.self.now.tokens.now) shallow m) (place c.in_ok-more.more) (place c.args.spot) _ c.in_err-count.field-0.0 c.from_residual-in_err-count.ensures
    (λ x h. (cast_type_go (kind_at c.args.self.now.tokens.now) shallow (place c.args.spot) (got tt (place c.in_ok-inner.inner)) (failed x) c.in_ok-inner.ensures.shown (ends_go (got c.in_ok-base.base (place c.in_ok-base.star)) _ (λ m b. of.expect (kind_at c.args.self.now.tokens.now) shallow punct.Star opened >> (of.stars (kind_at c.args.self.now.tokens.now) shallow m >>= λ k. of.close (kind_at c.args.self.now.tokens.now) shallow punct.Close c.args.spot.level >> pure (record { base = b; stars = suc k }))) c.in_ok-base.ensures.shown (takes_go (got tt (place c.in_ok-more.more)) _ (λ m. of.stars (kind_at c.args.self.now.tokens.now) shallow m >>= λ k. of.close (kind_at c.args.self.now.tokens.now) shallow punct.Close c.args.spot.level >> pure (record { base = c.in_ok-base.base; stars = suc k })) c.in_ok-more.ensures.shown (ends_go (failed x) _ (λ m k. of.close (kind_at c.args.self.now.tokens.now) shallow punct.Close c.args.spot.level >> pure (record { base = c.in_ok-base.base; stars = suc k })) h refl))))) c.in_err-count.ensures.shown

pub returns-in_err-after-clause-shown : goal.returns-in_err-after-clause-shown
returns-in_err-after-clause-shown c =
    exits_take (of.close (kind_at c.args.self.now.tokens.now) shallow punct.Close c.args.spot.level) (λ m. of.cast_type (kind_at c.args.self.now.tokens.now) shallow m) (place c.in_ok-count.end) (place c.args.spot) _ c.in_err-after.field-0.0 c.from_residual-in_err-after.ensures
    (λ x h. (cast_type_go (kind_at c.args.self.now.tokens.now) shallow (place c.args.spot) (got tt (place c.in_ok-inner.inner)) (failed x) c.in_ok-inner.ensures.shown (ends_go (got c.in_ok-base.base (place c.in_ok-base.star)) _ (λ m b. of.expect (kind_at c.args.self.now.tokens.now) shallow punct.Star opened >> (of.stars (kind_at c.args.self.now.tokens.now) shallow m >>= λ k. of.close (kind_at c.args.self.now.tokens.now) shallow punct.Close c.args.spot.level >> pure (record { base = b; stars = suc k }))) c.in_ok-base.ensures.shown (takes_go (got tt (place c.in_ok-more.more)) _ (λ m. of.stars (kind_at c.args.self.now.tokens.now) shallow m >>= λ k. of.close (kind_at c.args.self.now.tokens.now) shallow punct.Close c.args.spot.level >> pure (record { base = c.in_ok-base.base; stars = suc k })) c.in_ok-more.ensures.shown (ends_go (got c.in_ok-count.count (place c.in_ok-count.end)) _ (λ m k. of.close (kind_at c.args.self.now.tokens.now) shallow punct.Close c.args.spot.level >> pure (record { base = c.in_ok-base.base; stars = suc k })) c.in_ok-count.ensures.shown (takes_go (failed x) _ (λ m. pure (record { base = c.in_ok-base.base; stars = suc c.in_ok-count.count })) h refl)))))) c.in_err-after.ensures.shown

pub returns-clause-shown : goal.returns-clause-shown
returns-clause-shown c =
    rw add-one (cast_type_go (kind_at c.args.self.now.tokens.now) shallow (place c.args.spot) (got tt (place c.in_ok-inner.inner)) _ c.in_ok-inner.ensures.shown (ends_go (got c.in_ok-base.base (place c.in_ok-base.star)) _ (λ m b. of.expect (kind_at c.args.self.now.tokens.now) shallow punct.Star opened >> (of.stars (kind_at c.args.self.now.tokens.now) shallow m >>= λ k. of.close (kind_at c.args.self.now.tokens.now) shallow punct.Close c.args.spot.level >> pure (record { base = b; stars = suc k }))) c.in_ok-base.ensures.shown (takes_go (got tt (place c.in_ok-more.more)) _ (λ m. of.stars (kind_at c.args.self.now.tokens.now) shallow m >>= λ k. of.close (kind_at c.args.self.now.tokens.now) shallow punct.Close c.args.spot.level >> pure (record { base = c.in_ok-base.base; stars = suc k })) c.in_ok-more.ensures.shown (ends_go (got c.in_ok-count.count (place c.in_ok-count.end)) _ (λ m k. of.close (kind_at c.args.self.now.tokens.now) shallow punct.Close c.args.spot.level >> pure (record { base = c.in_ok-base.base; stars = suc k })) c.in_ok-count.ensures.shown (takes_go (got tt (place c.in_ok-after.after)) _ (λ m. pure (record { base = c.in_ok-base.base; stars = suc c.in_ok-count.count })) c.in_ok-after.ensures.shown (ends_pure _ _))))))
