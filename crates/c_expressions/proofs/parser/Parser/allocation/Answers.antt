use Rattle.std.proofs.Common.{refl}
use Rattle.cc_model.specs.declared.tokens.Punct.TheVariants as punct
use Rattle.cc_model.specs.declared.tokens.Keyword.TheVariants as keyword
use Rattle.cc_model.specs.Spots.{kind_at, shallow, opened}
use Rattle.c_expressions.specs.Descent.{Got, got, failed, Ends, pure, leave, ◌>>◌, ◌>>=◌, prefix_at, binary_at}
use Rattle.c_expressions.specs.Descent as of
use Rattle.c_expressions.specs.Shown.{place}
use Rattle.c_expressions.proofs.Rules.{ends_pure, ends_go, takes_go}
use Rattle.c_expressions.proofs.Steps.{exits, exits_take, worded_go}
use Rattle.c_expressions.proofs.parser.Parser.allocation.Goals as goal

pub returns-in_err-bracket-clause-shown : goal.returns-in_err-bracket-clause-shown
unfolding of.allocation
returns-in_err-bracket-clause-shown c =
    exits_take (of.expect_key (kind_at c.args.self.now.tokens.now) shallow keyword.Malloc) (λ m. of.allocation (kind_at c.args.self.now.tokens.now) shallow m) (place c.args.spot) (place c.args.spot) _ c.in_err-bracket.field-0.0 c.from_residual.ensures
    (λ x h. (worded_go (kind_at c.args.self.now.tokens.now) shallow keyword.Malloc (λ m. of.sized (kind_at c.args.self.now.tokens.now) shallow m) (place c.args.spot) (failed x) (failed x) h refl)) c.in_err-bracket.ensures.shown

pub returns-in_err-inner-clause-shown : goal.returns-in_err-inner-clause-shown
unfolding of.allocation
returns-in_err-inner-clause-shown c =
    exits_take (of.expect (kind_at c.args.self.now.tokens.now) shallow punct.Open opened) (λ m. of.allocation (kind_at c.args.self.now.tokens.now) shallow m) (place c.in_ok-bracket.bracket) (place c.args.spot) _ c.in_err-inner.field-0.0 c.from_residual-in_err-inner.ensures
    (λ x h. (worded_go (kind_at c.args.self.now.tokens.now) shallow keyword.Malloc (λ m. of.sized (kind_at c.args.self.now.tokens.now) shallow m) (place c.args.spot) (got tt (place c.in_ok-bracket.bracket)) (failed x) c.in_ok-bracket.ensures.shown (takes_go (failed x) _ (λ m. of.sized (kind_at c.args.self.now.tokens.now) shallow m >>= λ a. of.close (kind_at c.args.self.now.tokens.now) shallow punct.Close c.args.spot.level >> pure a) h refl))) c.in_err-inner.ensures.shown

pub returns-in_err-named-clause-shown : goal.returns-in_err-named-clause-shown
unfolding of.allocation
returns-in_err-named-clause-shown c =
    exits (λ m. of.sized (kind_at c.args.self.now.tokens.now) shallow m) (λ m. of.allocation (kind_at c.args.self.now.tokens.now) shallow m) (place c.in_ok-inner.inner) (place c.args.spot) _ c.in_err-named.field-0.0 c.from_residual-in_err-named.ensures
    (λ x h. (worded_go (kind_at c.args.self.now.tokens.now) shallow keyword.Malloc (λ m. of.sized (kind_at c.args.self.now.tokens.now) shallow m) (place c.args.spot) (got tt (place c.in_ok-bracket.bracket)) (failed x) c.in_ok-bracket.ensures.shown (takes_go (got tt (place c.in_ok-inner.inner)) _ (λ m. of.sized (kind_at c.args.self.now.tokens.now) shallow m >>= λ a. of.close (kind_at c.args.self.now.tokens.now) shallow punct.Close c.args.spot.level >> pure a) c.in_ok-inner.ensures.shown (ends_go (failed x) _ (λ m a. of.close (kind_at c.args.self.now.tokens.now) shallow punct.Close c.args.spot.level >> pure a) h refl)))) c.in_err-named.ensures.shown

pub returns-in_err-after-clause-shown : goal.returns-in_err-after-clause-shown
unfolding of.allocation
returns-in_err-after-clause-shown c =
    exits_take (of.close (kind_at c.args.self.now.tokens.now) shallow punct.Close c.args.spot.level) (λ m. of.allocation (kind_at c.args.self.now.tokens.now) shallow m) (place c.in_ok-named.end) (place c.args.spot) _ c.in_err-after.field-0.0 c.from_residual-in_err-after.ensures
    (λ x h. (worded_go (kind_at c.args.self.now.tokens.now) shallow keyword.Malloc (λ m. of.sized (kind_at c.args.self.now.tokens.now) shallow m) (place c.args.spot) (got tt (place c.in_ok-bracket.bracket)) (failed x) c.in_ok-bracket.ensures.shown (takes_go (got tt (place c.in_ok-inner.inner)) _ (λ m. of.sized (kind_at c.args.self.now.tokens.now) shallow m >>= λ a. of.close (kind_at c.args.self.now.tokens.now) shallow punct.Close c.args.spot.level >> pure a) c.in_ok-inner.ensures.shown (ends_go (got c.in_ok-named.named (place c.in_ok-named.end)) _ (λ m a. of.close (kind_at c.args.self.now.tokens.now) shallow punct.Close c.args.spot.level >> pure a) c.in_ok-named.ensures.shown (takes_go (failed x) _ (λ m. pure c.in_ok-named.named) h refl))))) c.in_err-after.ensures.shown

pub returns-clause-shown : goal.returns-clause-shown
unfolding of.allocation
returns-clause-shown c =
    (worded_go (kind_at c.args.self.now.tokens.now) shallow keyword.Malloc (λ m. of.sized (kind_at c.args.self.now.tokens.now) shallow m) (place c.args.spot) (got tt (place c.in_ok-bracket.bracket)) _ c.in_ok-bracket.ensures.shown (takes_go (got tt (place c.in_ok-inner.inner)) _ (λ m. of.sized (kind_at c.args.self.now.tokens.now) shallow m >>= λ a. of.close (kind_at c.args.self.now.tokens.now) shallow punct.Close c.args.spot.level >> pure a) c.in_ok-inner.ensures.shown (ends_go (got c.in_ok-named.named (place c.in_ok-named.end)) _ (λ m a. of.close (kind_at c.args.self.now.tokens.now) shallow punct.Close c.args.spot.level >> pure a) c.in_ok-named.ensures.shown (takes_go (got tt (place c.in_ok-after.after)) _ (λ m. pure c.in_ok-named.named) c.in_ok-after.ensures.shown (ends_pure _ _)))))
