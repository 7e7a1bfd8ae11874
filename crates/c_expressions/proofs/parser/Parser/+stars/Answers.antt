use Rattle.std.proofs.Common.{add-one, ◌∙◌, arith, suc, refl, sym}
use Rattle.std.proofs.lemmas.Grind.{common_steps}
use Rattle.cc_model.specs.Spots.{kind_at, shallow, opened}
use Rattle.c_expressions.specs.Descent.{Got, got, failed, Ends, pure, leave, ◌>>◌, ◌>>=◌, prefix_at, binary_at}
use Rattle.c_expressions.specs.Descent as of
use Rattle.c_expressions.specs.Shown.{place}
use Rattle.c_expressions.proofs.Rules.{ends_leave, ends_go}
use Rattle.c_expressions.proofs.Steps.{exits, exits_take, stars_go, stars_stop}
use Rattle.c_expressions.proofs.parser.Parser.+stars.Goals as goal

pub returns-in_err-inner-clause-shown : goal.returns-in_err-inner-clause-shown
returns-in_err-inner-clause-shown t c =
    let e = sym (rw c.kind.ensures.value at c.is_sign.ensures.value) ∙ grind (arith, common_steps) in
    exits_take (of.take (kind_at c.args.self.now.tokens.now) shallow opened) (λ m. of.stars (kind_at c.args.self.now.tokens.now) shallow m) (place c.args.spot) (place c.args.spot) _ c.in_err-inner.field-0.0 c.from_residual.ensures
    (λ x h. (stars_go (kind_at c.args.self.now.tokens.now) shallow (place c.args.spot) (failed x) (failed x) e h refl)) c.in_err-inner.ensures.shown

pub returns-in_err-count-clause-shown : goal.returns-in_err-count-clause-shown
returns-in_err-count-clause-shown t c =
    let e = sym (rw c.kind.ensures.value at c.is_sign.ensures.value) ∙ grind (arith, common_steps) in
    exits (λ m. of.stars (kind_at c.args.self.now.tokens.now) shallow m) (λ m. of.stars (kind_at c.args.self.now.tokens.now) shallow m) (place c.in_ok-inner.inner) (place c.args.spot) _ c.in_err-count.field-0.0 c.from_residual-in_err-count.ensures
    (λ x h. (stars_go (kind_at c.args.self.now.tokens.now) shallow (place c.args.spot) (got tt (place c.in_ok-inner.inner)) (failed x) e c.in_ok-inner.ensures.shown (ends_go (failed x) _ (λ m k. leave c.args.spot.level (suc k)) h refl))) c.in_err-count.ensures.shown

pub returns-clause-shown : goal.returns-clause-shown
returns-clause-shown t c =
    let e = sym (rw c.kind.ensures.value at c.is_sign.ensures.value) ∙ grind (arith, common_steps) in
    rw add-one (stars_go (kind_at c.args.self.now.tokens.now) shallow (place c.args.spot) (got tt (place c.in_ok-inner.inner)) _ e c.in_ok-inner.ensures.shown (ends_go (got c.in_ok-count.count (place c.in_ok-count.end)) _ (λ m k. leave c.args.spot.level (suc k)) c.in_ok-count.ensures.shown (ends_leave _ _ _)))

pub returns-then-not-is_sign-clause-shown : goal.returns-then-not-is_sign-clause-shown
returns-then-not-is_sign-clause-shown t c =
    let e = rw c.kind.ensures.value at c.is_sign.ensures.value in
    stars_stop (kind_at c.args.self.now.tokens.now) shallow (place c.args.spot) (sym e ∙ grind (arith, common_steps))
