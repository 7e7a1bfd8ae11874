use Rattle.std.proofs.Common.{rules, add-one, ◌∙◌, arith, ◌≡◌, ◌-◌, suc, Some, None, refl, sym, [], ◌∷◌, ◌++◌}
use Rattle.std.proofs.lemmas.Grind.{common_steps}
use Rattle.std.proofs.lemmas.Int.{to_z-of_z}
use mir.Syntax.{w32}
use mir.Val.{SFits}
use Rattle.cc_model.specs.declared.tokens.Kind.TheVariants as kind
use Rattle.cc_model.specs.declared.tokens.Punct.TheVariants as punct
use Rattle.cc_model.specs.declared.tokens.Keyword.TheVariants as keyword
use Rattle.cc_model.specs.declared.trees.Expr.TheVariants as tree
use Rattle.cc_model.specs.Spots.{kind_at, shallow, opened, passed}
use Rattle.c_expressions.specs.Descent.{Got, got, failed, Ends, pure, leave, ◌>>◌, ◌>>=◌, prefix_at, binary_at}
use Rattle.c_expressions.specs.Descent as of
use Rattle.c_expressions.specs.Shown.{place, binary_maker, prefix_maker, field_maker}
use Rattle.c_expressions.proofs.Rules.{ends_pure, ends_go, takes_go}
use Rattle.c_expressions.proofs.Steps.{exits, exits_take, exits_turn, taken, taken_now, same_result, step_deep, postfix_go, more_stop, more_field, more_index, from_name, from_number, from_null, from_malloc, from_paren, from_other, parens_cast, parens_inside, bracketed_go, named_stop, named_go, arguments_go, args_none, args_go, args_stop, args_next, chain_zero, chain_suc, tail_stop, tail_go, unary_post, unary_go}
use Rattle.c_expressions.proofs.parser.Parser.+descent.Goals as goal

pub unary-returns-in_err-inner-clause-shown : goal.unary-returns-in_err-inner-clause-shown
unary-returns-in_err-inner-clause-shown t c =
    let e = rw c.kind.ensures.value at c.in-Some.ensures.some in
    exits_take (of.take (kind_at c.args.self.now.tokens.now) shallow opened) (λ m. of.unary (kind_at c.args.self.now.tokens.now) shallow m) (place c.args.spot) (place c.args.spot) _ c.in_err-inner.field-0.0 c.from_residual.ensures
    (λ x h. (unary_go (kind_at c.args.self.now.tokens.now) shallow (place c.args.spot) (prefix_maker c.in-Some.sign) (failed x) (failed x) e h refl)) c.in_err-inner.ensures.shown

pub unary-returns-in_err-operand-clause-shown : goal.unary-returns-in_err-operand-clause-shown
unary-returns-in_err-operand-clause-shown t c =
    let e = rw c.kind.ensures.value at c.in-Some.ensures.some in
    exits (λ m. of.unary (kind_at c.args.self.now.tokens.now) shallow m) (λ m. of.unary (kind_at c.args.self.now.tokens.now) shallow m) (place c.in_ok-inner.inner) (place c.args.spot) _ c.in_err-operand.field-0.0 c.from_residual-in_err-operand.ensures
    (λ x h. (unary_go (kind_at c.args.self.now.tokens.now) shallow (place c.args.spot) (prefix_maker c.in-Some.sign) (got tt (place c.in_ok-inner.inner)) (failed x) e c.in_ok-inner.ensures.shown (ends_go (failed x) _ (λ m a. pure (prefix_maker c.in-Some.sign c.args.spot.at c.args.spot.at a)) h refl))) c.in_err-operand.ensures.shown

pub unary-returns-clause-shown : goal.unary-returns-clause-shown
unary-returns-clause-shown t c =
    let e = rw c.kind.ensures.value at c.in-Some.ensures.some in
    rw c.in_ok-make_prefix.ensures (unary_go (kind_at c.args.self.now.tokens.now) shallow (place c.args.spot) (prefix_maker c.in-Some.sign) (got tt (place c.in_ok-inner.inner)) _ e c.in_ok-inner.ensures.shown (ends_go (got c.in_ok-operand.operand (place c.in_ok-operand.after)) _ (λ m a. pure (prefix_maker c.in-Some.sign c.args.spot.at c.args.spot.at a)) c.in_ok-operand.ensures.shown (ends_pure _ _)))

pub unary-returns-in_default-clause-shown : goal.unary-returns-in_default-clause-shown
unary-returns-in_default-clause-shown t c =
    let e = rw c.kind.ensures.value at c.in_default.ensures.none in
    same_result (λ m. of.postfix (kind_at c.args.self.now.tokens.now) shallow m) (λ m. of.unary (kind_at c.args.self.now.tokens.now) shallow m) (place c.args.spot) (place c.args.spot) c.postfix.result
    (λ q h. unary_post (kind_at c.args.self.now.tokens.now) shallow (place c.args.spot) q e h) c.postfix.ensures.shown

pub chain-returns-then-rank-eq0-clause-shown : goal.chain-returns-then-rank-eq0-clause-shown
chain-returns-then-rank-eq0-clause-shown t c =
    same_result (λ m. of.unary (kind_at c.args.self.now.tokens.now) shallow m) (λ m. of.chain (kind_at c.args.self.now.tokens.now) shallow m c.args.rank) (place c.args.spot) (place c.args.spot) c.unary.result
    (λ q h. chain_zero (kind_at c.args.self.now.tokens.now) shallow c.args.rank (place c.args.spot) q c.if-rank-eq0.true h) c.unary.ensures.shown

pub chain-returns-in_err-left-clause-shown : goal.chain-returns-in_err-left-clause-shown
chain-returns-in_err-left-clause-shown t c =
    exits (λ m. of.chain (kind_at c.args.self.now.tokens.now) shallow m (c.args.rank - 1)) (λ m. of.chain (kind_at c.args.self.now.tokens.now) shallow m c.args.rank) (place c.args.spot) (place c.args.spot) _ c.in_err-left.field-0.0 c.from_residual.ensures
    (λ x h. chain_suc (kind_at c.args.self.now.tokens.now) shallow c.args.rank (place c.args.spot) (failed x) (failed x) (omega arith) h refl) c.in_err-left.ensures.shown

pub chain-loop-sign-init : goal.chain-loop-sign-init
chain-loop-sign-init t c = record {
  further = c.in_ok-left.ensures.further;
  onward = c.in_ok-left.ensures.onward;
  goes = λ r k. chain_suc (kind_at c.args.self.now.tokens.now) shallow c.args.rank (place c.args.spot) (got c.in_ok-left.left (place c.in_ok-left.here)) r (omega arith) c.in_ok-left.ensures.shown k;
}

pub chain-returns-in_err-inner-clause-shown : goal.chain-returns-in_err-inner-clause-shown
chain-returns-in_err-inner-clause-shown t c =
    let e = rw c.kind.ensures.value at c.in-Some.ensures.some in
    exits_take (of.take (kind_at c.args.self.now.tokens.now) shallow opened) (λ m. of.chain (kind_at c.args.self.now.tokens.now) shallow m c.args.rank) (place c.loop-sign.here) (place c.args.spot) _ c.in_err-inner.field-0.0 c.from_residual-in_err-inner.ensures
    (λ x h. c.loop-sign.invariant.goes (failed x)
    (tail_go (kind_at c.args.self.now.tokens.now) shallow c.args.rank c.args.spot.at (place c.loop-sign.here) c.loop-sign.left (binary_maker c.in-Some.sign) (failed x) (failed x) (omega arith) e h refl)) c.in_err-inner.ensures.shown

pub chain-returns-in_err-right-clause-shown : goal.chain-returns-in_err-right-clause-shown
chain-returns-in_err-right-clause-shown t c =
    let e = rw c.kind.ensures.value at c.in-Some.ensures.some in
    exits (λ m. of.chain (kind_at c.args.self.now.tokens.now) shallow m (c.args.rank - 1)) (λ m. of.chain (kind_at c.args.self.now.tokens.now) shallow m c.args.rank) (place c.in_ok-inner.inner) (place c.args.spot) _ c.in_err-right.field-0.0 c.from_residual-in_err-right.ensures
    (λ x h. c.loop-sign.invariant.goes (failed x)
    (tail_go (kind_at c.args.self.now.tokens.now) shallow c.args.rank c.args.spot.at (place c.loop-sign.here) c.loop-sign.left (binary_maker c.in-Some.sign) (got tt (place c.in_ok-inner.inner)) (failed x) (omega arith) e c.in_ok-inner.ensures.shown
    (ends_go (failed x) _ (λ m b. of.tail (kind_at c.args.self.now.tokens.now) shallow m (c.args.rank - 1) c.args.spot.at (binary_maker c.in-Some.sign c.args.spot.at c.loop-sign.here.at c.loop-sign.left b)) h refl))) c.in_err-right.ensures.shown

pub chain-loop-sign-preserved : goal.chain-loop-sign-preserved
chain-loop-sign-preserved t c =
    let e = rw c.kind.ensures.value at c.in-Some.ensures.some in
    record {
      further = let n = c.in_ok-inner.ensures.next.2 in omega (arith, n, c.loop-sign.invariant.further, c.in_ok-right.ensures.further);
      onward = let n = c.in_ok-inner.ensures.next.1 in omega (arith, n, c.loop-sign.invariant.onward, c.in_ok-right.ensures.onward);
      goes = λ r k. c.loop-sign.invariant.goes r
          (tail_go (kind_at c.args.self.now.tokens.now) shallow c.args.rank c.args.spot.at (place c.loop-sign.here) c.loop-sign.left (binary_maker c.in-Some.sign) (got tt (place c.in_ok-inner.inner)) r (omega arith) e c.in_ok-inner.ensures.shown
          (ends_go (got c.in_ok-right.right (place c.in_ok-right.after)) _ (λ m b. of.tail (kind_at c.args.self.now.tokens.now) shallow m (c.args.rank - 1) c.args.spot.at (binary_maker c.in-Some.sign c.args.spot.at c.loop-sign.here.at c.loop-sign.left b)) c.in_ok-right.ensures.shown (rw (c.in_ok-left-2.ensures, c.in_ok-held.ensures) at k)));
    }

pub chain-returns-clause-shown : goal.chain-returns-clause-shown
chain-returns-clause-shown t c =
    let e = rw c.kind.ensures.value at c.in_default.ensures.none in
    c.loop-sign.invariant.goes (got c.loop-sign.left (place c.loop-sign.here)) (tail_stop (kind_at c.args.self.now.tokens.now) shallow c.args.rank c.args.spot.at (place c.loop-sign.here) c.loop-sign.left (omega arith) e)

pub postfix-returns-in_err-value-clause-shown : goal.postfix-returns-in_err-value-clause-shown
postfix-returns-in_err-value-clause-shown t c =
    exits (λ m. of.primary (kind_at c.args.self.now.tokens.now) shallow m) (λ m. of.postfix (kind_at c.args.self.now.tokens.now) shallow m) (place c.args.spot) (place c.args.spot) _ c.in_err-value.field-0.0 c.from_residual.ensures
    (λ x h. postfix_go (kind_at c.args.self.now.tokens.now) shallow (place c.args.spot) (failed x) (failed x) h refl) c.in_err-value.ensures.shown

pub postfix-loop-step-init : goal.postfix-loop-step-init
postfix-loop-step-init t c = record {
  further = c.in_ok-value.ensures.further;
  onward = c.in_ok-value.ensures.onward;
  goes = λ r k. postfix_go (kind_at c.args.self.now.tokens.now) shallow (place c.args.spot) (got c.in_ok-value.value (place c.in_ok-value.here)) r c.in_ok-value.ensures.shown k;
}

pub postfix-returns-in_err-longer-clause-shown : goal.postfix-returns-in_err-longer-clause-shown
postfix-returns-in_err-longer-clause-shown t c =
    exits (λ m. of.more (kind_at c.args.self.now.tokens.now) shallow m c.args.spot.at c.loop-step.value) (λ m. of.postfix (kind_at c.args.self.now.tokens.now) shallow m) (place c.loop-step.here) (place c.args.spot) _ c.in_err-longer.field-0.0 c.from_residual-in_err-longer.ensures
    (λ x h. c.loop-step.invariant.goes (failed x) h) c.in_err-longer.ensures.shown

pub postfix-loop-step-preserved : goal.postfix-loop-step-preserved
postfix-loop-step-preserved t c = record {
  further = omega (arith, c.loop-step.invariant.further, c.in_ok-longer.ensures.further.0);
  onward = omega (arith, c.loop-step.invariant.onward, c.in_ok-longer.ensures.onward);
  goes = λ r k. c.loop-step.invariant.goes r (c.in_ok-longer.ensures.shown r k);
}

pub postfix-returns-clause-shown : goal.postfix-returns-clause-shown
postfix-returns-clause-shown t c =
    let e = rw c.kind.ensures.value at c.in_default.ensures.none in
    c.loop-step.invariant.goes (got c.loop-step.value (place c.loop-step.here)) (more_stop (kind_at c.args.self.now.tokens.now) shallow c.args.spot.at (place c.loop-step.here) c.loop-step.value e.0 e.1)

pub step-returns-in_err-inner-clause-shown : goal.step-returns-in_err-inner-clause-shown
step-returns-in_err-inner-clause-shown t c =
    exits_turn (λ _. (of.take (kind_at c.args.self.now.tokens.now) shallow opened)) (λ e n. of.more (kind_at c.args.self.now.tokens.now) shallow n c.args.first e) c.args.value (place c.args.here) (place c.args.here) _ c.in_err-inner.field-0.0 c.from_residual-in_err-inner.ensures
    (λ x h. step_deep (kind_at c.args.self.now.tokens.now) shallow c.args.step c.args.first (place c.args.here) c.args.value x c.requires.seen (taken_now (of.take (kind_at c.args.self.now.tokens.now) shallow opened) (place c.args.here) (failed x) h)) (taken (of.take (kind_at c.args.self.now.tokens.now) shallow opened) (place c.args.here) c.in_err-inner.field-0.0 c.in_err-inner.ensures.shown)

pub step-returns-in_err-after-in-Field-clause-shown : goal.step-returns-in_err-after-in-Field-clause-shown
step-returns-in_err-after-in-Field-clause-shown t c =
    let e = rw c.in-Field.is at c.requires.seen in
    exits_turn (λ _. of.expect_name (kind_at c.args.self.now.tokens.now) shallow) (λ e n. of.more (kind_at c.args.self.now.tokens.now) shallow n c.args.first e) c.args.value (place c.in_ok-inner.inner) (place c.args.here) _ c.in_err-after-in-Field.field-0.0 c.from_residual-in_err-after-in-Field.ensures
    (λ x h. more_field (kind_at c.args.self.now.tokens.now) shallow c.args.first (place c.args.here) c.args.value (field_maker c.in-Field.sign) (got tt (place c.in_ok-inner.inner)) (failed x) e c.in_ok-inner.ensures.shown
    (takes_go (failed x) _ (λ m. of.more (kind_at c.args.self.now.tokens.now) shallow m c.args.first (field_maker c.in-Field.sign c.args.first c.args.here.at c.args.value (suc c.args.here.at))) (taken_now (of.expect_name (kind_at c.args.self.now.tokens.now) shallow) (place c.in_ok-inner.inner) (failed x) h) refl))
    (taken (of.expect_name (kind_at c.args.self.now.tokens.now) shallow) (place c.in_ok-inner.inner) c.in_err-after-in-Field.field-0.0 c.in_err-after-in-Field.ensures.shown)

pub step-returns-in_ok-after-in-Field-clause-shown : goal.step-returns-in_ok-after-in-Field-clause-shown
step-returns-in_ok-after-in-Field-clause-shown t c =
    let e = rw c.in-Field.is at c.requires.seen in
    let n : c.in_ok-inner.inner.at ≡ suc c.args.here.at = c.in_ok-inner.ensures.next.1 ∙ add-one c.args.here.at in
    λ r k. more_field (kind_at c.args.self.now.tokens.now) shallow c.args.first (place c.args.here) c.args.value (field_maker c.in-Field.sign) (got tt (place c.in_ok-inner.inner)) r e c.in_ok-inner.ensures.shown
    (takes_go (got tt (place c.in_ok-after-in-Field.after)) _ (λ m. of.more (kind_at c.args.self.now.tokens.now) shallow m c.args.first (field_maker c.in-Field.sign c.args.first c.args.here.at c.args.value (suc c.args.here.at))) c.in_ok-after-in-Field.ensures.shown
    (rw (c.make_field.ensures, c.in_ok-held.ensures, n) at k))

pub step-returns-in_err-index-in-Index-clause-shown : goal.step-returns-in_err-index-in-Index-clause-shown
step-returns-in_err-index-in-Index-clause-shown t c =
    let e = rw c.in-Index.is at c.requires.seen in
    exits_turn (λ m. of.chain (kind_at c.args.self.now.tokens.now) shallow m 6) (λ e n. of.more (kind_at c.args.self.now.tokens.now) shallow n c.args.first e) c.args.value (place c.in_ok-inner.inner) (place c.args.here) _ c.in_err-index-in-Index.field-0.0 c.from_residual-in_err-index-in-Index.ensures
    (λ x h. more_index (kind_at c.args.self.now.tokens.now) shallow c.args.first (place c.args.here) c.args.value (got tt (place c.in_ok-inner.inner)) (failed x) e.0 e.1 c.in_ok-inner.ensures.shown
    (ends_go (failed x) _ (λ m i. of.close (kind_at c.args.self.now.tokens.now) shallow punct.CloseSquare (suc c.args.here.level) >> of.more (kind_at c.args.self.now.tokens.now) shallow m c.args.first (tree.Index c.args.first c.args.here.at c.args.value i)) h refl))
    c.in_err-index-in-Index.ensures.shown

pub step-returns-in_err-after-in-Index-clause-shown : goal.step-returns-in_err-after-in-Index-clause-shown
step-returns-in_err-after-in-Index-clause-shown t c =
    let e = rw c.in-Index.is at c.requires.seen in
    let n : c.in_ok-inner.inner.level ≡ suc c.args.here.level = c.in_ok-inner.ensures.next.2 ∙ add-one c.args.here.level in
    exits_turn (λ _. of.close (kind_at c.args.self.now.tokens.now) shallow punct.CloseSquare (suc c.args.here.level)) (λ e n. of.more (kind_at c.args.self.now.tokens.now) shallow n c.args.first e) c.args.value (place c.in_ok-index-in-Index.end) (place c.args.here) _ c.in_err-after-in-Index.field-0.0 c.from_residual-in_err-after-in-Index.ensures
    (λ x h. more_index (kind_at c.args.self.now.tokens.now) shallow c.args.first (place c.args.here) c.args.value (got tt (place c.in_ok-inner.inner)) (failed x) e.0 e.1 c.in_ok-inner.ensures.shown
    (ends_go (got c.in_ok-index-in-Index.index (place c.in_ok-index-in-Index.end)) _ (λ m i. of.close (kind_at c.args.self.now.tokens.now) shallow punct.CloseSquare (suc c.args.here.level) >> of.more (kind_at c.args.self.now.tokens.now) shallow m c.args.first (tree.Index c.args.first c.args.here.at c.args.value i)) c.in_ok-index-in-Index.ensures.shown
    (takes_go (failed x) _ (λ m. of.more (kind_at c.args.self.now.tokens.now) shallow m c.args.first (tree.Index c.args.first c.args.here.at c.args.value c.in_ok-index-in-Index.index)) (taken_now (of.close (kind_at c.args.self.now.tokens.now) shallow punct.CloseSquare (suc c.args.here.level)) (place c.in_ok-index-in-Index.end) (failed x) h) refl)))
    (taken (of.close (kind_at c.args.self.now.tokens.now) shallow punct.CloseSquare (suc c.args.here.level)) (place c.in_ok-index-in-Index.end) c.in_err-after-in-Index.field-0.0 (rw n at c.in_err-after-in-Index.ensures.shown))

pub step-returns-in_ok-after-in-Index-clause-shown : goal.step-returns-in_ok-after-in-Index-clause-shown
step-returns-in_ok-after-in-Index-clause-shown t c =
    let e = rw c.in-Index.is at c.requires.seen in
    let n : c.in_ok-inner.inner.level ≡ suc c.args.here.level = c.in_ok-inner.ensures.next.2 ∙ add-one c.args.here.level in
    λ r k. more_index (kind_at c.args.self.now.tokens.now) shallow c.args.first (place c.args.here) c.args.value (got tt (place c.in_ok-inner.inner)) r e.0 e.1 c.in_ok-inner.ensures.shown
    (ends_go (got c.in_ok-index-in-Index.index (place c.in_ok-index-in-Index.end)) _ (λ m i. of.close (kind_at c.args.self.now.tokens.now) shallow punct.CloseSquare (suc c.args.here.level) >> of.more (kind_at c.args.self.now.tokens.now) shallow m c.args.first (tree.Index c.args.first c.args.here.at c.args.value i)) c.in_ok-index-in-Index.ensures.shown
    (takes_go (got tt (place c.in_ok-after-in-Index.after)) _ (λ m. of.more (kind_at c.args.self.now.tokens.now) shallow m c.args.first (tree.Index c.args.first c.args.here.at c.args.value c.in_ok-index-in-Index.index)) (rw n at c.in_ok-after-in-Index.ensures.shown)
    (rw (c.in_ok-held.ensures, c.in_ok-index-in-Index-2.ensures) at k)))

pub primary-returns-in_err-after-in-Name-clause-shown : goal.primary-returns-in_err-after-in-Name-clause-shown
primary-returns-in_err-after-in-Name-clause-shown t c =
    let e : (kind_at c.args.self.now.tokens.now) c.args.spot.at ≡ Some kind.Name = sym c.kind.ensures.value ∙ c.in-Name.ensures.here in
    exits_take (of.take (kind_at c.args.self.now.tokens.now) shallow passed) (λ m. of.primary (kind_at c.args.self.now.tokens.now) shallow m) (place c.args.spot) (place c.args.spot) _ c.in_err-after-in-Name.field-0.0 c.from_residual.ensures
    (λ x h. from_name (kind_at c.args.self.now.tokens.now) shallow (place c.args.spot) (failed x) (failed x) e h refl) c.in_err-after-in-Name.ensures.shown

pub primary-returns-in_err-after-in-Number-clause-shown : goal.primary-returns-in_err-after-in-Number-clause-shown
primary-returns-in_err-after-in-Number-clause-shown t c =
    let e : (kind_at c.args.self.now.tokens.now) c.args.spot.at ≡ Some (kind.Number c.in-Number.value) = sym c.kind.ensures.value ∙ c.in-Number.ensures.here in
    exits_take (of.take (kind_at c.args.self.now.tokens.now) shallow passed) (λ m. of.primary (kind_at c.args.self.now.tokens.now) shallow m) (place c.args.spot) (place c.args.spot) _ c.in_err-after-in-Number.field-0.0 c.from_residual-in_err-after-in-Number.ensures
    (λ x h. from_number (kind_at c.args.self.now.tokens.now) shallow (place c.args.spot) c.in-Number.value (failed x) (failed x) e h refl) c.in_err-after-in-Number.ensures.shown

pub primary-returns-in_err-after-in-Null-clause-shown : goal.primary-returns-in_err-after-in-Null-clause-shown
primary-returns-in_err-after-in-Null-clause-shown t c =
    let e : (kind_at c.args.self.now.tokens.now) c.args.spot.at ≡ Some (kind.Key keyword.Null) = sym c.kind.ensures.value ∙ c.in-Null.ensures.here in
    exits_take (of.take (kind_at c.args.self.now.tokens.now) shallow passed) (λ m. of.primary (kind_at c.args.self.now.tokens.now) shallow m) (place c.args.spot) (place c.args.spot) _ c.in_err-after-in-Null.field-0.0 c.from_residual-in_err-after-in-Null.ensures
    (λ x h. from_null (kind_at c.args.self.now.tokens.now) shallow (place c.args.spot) (failed x) (failed x) e h refl) c.in_err-after-in-Null.ensures.shown

pub primary-returns-in_ok-after-in-Name-clause-shown : goal.primary-returns-in_ok-after-in-Name-clause-shown
primary-returns-in_ok-after-in-Name-clause-shown t c =
    let e : (kind_at c.args.self.now.tokens.now) c.args.spot.at ≡ Some kind.Name = sym c.kind.ensures.value ∙ c.in-Name.ensures.here in
    same_result (λ m. of.named (kind_at c.args.self.now.tokens.now) shallow m c.args.spot.at) (λ m. of.primary (kind_at c.args.self.now.tokens.now) shallow m) (place c.in_ok-after-in-Name.after) (place c.args.spot) c.named.result
    (λ q h. from_name (kind_at c.args.self.now.tokens.now) shallow (place c.args.spot) (got tt (place c.in_ok-after-in-Name.after)) q e c.in_ok-after-in-Name.ensures.shown h) c.named.ensures.shown

pub primary-returns-in_ok-after-in-Number-clause-shown : goal.primary-returns-in_ok-after-in-Number-clause-shown
primary-returns-in_ok-after-in-Number-clause-shown t c =
    let e : (kind_at c.args.self.now.tokens.now) c.args.spot.at ≡ Some (kind.Number c.in-Number.value) = sym c.kind.ensures.value ∙ c.in-Number.ensures.here in
    let h : SFits w32 c.in-Number.value = search rules in
    rw (to_z-of_z w32 c.in-Number.value h) (from_number (kind_at c.args.self.now.tokens.now) shallow (place c.args.spot) c.in-Number.value (got tt (place c.in_ok-after-in-Number.after)) _ e c.in_ok-after-in-Number.ensures.shown (ends_pure _ _))

pub primary-returns-in_ok-after-in-Null-clause-shown : goal.primary-returns-in_ok-after-in-Null-clause-shown
primary-returns-in_ok-after-in-Null-clause-shown t c =
    let e : (kind_at c.args.self.now.tokens.now) c.args.spot.at ≡ Some (kind.Key keyword.Null) = sym c.kind.ensures.value ∙ c.in-Null.ensures.here in
    from_null (kind_at c.args.self.now.tokens.now) shallow (place c.args.spot) (got tt (place c.in_ok-after-in-Null.after)) _ e c.in_ok-after-in-Null.ensures.shown (ends_pure _ _)

pub primary-returns-in-Malloc-clause-shown : goal.primary-returns-in-Malloc-clause-shown
primary-returns-in-Malloc-clause-shown t c =
    let e : (kind_at c.args.self.now.tokens.now) c.args.spot.at ≡ Some (kind.Key keyword.Malloc) = sym c.kind.ensures.value ∙ c.in-Malloc.ensures.here in
    same_result (λ m. of.allocated (kind_at c.args.self.now.tokens.now) shallow m c.args.spot.at None) (λ m. of.primary (kind_at c.args.self.now.tokens.now) shallow m) (place c.args.spot) (place c.args.spot) c.allocated.result
    (λ q h. from_malloc (kind_at c.args.self.now.tokens.now) shallow (place c.args.spot) q e h) c.allocated.ensures.shown

pub primary-returns-in-Paren-clause-shown : goal.primary-returns-in-Paren-clause-shown
primary-returns-in-Paren-clause-shown t c =
    let e : (kind_at c.args.self.now.tokens.now) c.args.spot.at ≡ Some (kind.Punct punct.Open) = sym c.kind.ensures.value ∙ c.in-Paren.ensures.here in
    same_result (λ m. of.parens (kind_at c.args.self.now.tokens.now) shallow m) (λ m. of.primary (kind_at c.args.self.now.tokens.now) shallow m) (place c.args.spot) (place c.args.spot) c.parens.result
    (λ q h. from_paren (kind_at c.args.self.now.tokens.now) shallow (place c.args.spot) q e h) c.parens.ensures.shown

pub primary-returns-in-Other-clause-shown : goal.primary-returns-in-Other-clause-shown
primary-returns-in-Other-clause-shown t c =
    let e = rw c.kind.ensures.value at c.in-Other.ensures.here in
    from_other (kind_at c.args.self.now.tokens.now) shallow (place c.args.spot) e

pub parens-returns-then-casts-clause-shown : goal.parens-returns-then-casts-clause-shown
parens-returns-then-casts-clause-shown t c =
    let e = rw c.if-casts.true at c.casts.ensures.shown in
    same_result (λ m. of.cast (kind_at c.args.self.now.tokens.now) shallow m) (λ m. of.parens (kind_at c.args.self.now.tokens.now) shallow m) (place c.args.spot) (place c.args.spot) c.cast.result
    (λ q h. parens_cast (kind_at c.args.self.now.tokens.now) shallow (place c.args.spot) q e h) c.cast.ensures.shown

pub parens-returns-in_err-value-clause-shown : goal.parens-returns-in_err-value-clause-shown
parens-returns-in_err-value-clause-shown t c =
    let e = rw c.if-casts.false at c.casts.ensures.shown in
    exits (λ m. of.bracketed (kind_at c.args.self.now.tokens.now) shallow m) (λ m. of.parens (kind_at c.args.self.now.tokens.now) shallow m) (place c.args.spot) (place c.args.spot) _ c.in_err-value.field-0.0 c.from_residual.ensures
    (λ x h. parens_inside (kind_at c.args.self.now.tokens.now) shallow (place c.args.spot) (failed x) (failed x) e h refl) c.in_err-value.ensures.shown

pub parens-returns-clause-shown : goal.parens-returns-clause-shown
parens-returns-clause-shown t c =
    let e = rw c.if-casts.false at c.casts.ensures.shown in
    rw c.with_first.ensures (parens_inside (kind_at c.args.self.now.tokens.now) shallow (place c.args.spot) (got c.in_ok-value.value (place c.in_ok-value.after)) _ e c.in_ok-value.ensures.shown (ends_pure _ _))

pub named-returns-then-not-is_sign-clause-shown : goal.named-returns-then-not-is_sign-clause-shown
named-returns-then-not-is_sign-clause-shown t c =
    let e = rw c.kind.ensures.value at c.is_sign.ensures.value in
    named_stop (kind_at c.args.self.now.tokens.now) shallow c.args.name (place c.args.here) (sym e ∙ grind (arith, common_steps))

pub named-returns-in_err-args-clause-shown : goal.named-returns-in_err-args-clause-shown
named-returns-in_err-args-clause-shown t c =
    let e = rw c.kind.ensures.value at c.is_sign.ensures.value in
    exits (λ m. of.arguments (kind_at c.args.self.now.tokens.now) shallow m) (λ m. of.named (kind_at c.args.self.now.tokens.now) shallow m c.args.name) (place c.args.here) (place c.args.here) _ c.in_err-args.field-0.0 c.from_residual.ensures
    (λ x h. named_go (kind_at c.args.self.now.tokens.now) shallow c.args.name (place c.args.here) (failed x) (failed x) (sym e ∙ grind (arith, common_steps)) h refl) c.in_err-args.ensures.shown

pub named-returns-clause-shown : goal.named-returns-clause-shown
named-returns-clause-shown t c =
    let e = rw c.kind.ensures.value at c.is_sign.ensures.value in
    named_go (kind_at c.args.self.now.tokens.now) shallow c.args.name (place c.args.here) (got c.in_ok-args.args (place c.in_ok-args.after)) _ (sym e ∙ grind (arith, common_steps)) c.in_ok-args.ensures.shown (ends_pure _ _)

pub bracketed-returns-in_err-inner-clause-shown : goal.bracketed-returns-in_err-inner-clause-shown
bracketed-returns-in_err-inner-clause-shown t c =
    exits_take (of.expect (kind_at c.args.self.now.tokens.now) shallow punct.Open opened) (λ m. of.bracketed (kind_at c.args.self.now.tokens.now) shallow m) (place c.args.spot) (place c.args.spot) _ c.in_err-inner.field-0.0 c.from_residual.ensures
    (λ x h. (bracketed_go (kind_at c.args.self.now.tokens.now) shallow (place c.args.spot) (failed x) (failed x) h refl)) c.in_err-inner.ensures.shown

pub bracketed-returns-in_err-value-clause-shown : goal.bracketed-returns-in_err-value-clause-shown
bracketed-returns-in_err-value-clause-shown t c =
    exits (λ m. of.chain (kind_at c.args.self.now.tokens.now) shallow m 6) (λ m. of.bracketed (kind_at c.args.self.now.tokens.now) shallow m) (place c.in_ok-inner.inner) (place c.args.spot) _ c.in_err-value.field-0.0 c.from_residual-in_err-value.ensures
    (λ x h. (bracketed_go (kind_at c.args.self.now.tokens.now) shallow (place c.args.spot) (got tt (place c.in_ok-inner.inner)) (failed x) c.in_ok-inner.ensures.shown (ends_go (failed x) _ (λ m a. of.close (kind_at c.args.self.now.tokens.now) shallow punct.Close c.args.spot.level >> pure a) h refl))) c.in_err-value.ensures.shown

pub bracketed-returns-in_err-after-clause-shown : goal.bracketed-returns-in_err-after-clause-shown
bracketed-returns-in_err-after-clause-shown t c =
    exits_take (of.close (kind_at c.args.self.now.tokens.now) shallow punct.Close c.args.spot.level) (λ m. of.bracketed (kind_at c.args.self.now.tokens.now) shallow m) (place c.in_ok-value.end) (place c.args.spot) _ c.in_err-after.field-0.0 c.from_residual-in_err-after.ensures
    (λ x h. (bracketed_go (kind_at c.args.self.now.tokens.now) shallow (place c.args.spot) (got tt (place c.in_ok-inner.inner)) (failed x) c.in_ok-inner.ensures.shown (ends_go (got c.in_ok-value.value (place c.in_ok-value.end)) _ (λ m a. of.close (kind_at c.args.self.now.tokens.now) shallow punct.Close c.args.spot.level >> pure a) c.in_ok-value.ensures.shown (takes_go (failed x) _ (λ m. pure c.in_ok-value.value) h refl)))) c.in_err-after.ensures.shown

pub bracketed-returns-clause-shown : goal.bracketed-returns-clause-shown
bracketed-returns-clause-shown t c =
    rw (c.into_inner.ensures, c.in_ok-value-2.ensures) (bracketed_go (kind_at c.args.self.now.tokens.now) shallow (place c.args.spot) (got tt (place c.in_ok-inner.inner)) _ c.in_ok-inner.ensures.shown (ends_go (got c.in_ok-value.value (place c.in_ok-value.end)) _ (λ m a. of.close (kind_at c.args.self.now.tokens.now) shallow punct.Close c.args.spot.level >> pure a) c.in_ok-value.ensures.shown (takes_go (got tt (place c.in_ok-after.after)) _ (λ m. pure c.in_ok-value.value) c.in_ok-after.ensures.shown (ends_pure _ _))))

pub arguments-returns-in_err-inner-clause-shown : goal.arguments-returns-in_err-inner-clause-shown
arguments-returns-in_err-inner-clause-shown t c =
    exits_take (of.expect (kind_at c.args.self.now.tokens.now) shallow punct.Open opened) (λ m. of.arguments (kind_at c.args.self.now.tokens.now) shallow m) (place c.args.spot) (place c.args.spot) _ c.in_err-inner.field-0.0 c.from_residual.ensures
    (λ x h. (arguments_go (kind_at c.args.self.now.tokens.now) shallow (place c.args.spot) (failed x) (failed x) h refl)) c.in_err-inner.ensures.shown

pub arguments-returns-in_err-args-clause-shown : goal.arguments-returns-in_err-args-clause-shown
arguments-returns-in_err-args-clause-shown t c =
    exits (λ m. of.args (kind_at c.args.self.now.tokens.now) shallow m) (λ m. of.arguments (kind_at c.args.self.now.tokens.now) shallow m) (place c.in_ok-inner.inner) (place c.args.spot) _ c.in_err-args.field-0.0 c.from_residual-in_err-args.ensures
    (λ x h. (arguments_go (kind_at c.args.self.now.tokens.now) shallow (place c.args.spot) (got tt (place c.in_ok-inner.inner)) (failed x) c.in_ok-inner.ensures.shown (ends_go (failed x) _ (λ m l. of.close (kind_at c.args.self.now.tokens.now) shallow punct.Close (suc c.args.spot.level) >> pure l) h refl))) c.in_err-args.ensures.shown

pub arguments-returns-in_err-after-clause-shown : goal.arguments-returns-in_err-after-clause-shown
arguments-returns-in_err-after-clause-shown t c =
    let n : c.in_ok-inner.inner.level ≡ suc c.args.spot.level = c.in_ok-inner.ensures.next.2 ∙ add-one c.args.spot.level in
    exits_take (of.close (kind_at c.args.self.now.tokens.now) shallow punct.Close (suc c.args.spot.level)) (λ m. of.arguments (kind_at c.args.self.now.tokens.now) shallow m) (place c.in_ok-args.end) (place c.args.spot) _ c.in_err-after.field-0.0 c.from_residual-in_err-after.ensures
    (λ x h. (arguments_go (kind_at c.args.self.now.tokens.now) shallow (place c.args.spot) (got tt (place c.in_ok-inner.inner)) (failed x) c.in_ok-inner.ensures.shown (ends_go (got c.in_ok-args.args (place c.in_ok-args.end)) _ (λ m l. of.close (kind_at c.args.self.now.tokens.now) shallow punct.Close (suc c.args.spot.level) >> pure l) c.in_ok-args.ensures.shown (takes_go (failed x) _ (λ m. pure c.in_ok-args.args) h refl)))) (rw n at c.in_err-after.ensures.shown)

pub arguments-returns-clause-shown : goal.arguments-returns-clause-shown
arguments-returns-clause-shown t c =
    let n : c.in_ok-inner.inner.level ≡ suc c.args.spot.level = c.in_ok-inner.ensures.next.2 ∙ add-one c.args.spot.level in
    (arguments_go (kind_at c.args.self.now.tokens.now) shallow (place c.args.spot) (got tt (place c.in_ok-inner.inner)) _ c.in_ok-inner.ensures.shown (ends_go (got c.in_ok-args.args (place c.in_ok-args.end)) _ (λ m l. of.close (kind_at c.args.self.now.tokens.now) shallow punct.Close (suc c.args.spot.level) >> pure l) c.in_ok-args.ensures.shown (takes_go (got tt (place c.in_ok-after.after)) _ (λ m. pure c.in_ok-args.args) (rw n at c.in_ok-after.ensures.shown) (ends_pure _ _))))

pub args-returns-then-is_sign-clause-shown : goal.args-returns-then-is_sign-clause-shown
args-returns-then-is_sign-clause-shown t c =
    let e = rw c.kind.ensures.value at c.is_sign.ensures.value in
    rw c.new-items.ensures (args_none (kind_at c.args.self.now.tokens.now) shallow (place c.args.spot) (sym e ∙ c.if-is_sign.true))

pub args-returns-in_err-first-clause-shown : goal.args-returns-in_err-first-clause-shown
args-returns-in_err-first-clause-shown t c =
    let e = sym (rw c.kind.ensures.value at c.is_sign.ensures.value) ∙ c.if-is_sign.false in
    exits (λ m. of.chain (kind_at c.args.self.now.tokens.now) shallow m 6) (λ m. of.args (kind_at c.args.self.now.tokens.now) shallow m) (place c.args.spot) (place c.args.spot) _ c.in_err-first.field-0.0 c.from_residual.ensures
    (λ x h. args_go (kind_at c.args.self.now.tokens.now) shallow (place c.args.spot) (failed x) (failed x) e h refl) c.in_err-first.ensures.shown

pub args-loop-spot-init : goal.args-loop-spot-init
args-loop-spot-init t c =
    let e = sym (rw c.kind.ensures.value at c.is_sign.ensures.value) ∙ c.if-is_sign.false in
    record {
      onward = c.in_ok-first.ensures.onward;
      goes = λ r k. args_go (kind_at c.args.self.now.tokens.now) shallow (place c.args.spot) (got c.in_ok-first.first (place c.in_ok-first.after)) r e c.in_ok-first.ensures.shown (rw (c.in_ok-push.ensures.ok, c.new-items.ensures) at k);
    }

pub args-returns-in_err-inner-clause-shown : goal.args-returns-in_err-inner-clause-shown
args-returns-in_err-inner-clause-shown t c =
    let e = sym (rw c.kind-in-loop-spot.ensures.value at c.is_sign-in-loop-spot.ensures.value) ∙ c.loop-spot-test.true in
    exits_take (of.close (kind_at c.args.self.now.tokens.now) shallow punct.Comma c.args.spot.level) (λ m. of.args (kind_at c.args.self.now.tokens.now) shallow m) (place c.loop-spot.here) (place c.args.spot) _ c.in_err-inner.field-0.0 c.from_residual-in_err-inner.ensures
    (λ x h. c.loop-spot.invariant.goes (failed x) (args_next (kind_at c.args.self.now.tokens.now) shallow c.args.spot.level (place c.loop-spot.here) c.loop-spot.items (failed x) (failed x) e h refl)) c.in_err-inner.ensures.shown

pub args-returns-in_err-value-clause-shown : goal.args-returns-in_err-value-clause-shown
args-returns-in_err-value-clause-shown t c =
    let e = sym (rw c.kind-in-loop-spot.ensures.value at c.is_sign-in-loop-spot.ensures.value) ∙ c.loop-spot-test.true in
    exits (λ m. of.chain (kind_at c.args.self.now.tokens.now) shallow m 6) (λ m. of.args (kind_at c.args.self.now.tokens.now) shallow m) (place c.in_ok-inner.inner) (place c.args.spot) _ c.in_err-value.field-0.0 c.from_residual-in_err-value.ensures
    (λ x h. c.loop-spot.invariant.goes (failed x) (args_next (kind_at c.args.self.now.tokens.now) shallow c.args.spot.level (place c.loop-spot.here) c.loop-spot.items (got tt (place c.in_ok-inner.inner)) (failed x) e c.in_ok-inner.ensures.shown
    (ends_go (failed x) _ (λ m a. of.args_more (kind_at c.args.self.now.tokens.now) shallow m c.args.spot.level (c.loop-spot.items ++ a ∷ [])) h refl))) c.in_err-value.ensures.shown

pub args-loop-spot-preserved : goal.args-loop-spot-preserved
args-loop-spot-preserved t c =
    let e = sym (rw c.kind-in-loop-spot.ensures.value at c.is_sign-in-loop-spot.ensures.value) ∙ c.loop-spot-test.true in
    record {
      onward = let n = c.in_ok-inner.ensures.next.1 in omega (arith, n, c.loop-spot.invariant.onward, c.in_ok-value.ensures.onward);
      goes = λ r k. c.loop-spot.invariant.goes r (args_next (kind_at c.args.self.now.tokens.now) shallow c.args.spot.level (place c.loop-spot.here) c.loop-spot.items (got tt (place c.in_ok-inner.inner)) r e c.in_ok-inner.ensures.shown
          (ends_go (got c.in_ok-value.value (place c.in_ok-value.end)) _ (λ m a. of.args_more (kind_at c.args.self.now.tokens.now) shallow m c.args.spot.level (c.loop-spot.items ++ a ∷ [])) c.in_ok-value.ensures.shown (rw c.in_ok-push-2.ensures.ok at k)));
    }

pub args-returns-clause-shown : goal.args-returns-clause-shown
args-returns-clause-shown t c =
    let e = sym (rw c.kind-in-loop-spot.ensures.value at c.is_sign-in-loop-spot.ensures.value) ∙ c.loop-spot-test.false in
    c.loop-spot.invariant.goes (got c.loop-spot.items (place c.loop-spot.here)) (args_stop (kind_at c.args.self.now.tokens.now) shallow c.args.spot.level (place c.loop-spot.here) c.loop-spot.items e)
