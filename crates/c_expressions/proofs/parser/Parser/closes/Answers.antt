use Rattle.std.proofs.Common.{add-one, ◌∙◌, ◌+◌, sym}
use Rattle.cc_model.specs.Spots.{kind_at, shallow}
use Rattle.c_expressions.proofs.Steps.{closes_on, closes_stop}
use Rattle.c_expressions.proofs.parser.Parser.closes.Goals as goal

pub loop-at-preserved : goal.loop-at-preserved
loop-at-preserved c =
    let e = sym (rw c.kind.ensures.value at c.is_sign.ensures.value) ∙ c.loop-at-test.true in
    record { goes = λ s r k. c.loop-at.invariant.goes s r (closes_on (kind_at c.args.self.now.tokens.now) shallow c.loop-at.at (c.loop-at.at + 1) s r (add-one c.loop-at.at) e k) }

pub returns : goal.returns
returns c =
    let e = sym (rw c.kind.ensures.value at c.is_sign.ensures.value) ∙ c.loop-at-test.false in
    let f = rw c.kind-2.ensures.value at c.is_sign-2.ensures.value in
    record { shown = λ s. c.loop-at.invariant.goes s _ (closes_stop (kind_at c.args.self.now.tokens.now) shallow c.loop-at.at s c.is_sign-2.result e (sym f)) }
