use Rattle.std.proofs.Common.{sym, arith, get_or}
use Rattle.cc_base.specs.declared.outcomes.Outcome.TheVariants.{Zero}
use Rattle.search_dfs.proofs.Comparing.{ends_first, differ_at, not_both, not_before}
use Rattle.search_base.proofs.FirstLaws.{any_default}
use Rattle.search_dfs.proofs.order.is_before.Goals as goal

pub returns-then-i-a-clause-yes : goal.returns-then-i-a-clause-yes
returns-then-i-a-clause-yes c = λ t. ends_first c.loop-i.i c.args.a.now c.args.b.now c.if-i-a.true c.loop-i-test.true c.loop-i.invariant

pub returns-then-left-right-clause-yes : goal.returns-then-left-right-clause-yes
returns-then-left-right-clause-yes c = λ t.
    let i = c.loop-i.i in
    let l = c.if-left-right.true in
    let e = c.byte-left.ensures in
    let f = c.byte-right.ensures in
    differ_at i c.args.a.now c.args.b.now (get_or c.args.a.now i Zero) (get_or c.args.b.now i Zero) c.if-i-a.false c.loop-i-test.true
    (any_default c.args.a.now i Zero _ c.if-i-a.false) (any_default c.args.b.now i Zero _ c.loop-i-test.true) c.loop-i.invariant (omega (arith, l, e, f))

pub returns-then-right-left-clause-no : goal.returns-then-right-left-clause-no
returns-then-right-left-clause-no c = λ t.
    let i = c.loop-i.i in
    let l = c.if-right-left.true in
    let e = c.byte-left.ensures in
    let f = c.byte-right.ensures in
    not_both c.args.a.now c.args.b.now (differ_at i c.args.b.now c.args.a.now (get_or c.args.b.now i Zero) (get_or c.args.a.now i Zero) c.loop-i-test.true c.if-i-a.false
    (any_default c.args.b.now i Zero _ c.loop-i-test.true) (any_default c.args.a.now i Zero _ c.if-i-a.false) (sym c.loop-i.invariant) (omega (arith, l, e, f)))

pub returns-clause-no : goal.returns-clause-no
returns-clause-no c = λ t.
    let h = c.loop-i-test.false in
    let k = (c.loop-i.auto).i-end in
    not_before c.loop-i.i c.args.a.now c.args.b.now (omega (arith, h, k)) c.loop-i.invariant
