use Rattle.std.proofs.Common.{sym, subst, arith, add-one}
use Rattle.tac_lower.specs.Flow.{AreThose}
use Rattle.tac_lower.specs.Edges.{BehindUpTo}
use Rattle.tac_lower.proofs.EdgeLaws.{all_behind}
use Rattle.tac_lower.proofs.tac.Tac.behind.Goals as goal

pub loop-at-preserved : goal.loop-at-preserved
loop-at-preserved c = subst (λ n. AreThose (BehindUpTo c.args.self.now c.args.first n) c.add_behind.new.places) (sym (add-one c.loop-at.at)) (c.in_ok-add_behind.ensures c.loop-at.invariant)

pub returns : goal.returns
returns c = all_behind c.args.self.now c.args.first c.loop-at.at c.loop-at.places (let f = c.loop-at-test.false in let e = c.len.ensures in omega (arith, f, e)) c.loop-at.invariant
