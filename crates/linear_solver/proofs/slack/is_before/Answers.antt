use Rattle.linear_solver.proofs.Ranking.{by_slack, by_pairs, by_place}
use Rattle.linear_solver.proofs.slack.is_before.Goals as goal

pub returns-then-a-b : goal.returns-then-a-b
returns-then-a-b c = by_slack c.args.a c.args.b c.if-a-b.true

pub returns-then-a-b-2 : goal.returns-then-a-b-2
returns-then-a-b-2 c = by_pairs c.args.a c.args.b c.if-a-b.false c.if-a-b-2.true

pub returns : goal.returns
returns c = by_place c.args.a c.args.b c.if-a-b.false c.if-a-b-2.false
