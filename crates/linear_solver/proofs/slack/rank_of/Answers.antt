use Rattle.std.proofs.Common.{arith, ◌^◌}
use Rattle.linear_solver.specs.Seen.{seen_all}
use Rattle.linear_solver.proofs.Ranking.{rank_sides, sizes, product_bound}
use Rattle.linear_solver.proofs.slack.rank_of.Goals as goal

pub overflow_mul-result : goal.overflow_mul-result
overflow_mul-result c =
    let s = sizes c.args.place (seen_all c.args.list.now) c.sides_of-all.result c.requires c.sides_of-all.ensures in
    let s0 = s.0 in let s1 = s.1 in
    let a = c.saturating_sub.ensures in let b = c.saturating_sub-2.ensures in
    let p = product_bound c.saturating_sub.result c.saturating_sub-2.result (2 ^ 44) (2 ^ 44) (omega (arith, a, s0)) (omega (arith, b, s1)) in
    omega (arith, p)

pub returns : goal.returns
returns c = rank_sides c.args.place (seen_all c.args.list.now) c.sides_of-all.result c.saturating_sub.result c.saturating_sub-2.result c.sides_of-all.ensures c.saturating_sub.ensures c.saturating_sub-2.ensures
