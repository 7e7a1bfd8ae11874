use Rattle.std.proofs.Common.{arith}
use Rattle.search_dfs.proofs.Baring.{put_early, put_late}
use Rattle.search_dfs.proofs.runs.bare_first.Goals as goal

pub events-preserved-in-Continue-1 : goal.events-preserved-in-Continue-1
events-preserved-in-Continue-1 c =
    let n = c.len.ensures in
    let h = c.if-len-number.true in
    put_early c.args.number c.args.events c.events.events c.pop.new.self c.events.kept.items c.push.new.self.items c.in-Some.event c.bare.result c.in-Some.ensures (omega (arith, n, h)) c.bare.ensures c.events.invariant c.in_ok-push.ensures.items

pub events-preserved : goal.events-preserved
events-preserved c =
    let n = c.len.ensures in
    let h = c.if-len-number.false in
    put_late c.args.number c.args.events c.events.events c.pop.new.self c.events.kept.items c.push-else-len-number.new.self.items c.in-Some.event c.in-Some.ensures (omega (arith, n, h)) c.events.invariant c.in_ok-push-2.ensures.items
