use Rattle.replay.proofs.BoundsLaws.{first_is}
use Rattle.replay.proofs.bounds.values_of.Goals as goal

pub returns-else-is_text-clause-only : goal.returns-else-is_text-clause-only
returns-else-is_text-clause-only c lo hi depth objects steps h =
    let t = c.is_text.ensures.1 (first_is c.args.line.now c.in_ok-first.first.before.now c.in_ok-first.first.behind.now lo hi depth objects steps c.in_ok-first.ensures.some h) in
    absurd (cc (t, c.if-is_text.false))
