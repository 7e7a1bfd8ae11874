use Rattle.replay.proofs.BeforeLaws.{before_once, before_has}
use Rattle.replay.proofs.line.before_prefix.Goals as goal

pub returns-in-None-clause-only : goal.returns-in-None-clause-only
returns-in-None-clause-only c before q h = absurd (before_has c.args.text.now before q c.in-None.ensures.none h)

pub returns-in-None-2-clause-only : goal.returns-in-None-2-clause-only
returns-in-None-2-clause-only c before q h =
    let r = before_once c.args.text.now c.in-Some.parts.before.now c.in-Some.parts.behind.now before q c.in-Some.ensures.some h in
    let e = c.in_ok-path_of-in-Some.ensures.only q r.path in
    absurd (cc (e, c.in-None-2.is))

pub returns-in-Some-2-clause-only : goal.returns-in-Some-2-clause-only
returns-in-Some-2-clause-only c before q h =
    let r = before_once c.args.text.now c.in-Some.parts.before.now c.in-Some.parts.behind.now before q c.in-Some.ensures.some h in
    c.before_after.ensures.only before r.after
