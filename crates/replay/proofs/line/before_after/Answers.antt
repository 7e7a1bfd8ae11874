use Rattle.replay.proofs.BeforeLaws.{after_read, after_once, after_has}
use Rattle.replay.proofs.line.before_after.Goals as goal

pub returns-in_err-parts-clause-only : goal.returns-in_err-parts-clause-only
returns-in_err-parts-clause-only c before h = absurd (after_has c.args.text.now before c.in_err-parts.ensures.none h)

pub returns-then-is_text-clause-read : goal.returns-then-is_text-clause-read
returns-then-is_text-clause-read c =
    after_read c.args.text.now c.in_ok-parts.parts.before.now c.in_ok-parts.parts.behind.now c.in_ok-parts.ensures.some (c.is_text.ensures.0 c.if-is_text.true)

pub returns-then-is_text-clause-only : goal.returns-then-is_text-clause-only
returns-then-is_text-clause-only c before h =
    (after_once c.args.text.now c.in_ok-parts.parts.before.now c.in_ok-parts.parts.behind.now before c.in_ok-parts.ensures.some h).0

pub returns-else-is_text-clause-only : goal.returns-else-is_text-clause-only
returns-else-is_text-clause-only c before h =
    let e = (after_once c.args.text.now c.in_ok-parts.parts.before.now c.in_ok-parts.parts.behind.now before c.in_ok-parts.ensures.some h).1 in
    let t = c.is_text.ensures.1 e in
    absurd (cc (t, c.if-is_text.false))
