use Rattle.replay.proofs.NamedLaws.{stands_cut, stands_has}
use Rattle.replay.proofs.bounds.next_value.Goals as goal

pub returns-in_err-parts-clause-only : goal.returns-in_err-parts-clause-only
returns-in_err-parts-clause-only c value rest h = absurd (stands_has c.args.text.now c.args.name.now value rest c.in_err-parts.ensures.none h)

pub returns-in_err-value-clause-only : goal.returns-in_err-value-clause-only
returns-in_err-value-clause-only c value rest h =
    let s = stands_cut c.args.text.now c.in_ok-parts.parts.before.now c.in_ok-parts.parts.behind.now c.args.name.now value rest c.in_ok-parts.ensures.some h in
    absurd (c.in_err-value.ensures.only value s.0)

pub returns-clause-only : goal.returns-clause-only
returns-clause-only c value rest h =
    let s = stands_cut c.args.text.now c.in_ok-parts.parts.before.now c.in_ok-parts.parts.behind.now c.args.name.now value rest c.in_ok-parts.ensures.some h in
    (c.in_ok-value.ensures.only value s.0, s.1)
