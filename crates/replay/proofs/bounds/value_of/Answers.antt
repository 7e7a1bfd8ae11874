use Rattle.replay.proofs.NamedLaws.{named_read, named_once, named_has, same_bytes, other_bytes}
use Rattle.replay.proofs.bounds.value_of.Goals as goal

pub returns-in_err-parts-clause-only : goal.returns-in_err-parts-clause-only
returns-in_err-parts-clause-only c value h = absurd (named_has c.args.word.now c.args.name.now value c.in_err-parts.ensures.none h)

pub returns-then-eq-clause-read : goal.returns-then-eq-clause-read
returns-then-eq-clause-read c =
    named_read c.args.word.now c.in_ok-parts.parts.before.now c.args.name.now c.in_ok-parts.parts.behind.now c.in_ok-parts.ensures.some
    (same_bytes c.eq.result c.in_ok-parts.parts.before.now c.args.name.now c.eq.ensures c.if-eq.true)

pub returns-then-eq-clause-only : goal.returns-then-eq-clause-only
returns-then-eq-clause-only c value h =
    (named_once c.args.word.now c.in_ok-parts.parts.before.now c.in_ok-parts.parts.behind.now c.args.name.now value c.in_ok-parts.ensures.some h).1

pub returns-else-eq-clause-only : goal.returns-else-eq-clause-only
returns-else-eq-clause-only c value h =
    other_bytes c.eq.result c.in_ok-parts.parts.before.now c.args.name.now c.eq.ensures c.if-eq.false
    (named_once c.args.word.now c.in_ok-parts.parts.before.now c.in_ok-parts.parts.behind.now c.args.name.now value c.in_ok-parts.ensures.some h).0
