use Rattle.replay.proofs.NamedLaws.{place_then, place_else, place_none}
use Rattle.replay.proofs.forms.is_place.Goals as goal

pub returns-then-is_number : goal.returns-then-is_number
returns-then-is_number c = place_then c.is_number.result c.is_number-then-is_number.result c.args.word.now c.in-Some.parts.before.now c.in-Some.parts.behind.now c.in-Some.ensures.some c.is_number.ensures c.is_number-then-is_number.ensures c.if-is_number.true

pub returns-else-is_number : goal.returns-else-is_number
returns-else-is_number c = place_else c.is_number.result c.args.word.now c.in-Some.parts.before.now c.in-Some.parts.behind.now c.in-Some.ensures.some c.is_number.ensures c.if-is_number.false

pub returns-in-None : goal.returns-in-None
returns-in-None c = place_none c.args.word.now c.in-None.ensures.none
