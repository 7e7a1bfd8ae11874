use Rattle.replay.proofs.NamedLaws.{named_some, named_none}
use Rattle.replay.proofs.forms.is_named.Goals as goal

pub returns-in-Some : goal.returns-in-Some
returns-in-Some c = named_some c.is_number.result c.args.word.now c.args.name.now c.in-Some.value.now c.in-Some.ensures.read c.is_number.ensures

pub returns-in-None : goal.returns-in-None
returns-in-None c = named_none c.args.word.now c.args.name.now c.in-None.ensures.only
