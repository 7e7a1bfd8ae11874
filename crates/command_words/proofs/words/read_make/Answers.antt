use Rattle.command_words.proofs.Forms.{make_2, make_3, make_whole}
use Rattle.command_words.proofs.words.read_make.Goals as goal

pub returns-in_default-clause-bad : goal.returns-in_default-clause-bad
returns-in_default-clause-bad c = make_2 c.in_default.ensures.none

pub returns-in-Some-first_of-clause-bad : goal.returns-in-Some-first_of-clause-bad
returns-in-Some-first_of-clause-bad c = let n = c.in-Some.ensures.some in make_3 n.1 n.2 c.in-Some-first_of.ensures.some

pub returns-in-None-clause-accepted : goal.returns-in-None-clause-accepted
returns-in-None-clause-accepted c = let n = c.in-Some.ensures.some in make_whole n.1 n.2 c.in-None.ensures.none
