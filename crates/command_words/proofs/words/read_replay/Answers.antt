use Rattle.command_words.proofs.Forms.{replay_2, replay_3, replay_4, replay_5, replay_whole}
use Rattle.command_words.proofs.words.read_replay.Goals as goal

pub returns-in_default-clause-bad : goal.returns-in_default-clause-bad
returns-in_default-clause-bad c = replay_2 c.in_default.ensures.none

pub returns-in_default-first_of-clause-bad : goal.returns-in_default-first_of-clause-bad
returns-in_default-first_of-clause-bad c = replay_3 c.in-Some.ensures.some c.in_default-first_of.ensures.none

pub returns-in_default-first_of-2-clause-bad : goal.returns-in_default-first_of-2-clause-bad
returns-in_default-first_of-2-clause-bad c = replay_4 c.in-Some.ensures.some c.in-Some-first_of.ensures.some c.in_default-first_of-2.ensures.none

pub returns-in-Some-first_of-3-clause-bad : goal.returns-in-Some-first_of-3-clause-bad
returns-in-Some-first_of-3-clause-bad c = replay_5 c.in-Some.ensures.some c.in-Some-first_of.ensures.some c.in-Some-first_of-2.ensures.some c.in-Some-first_of-3.ensures.some

pub returns-in-None-clause-accepted : goal.returns-in-None-clause-accepted
returns-in-None-clause-accepted c = replay_whole c.in-Some.ensures.some c.in-Some-first_of.ensures.some c.in-Some-first_of-2.ensures.some c.in-None.ensures.none
