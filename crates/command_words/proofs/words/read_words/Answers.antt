use Rattle.command_words.specs.Words.{texts}
use Rattle.command_words.proofs.Forms.{answer_only, answer_bad}
use Rattle.command_words.proofs.words.read_words.Goals as goal

pub returns-clause-only : goal.returns-clause-only
returns-clause-only c = answer_only (texts c.args.words.now) c.read.result c.read.ensures.accepted c.read.ensures.bad

pub returns-clause-bad_exact : goal.returns-clause-bad_exact
returns-clause-bad_exact c = answer_bad (texts c.args.words.now) c.read.result c.read.ensures.accepted c.read.ensures.bad
