use Rattle.command_words.specs.Words.{texts}
use Rattle.command_words.proofs.Forms.{bad_1}
use Rattle.command_words.proofs.words.read.Goals as goal

pub returns-in_default-behind_keyword-3-clause-bad : goal.returns-in_default-behind_keyword-3-clause-bad
returns-in_default-behind_keyword-3-clause-bad c = bad_1 (texts c.args.words.now) c.in_default.ensures.none c.in_default-behind_keyword.ensures.none c.in_default-behind_keyword-2.ensures.none c.in_default-behind_keyword-3.ensures.none
