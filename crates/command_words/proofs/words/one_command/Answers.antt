use Rattle.command_words.proofs.Forms.{accepted_once}
use Rattle.command_words.proofs.words.one_command.Goals as goal

pub returns : goal.returns
returns c = accepted_once
