use Rattle.std.proofs.Common.{length, ◌-◌}
use Rattle.command_words.proofs.options.+bad_option.Given as goal

abbrev pub decreases-bad_option : goal.decreases-bad_option
decreases-bad_option l = length l.words.now - l.at
