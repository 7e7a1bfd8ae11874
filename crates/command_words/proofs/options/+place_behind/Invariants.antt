use Rattle.std.proofs.Common.{length}
use Rattle.command_words.proofs.options.+place_behind.Given as goal

abbrev pub decreases-place_behind : goal.decreases-place_behind
decreases-place_behind l = length l.words.now
