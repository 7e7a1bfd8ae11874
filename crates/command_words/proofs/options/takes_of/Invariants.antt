use Rattle.std.proofs.Common.{◌≡◌, drop}
use Rattle.command_words.specs.Words.{takes_of}
use Rattle.command_words.specs.Options.{seen}
use Rattle.command_words.proofs.options.takes_of.Given as goal

abbrev pub invariant-loop-option : goal.invariant-loop-option
invariant-loop-option l = takes_of (seen (drop l.option-index l.options)) l.name ≡ takes_of (seen l.options) l.name
