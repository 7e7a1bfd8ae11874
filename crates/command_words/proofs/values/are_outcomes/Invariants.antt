use Rattle.std.proofs.Common.{◌↔◌, drop}
use Rattle.command_words.proofs.PathWords.{AreBytes}
use Rattle.command_words.proofs.values.are_outcomes.Given as goal

abbrev pub invariant-loop-byte : goal.invariant-loop-byte
invariant-loop-byte l = AreBytes (drop l.byte-index l.bytes) ↔ AreBytes l.bytes
