use Rattle.report_words.proofs.Bytes.{ReadUpTo}
use Rattle.report_words.proofs.paths.outcomes_of.Given as goal

-- the bytes so far are those of the path
abbrev pub invariant-loop-byte : goal.invariant-loop-byte
invariant-loop-byte l = ReadUpTo l.bytes l.byte-index l.path
