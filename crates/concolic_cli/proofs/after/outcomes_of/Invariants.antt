use Rattle.concolic_cli.proofs.PathReads.{Reads}
use Rattle.concolic_cli.proofs.after.outcomes_of.Given as goal

abbrev pub invariant-loop-byte : goal.invariant-loop-byte
invariant-loop-byte l = Reads l.bytes l.byte-index l.path
