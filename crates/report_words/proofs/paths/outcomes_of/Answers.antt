use Rattle.std.proofs.Common.{rules, arith, ap, Some}
use Rattle.report_words.proofs.Bytes.{no_path, one_path, read_all}
use Rattle.report_words.proofs.paths.outcomes_of.Goals as goal

pub returns-in-None-clause-only : goal.returns-in-None-clause-only
returns-in-None-clause-only c p h = absurd (no_path c.args.bytes.now c.loop-byte.byte-index 0 p (search rules) (λ o k. c.in-None.ensures.none o k) h)

pub returns-clause-only : goal.returns-clause-only
returns-clause-only c p h = ap Some (one_path c.args.bytes.now c.loop-byte.path p (read_all c.args.bytes.now c.loop-byte.byte-index c.loop-byte.path (search rules) c.loop-byte.invariant) h)
