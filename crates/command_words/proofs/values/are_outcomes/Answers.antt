use Rattle.std.proofs.Common.{rules, refl}
use Rattle.command_words.proofs.PathWords.{refuted, one_further}
use Rattle.command_words.proofs.values.are_outcomes.Goals as goal

pub returns-then-not-is_outcome-clause-no : goal.returns-then-not-is_outcome-clause-no
returns-then-not-is_outcome-clause-no c p a e =
    absurd (refuted c.loop-byte.byte-index c.args.bytes.now 0 (search rules) c.loop-byte.invariant.1 (λ o. cc (c.if-not-is_outcome.ensures.no o.0 o.1 o.2)) (p, a, e))

pub loop-byte-preserved : goal.loop-byte-preserved
loop-byte-preserved c = one_further c.loop-byte.byte-index c.args.bytes.now 0 (search rules) c.loop-byte.invariant (c.if-not-is_outcome.ensures.yes refl)
