use Rattle.report_words.proofs.EndTexts.{fault_parts}
use Rattle.report_words.proofs.ends.end_of.Goals as goal

pub returns-in-Some-clause-only : goal.returns-in-Some-clause-only
returns-in-Some-clause-only c e h = c.fault_at.ensures.only e (fault_parts c.args.word.now c.in-Some.parts.before.now c.in-Some.parts.behind.now e c.in-Some.ensures.some h)
