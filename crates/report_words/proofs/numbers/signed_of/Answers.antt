use Rattle.report_words.proofs.Numerals.{utf8_signed}
use Rattle.report_words.proofs.numbers.signed_of.Goals as goal

pub returns-in-Err-clause-only : goal.returns-in-Err-clause-only
returns-in-Err-clause-only c z h = let u = utf8_signed c.args.word.now z h in let k = c.in-Err.ensures in absurd (k.cases.0 u)
