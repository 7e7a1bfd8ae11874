use Rattle.report_words.proofs.Numerals.{utf8_number}
use Rattle.report_words.proofs.numbers.number_of.Goals as goal

pub returns-in-Err-clause-only : goal.returns-in-Err-clause-only
returns-in-Err-clause-only c n h = let u = utf8_number c.args.word.now n h in let k = c.in-Err.ensures in absurd (k.cases.0 u)
