use Rattle.report_words.proofs.Cutting.{whole_lacks}
use Rattle.report_words.proofs.cuts.lacks.Goals as goal

pub returns : goal.returns
returns c = whole_lacks c.args.mark c.place_of.result c.args.text.now c.place_of.ensures.value c.place_of.ensures.within
