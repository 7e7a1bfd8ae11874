use Rattle.std.proofs.Common.{arith, sym, ◌∙◌}
use Rattle.report_words.proofs.Cutting.{cut_here, lacks_from}
use Rattle.report_words.proofs.cuts.cut_first.Goals as goal

pub returns-then-place-text-clause-some : goal.returns-then-place-text-clause-some
returns-then-place-text-clause-some c = cut_here c.args.mark c.place_of-place.result c.args.text.now c.place_of-place.ensures.value c.if-place-text.true

pub returns-else-place-text-clause-none : goal.returns-else-place-text-clause-none
returns-else-place-text-clause-none c = let e = c.place_of-place.ensures.value in let h = c.if-place-text.false in lacks_from c.args.mark c.args.text.now (omega (arith, e, h))
