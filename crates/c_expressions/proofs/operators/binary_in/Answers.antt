use Rattle.std.proofs.Common.{arith}
use Rattle.std.proofs.lemmas.Grind.{common_steps}
use Rattle.c_expressions.proofs.Taken.{lacks_rank}
use Rattle.c_expressions.proofs.operators.binary_in.Goals as goal

pub returns-else-rank_of-rank-clause-none : goal.returns-else-rank_of-rank-clause-none
returns-else-rank_of-rank-clause-none c =
    let h = lacks_rank c.args.rank c.rank_of.result c.in-Some-Punct.sign c.requires c.rank_of.ensures.none c.rank_of.ensures.some c.if-rank_of-rank.false in
    grind (arith, common_steps)
