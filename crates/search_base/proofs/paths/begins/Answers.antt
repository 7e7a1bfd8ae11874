use Rattle.std.proofs.Common.{arith}
use Rattle.search_base.proofs.FirstLaws.{all_same}
use Rattle.search_base.proofs.paths.begins.Goals as goal

pub returns-clause-yes : goal.returns-clause-yes
returns-clause-yes c = λ t. all_same c.loop-i.i c.args.path.now c.args.prefix.now (let h = c.loop-i-test.false in let k = (c.loop-i.auto).i-end in omega (arith, h, k)) c.loop-i.invariant
