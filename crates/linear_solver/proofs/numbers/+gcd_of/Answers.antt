use Rattle.std.proofs.Common.{◌∙◌, sym, ap, arith}
use Rattle.cc_base.specs.Inequality.{gcd}
use Rattle.linear_solver.proofs.Integers.{gcd-zero, gcd_step}
use Rattle.linear_solver.proofs.numbers.+gcd_of.Goals as goal

pub returns-then-b-eq0 : goal.returns-then-b-eq0
returns-then-b-eq0 t c = let e = c.if-b-eq0.true in sym (ap (gcd c.args.a) e ∙ gcd-zero c.args.a)

pub returns-else-b-eq0 : goal.returns-else-b-eq0
returns-else-b-eq0 t c = let e = c.gcd_of.ensures in e ∙ gcd_step c.args.a c.args.b (omega arith)
