use Rattle.std.proofs.Common.{rules, SFits}
use mir.Syntax.{w128}
use Rattle.linear_solver.proofs.TidySteps.{numbers_same, numbers_differ}
use Rattle.linear_solver.proofs.tidy.same_numbers.Goals as goal

pub returns-then-t-u : goal.returns-then-t-u
returns-then-t-u c = numbers_differ c.args.t c.args.u c.if-t-u.true

pub returns : goal.returns
returns c =
    let f : SFits w128 c.args.t.coefficient = search rules in
    let g : SFits w128 c.args.u.coefficient = search rules in
    numbers_same c.args.t c.args.u c.if-t-u.false f g
