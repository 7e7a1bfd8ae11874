use Rattle.std.proofs.Common.{◌∙◌, rules, SFits}
use Rattle.std.proofs.lemmas.Int.{to_z-of_z}
use mir.Syntax.{w128}
use Rattle.linear_solver.proofs.Evaluation.{first_low, first_high, first_none}
use Rattle.linear_solver.proofs.restore.first.Goals as goal

pub returns-in-Some : goal.returns-in-Some
returns-in-Some c = let f : SFits w128 c.in-Some.z = search rules in to_z-of_z w128 c.in-Some.z f ∙ first_low c.args.room.low c.args.room.high c.in-Some.z c.in-Some.is

pub returns-in-Some-high : goal.returns-in-Some-high
returns-in-Some-high c = let f : SFits w128 c.in-Some-high.z = search rules in to_z-of_z w128 c.in-Some-high.z f ∙ first_high c.args.room.low c.args.room.high c.in-Some-high.z c.in-None.is c.in-Some-high.is

pub returns-in-None-high : goal.returns-in-None-high
returns-in-None-high c = first_none c.args.room.low c.args.room.high c.in-None.is c.in-None-high.is
