use Rattle.std.proofs.Common.{◌∙◌, rules, SFits, pos, get_or}
use Rattle.std.proofs.lemmas.Int.{to_z-of_z}
use mir.Syntax.{w32}
use Rattle.linear_solver.proofs.Evaluation.{at_is, at_past}
use Rattle.linear_solver.proofs.restore.value_at.Goals as goal

pub returns-then-at-values : goal.returns-then-at-values
returns-then-at-values c =
    let f : SFits w32 (get_or c.args.values.now c.args.place (pos 0)) = search rules in
    to_z-of_z w32 (get_or c.args.values.now c.args.place (pos 0)) f ∙ at_is c.args.values.now c.args.place

pub returns-else-at-values : goal.returns-else-at-values
returns-else-at-values c = at_past c.args.values.now c.args.place c.if-at-values.false
