use Rattle.std.proofs.lemmas.Int.{to_z-of_z}
use mir.Syntax.{w128}
use Rattle.linear_solver.proofs.FirstList.{single_is}
use Rattle.linear_solver.proofs.elimination.one_term.Goals as goal

pub returns : goal.returns
returns c = single_is c.args.place c.args.coefficient c.args.most _ _ c.push.new.self.items c.new-terms.result.items c.in_ok-push.ensures.items c.new-terms.ensures.items
    (to_z-of_z w128 c.args.coefficient c.ranges.coefficient) (to_z-of_z w128 c.args.most c.ranges.most)
