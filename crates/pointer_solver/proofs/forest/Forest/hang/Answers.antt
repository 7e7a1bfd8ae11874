use Rattle.pointer_solver.proofs.Trees.{relink, hung_rooted, hung_joins}
use Rattle.pointer_solver.proofs.forest.Forest.hang.Goals as goal

pub returns-clause-joined : goal.returns-clause-joined
returns-clause-joined c = λ root t.
    let p = c.args.self.now.parents.items in let x = c.args.below in let y = c.args.above in (
      relink root x y,
      hung_rooted p root x y c.requires.below_in c.requires.below_root c.requires.above_root c.requires.apart t,
      hung_joins p root x y c.requires.below_in c.requires.below_root c.requires.above_root c.requires.apart t,
    )
