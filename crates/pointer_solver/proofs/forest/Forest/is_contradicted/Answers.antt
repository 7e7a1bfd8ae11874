use Rattle.std.proofs.Common.{◌∙◌, ap}
use Rattle.pointer_solver.proofs.AtomSteps.{contradicted_by}
use Rattle.pointer_solver.proofs.forest.Forest.is_contradicted.Goals as goal

pub returns-in-Differ-clause-found : goal.returns-in-Differ-clause-found
returns-in-Differ-clause-found c = λ root t.
    let s = c.find-left.ensures.rooted root t in let u = c.find.ensures.rooted root s.0 in (
      u.0,
      contradicted_by root c.args.atom.now c.in-Differ.a c.in-Differ.b c.find-left.result c.find.result c.in-Differ.is
          (s.1 ∙ ap root c.node_of.ensures) (u.1 ∙ ap root c.node_of-in-Differ.ensures),
    )
