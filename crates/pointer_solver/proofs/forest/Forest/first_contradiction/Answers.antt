use Rattle.std.proofs.Common.{◌∙◌}
use Rattle.pointer_solver.proofs.AtomSteps.{none_more}
use Rattle.pointer_solver.proofs.forest.Forest.first_contradiction.Goals as goal

pub loop-i-preserved : goal.loop-i-preserved
loop-i-preserved c = record {
  forest = c.is_contradicted.ensures.forest;
  len = c.is_contradicted.ensures.len ∙ c.loop-i.invariant.len;
  found = λ root t. let s = c.loop-i.invariant.found root t in let u = c.is_contradicted.ensures.found root s.0 in
      (u.0, none_more root c.args.atoms.now c.loop-i.i c.index-atoms-i.result c.loop-i-test.true c.index-atoms-i.is s.1 (λ h. let q = u.1.1 h in let f = c.if-is_contradicted.false in cc));
}
