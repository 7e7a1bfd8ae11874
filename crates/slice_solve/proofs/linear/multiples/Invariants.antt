use Rattle.std.proofs.Common.{◌≡◌, ◌^◌, take}
use Rattle.sym_expr.specs.TermsSeen.{multiples_of}
use Rattle.linear_solver.specs.Answers.{Below}
use Rattle.slice_solve.proofs.linear.multiples.Given as goal

abbrev pub invariant-loop-term : goal.invariant-loop-term
invariant-loop-term l = record {
  made : l.out.items ≡ multiples_of (take l.term-index l.terms);
  fits : Below (2 ^ 32) l.out.items;
}
