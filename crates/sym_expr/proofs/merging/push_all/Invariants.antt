use Rattle.std.proofs.Common.{◌≡◌, ◌++◌, take}
use Rattle.sym_expr.proofs.merging.push_all.Given as goal

abbrev pub invariant-loop-term : goal.invariant-loop-term
invariant-loop-term g l = l.out.items ≡ l.fn.out.items ++ take l.term-index l.terms
