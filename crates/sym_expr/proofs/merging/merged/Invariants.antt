use Rattle.std.proofs.Common.{◌≡◌, ◌≤◌, ◌+◌, ◌-◌, ◌++◌, drop, length}
use Rattle.arrayvec.specs.ArrayVec.{array_vec_len}
use Rattle.sym_expr.specs.TermsSeen.{multiples_of}
use Rattle.sym_expr.specs.Sums.{merge}
use Rattle.sym_expr.proofs.merging.merged.Given as goal

abbrev pub invariant-terms : goal.invariant-terms
invariant-terms l = record {
  left : l.i ≤ length l.p;
  right : l.j ≤ length l.q;
  room : array_vec_len l.out ≤ l.i + l.j;
  made : multiples_of l.out.items ++ merge (multiples_of (drop l.i l.p)) (multiples_of (drop l.j l.q)) ≡ merge (multiples_of l.p) (multiples_of l.q);
}

abbrev pub decreases-terms : goal.decreases-terms
decreases-terms l = (length l.p - l.i) + (length l.q - l.j)
