use Rattle.std.proofs.Common.{◌≡◌, ◌≤◌, take}
use Rattle.arrayvec.specs.ArrayVec.{array_vec_len}
use Rattle.sym_expr.specs.TermsSeen.{multiples_of}
use Rattle.sym_expr.specs.Sums.{scaled}
use Rattle.sym_expr.proofs.forms.scaled_terms.Given as goal

abbrev pub invariant-loop-term : goal.invariant-loop-term
invariant-loop-term l = record {
  count : array_vec_len l.out ≤ l.term-index;
  made : multiples_of l.out.items ≡ scaled l.k (multiples_of (take l.term-index l.terms));
}
