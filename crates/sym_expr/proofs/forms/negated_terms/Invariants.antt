use Rattle.std.proofs.Common.{◌≡◌, map, take}
use Rattle.arrayvec.specs.ArrayVec.{array_vec_len}
use Rattle.sym_expr.specs.TermsSeen.{multiples_of}
use Rattle.sym_expr.specs.Sums.{negated}
use Rattle.sym_expr.proofs.forms.negated_terms.Given as goal

abbrev pub invariant-loop-term : goal.invariant-loop-term
invariant-loop-term l = record {
  count : array_vec_len l.out ≡ l.term-index;
  made : multiples_of l.out.items ≡ map negated (multiples_of (take l.term-index l.terms));
}
