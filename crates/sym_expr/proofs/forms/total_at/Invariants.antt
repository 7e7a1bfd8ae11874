use Rattle.std.proofs.Common.{◌≡◌, ◌≤◌, ◌*◌, ◌^◌, take, unsigned_abs}
use Rattle.cc_base.specs.Places.{at_place}
use Rattle.cc_base.specs.Holds.{total, or_zero}
use Rattle.sym_expr.specs.TermsSeen.{multiples_of}
use Rattle.sym_expr.proofs.forms.total_at.Given as goal

abbrev pub invariant-loop-term : goal.invariant-loop-term
invariant-loop-term l = record {
  value : l.sum ≡ total (or_zero (at_place l.places l.input l.base)) (multiples_of (take l.term-index l.terms));
  bound : unsigned_abs l.sum ≤ l.term-index * 2 ^ 103;
}
