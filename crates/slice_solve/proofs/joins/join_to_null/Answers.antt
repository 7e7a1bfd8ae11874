use Rattle.std.proofs.Common.{sym, arith, append-nil}
use Rattle.sym_expr.specs.AtomsSeen.{atoms_of}
use Rattle.sym_expr.specs.TermsSeen.{multiples_of}
use Rattle.slice_solve.specs.Joins.{all_null}
use Rattle.slice_solve.proofs.Steps.{null_more}
use Rattle.slice_solve.proofs.joins.join_to_null.Goals as goal

pub loop-atom-init : goal.loop-atom-init
unfolding all_null
loop-atom-init c = record { joined = sym (append-nil (atoms_of c.args.joins.now.items)); len = omega arith }

pub loop-atom-preserved : goal.loop-atom-preserved
loop-atom-preserved c = record {
  joined = null_more (atoms_of c.args.joins.now.items) (atoms_of c.loop-atom.joins.items) (atoms_of c.join_to.new.joins.items) c.args.alternative.now c.loop-atom.atom-index c.atom-item.result (multiples_of c.terms_of.result.now) c.loop-atom-test.true c.atom-item.is c.terms_of.ensures.terms c.in_ok-join_to.ensures.joined c.loop-atom.invariant.joined;
  len = omega (arith, c.in_ok-join_to.ensures.len, c.terms_of.ensures.few, c.loop-atom.invariant.len);
}
